-- What the names of a folder are, and a folder that was emptied by them.
use Rattle.std.specs.Prelude.{◌≡◌, ◌==◌, ◌||◌, ◌&&◌, not, true, ℕ, Bool, List, [], ◌∷◌, ◌++◌, ◌⊎◌, eqb, if◌then◌else◌, length, codes, bytes_eq}
use Rattle.std.specs.Path.{has_no_slash}
use Rattle.std.specs.Str.{is_utf8}
use Rattle.hfs_bag.specs.ShelfPaths.{path_within}
use Rattle.hfs_bag.specs.SystemSteps.{SystemStep, removed_file, listed, named, done, failed}

-- a byte more at the beginning of the first name; where no name ends there is none
abbrev pub with_first : ℕ → List (List ℕ) → List (List ℕ)
with_first c [] = []
with_first c (name ∷ names) = (c ∷ name) ∷ names

-- the names in a text, each of which is ended by a zero byte
abbrev pub ended_names : List ℕ → List (List ℕ)
ended_names [] = []
ended_names (c ∷ text) = if eqb c 0 then [] ∷ ended_names text else with_first c (ended_names text)

-- the names in such bytes; none are found where they are no text
abbrev pub names_in : List ℕ → List (List ℕ)
names_in bytes = if is_utf8 bytes then ended_names bytes else []

-- it names something in a folder, and not the folder itself or the one around it, nor what lies deeper
abbrev pub is_entry : List ℕ → Bool
is_entry name = not (length name == 0 || bytes_eq name (codes ".") || bytes_eq name (codes "..")) && has_no_slash name

-- after these steps, what has this name in a folder is removed, if it names something in it
abbrev pub with_removal : List ℕ → List ℕ → List SystemStep → List SystemStep
with_removal folder name steps = if is_entry name then done (removed_file (path_within folder name)) ∷ steps else steps

-- so is what has these names, one after another
abbrev pub with_removals : List ℕ → List (List ℕ) → List SystemStep → List SystemStep
with_removals folder [] steps = steps
with_removals folder (name ∷ names) steps = with_removals folder names (with_removal folder name steps)

-- after these steps, a folder is opened for its names; they are read in these pieces, the last one first, and what a piece names is removed
-- before the next one is read
abbrev pub listing : List ℕ → List (List ℕ) → List SystemStep → List SystemStep
listing folder [] steps = done (listed folder) ∷ steps
listing folder (piece ∷ pieces) steps = with_removals folder (names_in piece) (done (named piece) ∷ listing folder pieces steps)

-- all that the names of a folder name is removed, up to their end or to a read of them that failed; or the folder was not opened for them
abbrev pub HasEmptied : List ℕ → List SystemStep → List SystemStep → Type 0
HasEmptied folder old new =
    (new ≡ failed (listed folder) ∷ old)
    ⊎ ((pieces : List (List ℕ)) × ((new ≡ done (named []) ∷ listing folder pieces old) ⊎ (new ≡ failed (named []) ∷ listing folder pieces old)))

-- of what these names name that was removed which comes before this one, and this one names something too
pub record HasRemovedTo (folder : List ℕ) (names : List (List ℕ)) (name : List ℕ) (old new : List SystemStep) : Type 0 where
  pub before : List (List ℕ)
  pub behind : List (List ℕ)
  pub names_are : names ≡ before ++ name ∷ behind
  pub is_one : is_entry name ≡ true
  pub removed : new ≡ with_removals folder before old

-- so it was of what the names of a folder name, as they were read
pub record HasEmptiedTo (folder name : List ℕ) (old new : List SystemStep) : Type 0 where
  pub piece : List ℕ
  pub pieces : List (List ℕ)
  pub removed : HasRemovedTo folder (names_in piece) name (done (named piece) ∷ listing folder pieces old) new
