-- What removing what lies in a folder did.
use Rattle.std.specs.Prelude.{◌≡◌, ◌⊎◌, List, [], ◌∷◌, ℕ, Bool, true, false, Result, Ok, Err, MatchResult, Option, Some, None, String, string_bytes}
use Rattle.hfs_bag.specs.Laws.{HasNo}
use Rattle.hfs_bag.specs.Listings.{HasEmptied, HasEmptiedTo}
use Rattle.hfs_bag.specs.ShelfPaths.{path_within}
use Rattle.hfs_bag.specs.SystemSteps.{SystemStep, done, failed, found_folder, removed_file, removed_folder}
use Rattle.hfs_bag.specs.Removals.{FailsAt, HasSince, RemovesIn}
use Rattle.hfs_bag.specs.declared.removal.Tried.{Tried}
use Rattle.hfs_bag.specs.declared.removal.Tried.TheVariants as tried

-- all is gone, which is so; or it is so up to a name, at which a folder was found, or of which the file was not removed
abbrev pub HasTried : List ℕ → Type 0 → (List ℕ → List SystemStep → Type 0) → List SystemStep → Tried → Type 0
HasTried folder IsGone IsGoneTo new tried.Gone = IsGone
HasTried folder IsGone IsGoneTo new (tried.Folder name) =
    (before : List SystemStep) × IsGoneTo (string_bytes name) before × (new ≡ done (found_folder (path_within folder (string_bytes name))) ∷ before)
HasTried folder IsGone IsGoneTo new tried.Refused =
    (name : List ℕ) × (before : List SystemStep) × IsGoneTo name before × (new ≡ failed (removed_file (path_within folder name)) ∷ before)

-- there is something that is not gone
abbrev pub is_stopped : {E : Type 0} → Result Tried E → Bool
is_stopped (Ok tried.Gone) = false
is_stopped (Ok (tried.Folder name)) = true
is_stopped (Ok tried.Refused) = true
is_stopped (Err e) = true

-- so too; or memory was refused, and the steps since only remove in the folder
abbrev pub AnswersTried : {E : Type 0} → Result Tried E → List ℕ → Type 0 → (List ℕ → List SystemStep → Type 0) → List SystemStep → List SystemStep → Type 0
AnswersTried result folder IsGone IsGoneTo old new = MatchResult result (HasTried folder IsGone IsGoneTo new) (λ _. HasSince (RemovesIn folder) old new)

-- the path of what is at a path in a folder, which is empty for the folder itself
abbrev pub place_at : List ℕ → List ℕ → List ℕ
place_at folder [] = folder
place_at folder (c ∷ inner) = path_within folder (c ∷ inner)

-- the path of what has a name in what is at a path, which is empty for the folder where it begins
abbrev pub path_below : List ℕ → List ℕ → List ℕ
path_below [] name = name
path_below (c ∷ inner) name = path_within (c ∷ inner) name

-- a value that there is, or the error
abbrev pub some_of : {T E : Type 0} → Result T E → Result (Option T) E
some_of (Ok x) = Ok (Some x)
some_of (Err e) = Err e

-- what is at a path lies in what is at this one
abbrev pub IsAround : List ℕ → List ℕ → Type 0
IsAround inner around = (above : List ℕ) (name : List ℕ) → HasNo 47 name → inner ≡ path_below above name → around ≡ above

-- a folder was emptied and removed
abbrev pub HasRemoved : List ℕ → List SystemStep → List SystemStep → Type 0
HasRemoved folder old new = (emptied : List SystemStep) × HasEmptied folder old emptied × (new ≡ done (removed_folder folder) ∷ emptied)

-- it was emptied up to a folder in it, which is at this path
abbrev pub HasFoundNext : List ℕ → List ℕ → List ℕ → List SystemStep → List SystemStep → Type 0
HasFoundNext folder inner next old new = (name : List ℕ) × (next ≡ path_below inner name) × (emptied : List SystemStep)
    × HasEmptiedTo (place_at folder inner) name old emptied × (new ≡ done (found_folder (path_within (place_at folder inner) name)) ∷ emptied)

-- of what is at a path in a folder: a folder in it is the next place, or it was removed, and what is around it is the next; or it was the
-- folder itself that was removed, or that failed
abbrev pub HasNextPlace : {Z : Type 0} → List ℕ → List ℕ → List SystemStep → List SystemStep → Option (String Z) → Type 0
HasNextPlace folder inner old new (Some next) =
    HasFoundNext folder inner (string_bytes next) old new ⊎ (HasRemoved (place_at folder inner) old new × IsAround inner (string_bytes next))
HasNextPlace folder inner old new None = ((inner ≡ []) × HasRemoved folder old new) ⊎ FailsAt (place_at folder inner) old new
