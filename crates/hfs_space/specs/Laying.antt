-- A change that is laid over the changed blocks of an image.
use Rattle.std.specs.Prelude.{◌≡◌, ◌⊎◌, ℕ, Bool, true, ◌||◌, is_some, List}
use Rattle.std.specs.List.{list_any}
use Rattle.std.specs.Option.{option_or}
use Rattle.hfs_blocks.specs.declared.run.Run.{Run}
use Rattle.hfs_blocks.specs.Layers.{Numbered, changes, over}
use Rattle.hfs_space.specs.Clearing.{patched}
use Rattle.hfs_space.specs.Zeros.{is_of_run}
use Rattle.hfs_space.specs.Flags.{is_flagged, flagged}

-- what is shown over these blocks: the kept blocks over the flagged ones
abbrev pub shown : Numbered → List Bool → (ℕ → List ℕ) → ℕ → List ℕ
shown kept flags below = over (changes kept) (over (flagged flags) below)

-- it is what the patch over the runs of zeros shows over what was shown before
abbrev pub IsLaidWith : (ℕ → List ℕ) → Numbered → List Run → Numbered → List Bool → Numbered → List Bool → Type 0
IsLaidWith below patch runs old old_flags new new_flags = (k : ℕ) → shown new new_flags below k ≡ patched patch runs (shown old old_flags below) k

-- it is what was shown before
abbrev pub IsShownStill : (ℕ → List ℕ) → Numbered → List Bool → Numbered → List Bool → Type 0
IsShownStill below old old_flags new new_flags = (k : ℕ) → shown new new_flags below k ≡ shown old old_flags below k

-- the blocks of a patch, and those of another where it has none
abbrev pub IsPatchOver : Numbered → Numbered → Numbered → Type 0
IsPatchOver again patch all = (k : ℕ) → changes all k ≡ option_or (changes patch k) (changes again k)

-- a block is changed: it is kept, or its flag is set
abbrev pub is_changed : Numbered → List Bool → ℕ → Bool
is_changed kept flags n = is_some (changes kept n) || is_flagged flags n

-- then those are changed that were before, and those of the patch and of the runs
abbrev pub HasBlocks : Numbered → List Run → Numbered → List Bool → Numbered → List Bool → Type 0
HasBlocks patch runs old old_flags new new_flags = (n : ℕ) → is_changed new new_flags n ≡ (is_changed old old_flags n || (is_some (changes patch n) || list_any (is_of_run n) runs))

-- no flag is set but those that were before, and those of the runs
abbrev pub IsFlaggedAmong : List Run → List Bool → List Bool → Type 0
IsFlaggedAmong runs old new = (n : ℕ) → is_flagged new n ≡ true → (is_flagged old n ≡ true) ⊎ (list_any (is_of_run n) runs ≡ true)
