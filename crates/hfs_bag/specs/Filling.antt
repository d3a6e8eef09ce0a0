-- Streams that go to a shelf and to a digest.
use Rattle.std.specs.Prelude.{◌≡◌, ℕ, ◌<◌, List, [], ◌∷◌, ◌++◌, Bool, true, false, Option, None}
use Rattle.hfs_bag.specs.Entries.{ShelfEntry, file, with_piece}
use Rattle.hfs_bag.specs.Sources.{SourceState, SameItems}

-- a digest that held a message holds these bytes behind it
abbrev pub HoldsMore : (List ℕ → Type 0) → (List ℕ → Type 0) → List ℕ → Type 0
HoldsMore Held Holds bytes = (m : List ℕ) → Held m → Holds (m ++ bytes)

-- some of a stream's bytes went to the shelf and to the digest: the shelf with those that are left is as the shelf before with all of them
pub record HasMoved (given_old given_new : List ShelfEntry) (old new : SourceState) (Held Holds : List ℕ → Type 0) : Type 0 where
  pub same : SameItems old new
  pub moved : List ℕ
  pub bytes : old.bytes ≡ moved ++ new.bytes
  pub given : with_piece given_new new.bytes ≡ with_piece given_old old.bytes
  pub digest : HoldsMore Held Holds moved

-- fewer are left; or none are, and then this holds
abbrev pub IsMore : ℕ → ℕ → Type 0 → Bool → Type 0
IsMore old new Done true = new < old
IsMore old new Done false = Done

-- what was given, and then a whole file, which is to have a time
abbrev pub with_dated_file : List ShelfEntry → List ℕ → Option ℕ → List ℕ → List ShelfEntry
with_dated_file given path time bytes = given ++ file path time bytes ∷ []

-- what was given, and then a whole file without a time
abbrev pub with_whole_file : List ShelfEntry → List ℕ → List ℕ → List ShelfEntry
with_whole_file given path bytes = with_dated_file given path None bytes
