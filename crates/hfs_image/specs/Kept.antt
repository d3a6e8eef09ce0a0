-- A range of a file that stays the same range while it is read.
use Rattle.std.specs.Prelude.{◌≡◌, ℕ, List}
use Rattle.hfs_source.specs.Images.{FailsInRange, IsRangeOf, OfEach}
use Rattle.hfs_source.specs.declared.range.RangeBytes.{RangeBytes}

-- the range begins at this byte of its file and has so many bytes, and each file that has the bytes which were read is one of these
pub record IsKept {S : Type 0} (Holds : S → List ℕ → Type 0) (start len : ℕ) (Picked : List ℕ → Type 0) (range : RangeBytes S) : Type 0 where
  pub start_is : range.start ≡ start
  pub len_is : range.len ≡ len
  pub narrows : OfEach (Holds range.bytes) Picked

-- it is the same range as before, of a file of which more may have been read
abbrev pub IsSameRange : {S : Type 0} → (S → List ℕ → Type 0) → RangeBytes S → RangeBytes S → Type 0
IsSameRange Holds old new = IsKept Holds old.start old.len (Holds old.bytes) new

-- the range in each file that has the bytes which were read
abbrev pub range_images : {S : Type 0} → (S → List ℕ → Type 0) → RangeBytes S → List ℕ → Type 0
range_images Holds range = IsRangeOf (Holds range.bytes) range.start range.len

-- where a read of the range may fail
abbrev pub range_failures : {S : Type 0} → (S → ℕ → ℕ → Type 0) → RangeBytes S → ℕ → ℕ → Type 0
range_failures Fails range = FailsInRange (Fails range.bytes) range.start range.len
