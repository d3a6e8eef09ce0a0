-- Parts of an image that is picked.
use Rattle.std.specs.Prelude.{◌≡◌, ℕ, ◌+◌, ◌<◌, ◌≤◌, ◌^◌, ◌⊎◌, List, length}
use Rattle.hfs_source.specs.declared.ranges.Layout.{Layout}
use Rattle.hfs_fields.specs.Each.{Each}
use Rattle.hfs_source.specs.declared.ranges.ByteRange.{ByteRange}
use Rattle.hfs_source.specs.declared.ranges.FoundRange.{FoundRange}
use Rattle.hfs_source.specs.declared.ranges.Layout.TheVariants.{Plain, Raw}
use Rattle.hfs_source.specs.Reading.{FailsInSector}
use Rattle.hfs_source.specs.Ranges.{bytes_in, range_of}
use Rattle.hfs_source.specs.Sectors.{user_data_of}

-- the bytes in which volumes lie: a file's own, or the user data of its raw sectors
abbrev pub content_of : Layout → List ℕ → List ℕ
content_of Plain file = file
content_of Raw file = user_data_of file

-- where it reads from, what that is, and which range of the content it is
pub record PartValue (S : Type 0) : Type 0 where
  pub source : S
  pub layout : Layout
  pub start : ℕ
  pub len : ℕ

-- the range lies in the content, where the source has what was read of this image
pub record IsInside {S : Type 0} (Holds : S → List ℕ → Type 0) (image : List ℕ) (part : PartValue S) : Type 0 where
  pub few : part.start + part.len < 2 ^ 63
  pub inside : Holds part.source image → part.start + part.len ≤ length (content_of part.layout image)

-- these bytes are the range, and the source has what was read of this image
pub record IsPartOf {S : Type 0} (Holds : S → List ℕ → Type 0) (image : List ℕ) (part : PartValue S) (bytes : List ℕ) : Type 0 where
  pub has : Holds part.source image
  pub is : bytes ≡ bytes_in (range_of part.start part.len) (content_of part.layout image)

-- the bytes of the range, if it has any, are in the content
abbrev pub LiesIn : ByteRange → List ℕ → Type 0
LiesIn range content = 1 ≤ range.len → range.start + range.len ≤ length content

-- each of these ranges lies there
abbrev pub LieIn : List FoundRange → List ℕ → Type 0
LieIn ranges content = Each (λ found. LiesIn found.range content) ranges

-- where a read of the content may fail: of raw sectors, where that of a sector may fail in which some of it is
abbrev pub FailsInContent : Layout → (ℕ → ℕ → Type 0) → ℕ → ℕ → Type 0
FailsInContent Plain Fails place count = Fails place count
FailsInContent Raw Fails place count = FailsInSector Fails place count

-- a read of the range may fail where it leads past its end, or where that of the content may fail
abbrev pub FailsInPart : {S : Type 0} → (S → ℕ → ℕ → Type 0) → PartValue S → ℕ → ℕ → Type 0
FailsInPart Fails part place count = (part.len < place + count) ⊎ FailsInContent part.layout (Fails part.source) (part.start + place) count
