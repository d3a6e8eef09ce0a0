-- What is said about each image that has the bytes which were read.
use Rattle.std.specs.Prelude.{ℕ, List, Option, Some}
use Rattle.hfs_source.specs.Images.{OfEach}
use Rattle.hfs_blocks.specs.Layers.{Numbered}
use Rattle.hfs_source.specs.Sparse.{IsOf}
use Rattle.hfs_source.specs.Held.{HoldsBlocks}

-- each image that holds now held before, and what was read since is of it, if what was read before is
pub record SeesMore (old new : List ℕ → Type 0) (before after : Numbered) : Type 0 where
  pub held : OfEach new old
  pub stays : (image : List ℕ) → new image → IsOf image before → IsOf image after

-- this holds of each image that holds, as of an image whose bytes are known
abbrev pub EachKnown : (List ℕ → Type 0) → (Option (List ℕ) → Type 0) → Type 0
EachKnown Holds Fact = OfEach Holds (λ image. Fact (Some image))

-- what was read is of each image that holds
abbrev pub IsSeen : (List ℕ → Type 0) → Numbered → Type 0
IsSeen Holds read = OfEach Holds (λ image. IsOf image read)

-- so many blocks from a number on of each image that holds are from this place on
abbrev pub SeesBlocks : (List ℕ → Type 0) → ℕ → ℕ → ℕ → List ℕ → Type 0
SeesBlocks Holds first count place bytes = EachKnown Holds (λ known. HoldsBlocks known first count place bytes)
