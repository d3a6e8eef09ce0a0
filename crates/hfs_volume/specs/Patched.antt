-- What is written of an image with changed blocks laid over it.
use Rattle.std.specs.Prelude.{◌≡◌, ℕ, ◌+◌, ◌*◌, ◌%◌, ◌<◌, ◌≤◌, List, length, take, drop}
use Rattle.hfs_blocks.specs.Blocks.{block_count}
use Rattle.hfs_blocks.specs.Layers.{Numbered, changes, AreWithin}
use Rattle.hfs_source.specs.Images.{OfEach}
use Rattle.hfs_volume.specs.Image.{patched}
use Rattle.hfs_volume.specs.Laid.{laid_over}

-- bytes that begin with block first of an image, with its changed blocks in place of their own
abbrev pub patched_from : ℕ → Numbered → List ℕ → List ℕ
patched_from first changed bytes = laid_over (λ k. changes changed (first + k)) bytes

-- so many of the bytes from a block on
abbrev pub piece_of : ℕ → ℕ → List ℕ → List ℕ
piece_of first count bytes = take count (drop (512 * first) bytes)

-- each image of these that has so many bytes holds this with the changed blocks in place of its own
abbrev pub OfPatched : (List ℕ → Type 0) → ℕ → Numbered → (List ℕ → Type 0) → Type 0
OfPatched Holds len changed Fact = OfEach Holds (λ image. length image ≡ len → Fact (patched changed image))

-- so many bytes from a block of an image on are whole blocks, or the last of its bytes
pub record IsPiece (image : List ℕ) (first count : ℕ) : Type 0 where
  pub within : 512 * first + count ≤ length image
  pub whole : 512 * first + count < length image → count % 512 ≡ 0

-- a piece of each image of these that has the changed blocks holds this with these in place of its own
abbrev pub OfPiece : (List ℕ → Type 0) → Numbered → ℕ → ℕ → (List ℕ → Type 0) → Type 0
OfPiece Holds changed first count Fact =
    OfEach Holds (λ image. AreWithin (changes changed) (block_count image) → IsPiece image first count → Fact (piece_of first count (patched changed image)))
