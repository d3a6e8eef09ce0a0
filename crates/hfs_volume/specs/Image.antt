-- What contracts see of an image and of a mounted volume.
use Rattle.std.specs.Prelude.{◌≡◌, ℕ, ◌≤◌, Bool, false, List, length, ◌||◌, is_some, nat_eq, replicate}
use Rattle.std.specs.List.{list_any}
use Rattle.hfs_blocks.specs.Blocks.{block_at, block_count}
use Rattle.hfs_blocks.specs.Layers.{Numbered, Changes, AreWithin, changes, numbers}
use Rattle.hfs_volume.specs.Laid.{laid_over}

-- the bytes as they were opened, the bytes as they are, the numbers of the blocks that are kept as changed, each once, and the blocks of forks
-- that were written since
pub record ImageValue : Type 0 where
  pub base : List ℕ
  pub current : List ℕ
  pub changed : List ℕ
  pub written : List ℕ

-- the bytes, with the changed blocks in place of their own
abbrev pub patched : Numbered → List ℕ → List ℕ
patched changed bytes = laid_over (changes changed) bytes

-- the blocks that were read in their places in so many bytes, which are zeros elsewhere
abbrev pub copy_of : Numbered → ℕ → List ℕ
copy_of read len = patched read (replicate len 0)

-- an image with these blocks changed, and these written
abbrev pub image_of : List ℕ → Numbered → List ℕ → ImageValue
image_of base changed written = record { base = base; current = patched changed base; changed = numbers changed; written = written }

-- block n is kept as changed
abbrev pub is_changed : ImageValue → ℕ → Bool
is_changed image n = list_any (nat_eq n) image.changed

-- the new image keeps as changed what the old one did, and each block that there is
abbrev pub HasKept : ImageValue → Changes → ImageValue → Type 0
HasKept old changes new = (n : ℕ) → is_changed new n ≡ is_changed old n || is_some (changes n)

-- a block that isn't kept as changed is as it was
abbrev pub IsSameBeside : ImageValue → Type 0
IsSameBeside image = (n : ℕ) → is_changed image n ≡ false → block_at image.current n ≡ block_at image.base n

pub record IsImage (base : List ℕ) (changed : Numbered) : Type 0 where
  pub small : length base ≤ 2147483648
  pub within : AreWithin (changes changed) (block_count base)
