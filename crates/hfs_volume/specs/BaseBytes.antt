-- The bytes of a base: all that an image has, or the blocks that were read of it, with zeros elsewhere.
use Rattle.std.specs.Prelude.{◌≡◌, ℕ, ◌*◌, ◌/◌, ◌%◌, ◌≤◌, List, length, drop, replicate, ⊤}
use Rattle.std.specs.Arc.{arc_value}
use Rattle.hfs_blocks.specs.Blocks.{block_count}
use Rattle.hfs_blocks.specs.Layers.{changes, AreWithin}
use Rattle.hfs_volume.specs.declared.base.BaseKind.{BaseKind}
use Rattle.hfs_volume.specs.declared.base.BaseKind.TheVariants.{Whole, Read}
use Rattle.hfs_volume.specs.Image.{copy_of}

abbrev pub base_bytes : BaseKind → List ℕ
base_bytes (Whole bytes) = (arc_value bytes).items
base_bytes (Read read len) = copy_of (arc_value read) len

-- the blocks that were read lie among those of an image of so many bytes
abbrev pub AreReadWithin : BaseKind → Type 0
AreReadWithin (Whole bytes) = ⊤
AreReadWithin (Read read len) = AreWithin (changes (arc_value read)) (len / 512)

pub record IsBase (kind : BaseKind) : Type 0 where
  pub small : length (base_bytes kind) ≤ 2147483648
  pub within : AreReadWithin kind

-- what follows the last whole block is zeros
abbrev pub EndsInZeros : List ℕ → Type 0
EndsInZeros bytes = drop (512 * block_count bytes) bytes ≡ replicate (length bytes % 512) 0
