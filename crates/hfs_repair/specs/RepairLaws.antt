-- What holds of repaired images. Each statement is what a function of src/repair_laws.rt ensures.
use Rattle.std.specs.Prelude.{◌≡◌, ℕ, List, length, slice_index}
use Rattle.hfs_blocks.specs.Blocks.{block_at}
use Rattle.hfs_check.specs.Sound.{IsSound}
use Rattle.hfs_repair.specs.Placed.{placed_in}
use Rattle.hfs_repair.specs.Repair.{repair, IsInNone}

-- a repair leaves the length, and each byte that is in no counted number
pub record KeepsOthers (old new : List ℕ) : Type 0 where
  pub len : length new ≡ length old
  pub bytes : (k : ℕ) → IsInNone (placed_in (block_at old)) k → slice_index new k ≡ slice_index old k

abbrev pub RepairKeepsOthers : Type 0
RepairKeepsOthers = (image : List ℕ) → KeepsOthers image (repair image)

-- a sound image is its own repair
abbrev pub RepairKeepsSoundImages : Type 0
RepairKeepsSoundImages = (image : List ℕ) → IsSound image → repair image ≡ image
