-- The allocation blocks of a new volume, as they are computed where its nodes are told.
use Rattle.std.specs.Prelude.{ℕ, ◌≡◌, ◌+◌, ◌-◌, ◌/◌, refl}
use Rattle.hfs_format.specs.Plan.{allocation_blocks, allocation_start, bitmap_blocks, block_factor}

pub allocation_blocks_is : (blocks : ℕ) → (blocks - 2 - (3 + (blocks / block_factor blocks + 4095) / 4096)) / block_factor blocks ≡ allocation_blocks blocks
unfolding allocation_blocks allocation_start bitmap_blocks
allocation_blocks_is blocks = refl
