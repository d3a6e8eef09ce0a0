-- Where the parts of a volume lie, which no call changes.
use Rattle.std.proofs.Common.{◌≡◌}
use Rattle.hfs_fields.specs.declared.mdb.Mdb.{Mdb}

-- the fields of the master directory block that say where things lie
pub record SameLayout (old new : Mdb) : Type 0 where
  pub bitmap_start : new.bitmap_start ≡ old.bitmap_start
  pub allocation_blocks : new.allocation_blocks ≡ old.allocation_blocks
  pub allocation_block_size : new.allocation_block_size ≡ old.allocation_block_size
  pub allocation_start : new.allocation_start ≡ old.allocation_start
  pub extents_file : new.extents_file ≡ old.extents_file
