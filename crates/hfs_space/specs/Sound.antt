-- When the extents and the space of a volume are sound: one fact for each check.
use Rattle.std.specs.Prelude.{◌≡◌, ℕ, ◌*◌, ◌<◌, ◌≤◌, IsTrue, not, List}
use Rattle.hfs_fields.specs.declared.mdb.Mdb.{Mdb}
use Rattle.hfs_fields.specs.declared.extent.Extent.{Extent}
use Rattle.hfs_fields.specs.declared.key.CatKey.{CatKey}
use Rattle.hfs_fields.specs.declared.key.ExtKey.{ExtKey}
use Rattle.hfs_btree.specs.Pairs.{Pairs}
use Rattle.hfs_fields.specs.Each.{Each}
use Rattle.hfs_btree.specs.Sound.{IsDistinct}
use Rattle.hfs_space.specs.Extents.{Overflow, block_total, record_extents, AreExtentsWithin}
use Rattle.hfs_space.specs.Owners.{Fork, forks_of, all_forks, extents_in, is_bad_blocks, goes_on_with}
use Rattle.hfs_space.specs.Bitmap.{is_used, clear_count}

-- ---- the file of a tree

-- its extents lie in the volume, and their blocks have room for its bytes, which are a node's at least
pub record IsTreeFile (mdb : Mdb) (extents : List Extent) (size : ℕ) : Type 0 where
  pub within : AreExtentsWithin mdb.allocation_blocks extents
  pub room : size ≤ block_total extents * mdb.allocation_block_size
  pub node : 512 ≤ size

-- ---- forks

-- the fork's extents, those of its overflow records among them, lie in the volume, and their blocks have room for its bytes
pub record IsForkSound (mdb : Mdb) (overflow : Overflow) (f : Fork) : Type 0 where
  pub within : AreExtentsWithin mdb.allocation_blocks (extents_in overflow f)
  pub room : f.len ≤ block_total (extents_in overflow f) * mdb.allocation_block_size

-- a record of the extents tree has a block; one of the bad blocks has its extents in the volume, and with any other a fork
-- goes on
pub record IsOverflowSound (mdb : Mdb) (overflow : Overflow) (forks : List Fork) (r : ExtKey × List ℕ) : Type 0 where
  pub some : 0 < block_total (record_extents r.1)
  pub bad : IsTrue (is_bad_blocks r) → AreExtentsWithin mdb.allocation_blocks (record_extents r.1)
  pub used : IsTrue (not (is_bad_blocks r)) → IsTrue (goes_on_with overflow forks r)

-- both forks of each file are sound, and each record of the extents tree
pub record AreForksSound (mdb : Mdb) (overflow : Overflow) (catalog : Pairs CatKey) : Type 0 where
  pub files : Each (λ r. Each (IsForkSound mdb overflow) (forks_of r)) catalog
  pub records : Each (IsOverflowSound mdb overflow (all_forks mdb catalog)) overflow

-- ---- space

-- of these blocks, which somebody owns, none is owned twice, and each is marked; the master directory block counts the
-- clear bits
pub record IsSpaceSound (blocks : ℕ → List ℕ) (mdb : Mdb) (owned : List ℕ) : Type 0 where
  pub once : IsDistinct owned
  pub marked : Each (λ b. IsTrue (is_used blocks mdb.bitmap_start b)) owned
  pub counted : mdb.free_blocks ≡ clear_count blocks mdb.bitmap_start mdb.allocation_blocks
