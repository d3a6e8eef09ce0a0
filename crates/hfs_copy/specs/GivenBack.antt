-- Blocks that calls filled with zeros and that went back to the volume in the same run: no file has them, and they are kept as changed.
use Rattle.std.specs.Prelude.{◌≡◌, ℕ, ◌+◌, ◌*◌, ◌<◌, true, false, List, ◌++◌, Some}
use Rattle.std.specs.List.{flat_map, range_with_len}
use Rattle.hfs_fields.specs.declared.mdb.Mdb.{Mdb}
use Rattle.hfs_fields.specs.Each.{Each}
use Rattle.hfs_fields.specs.Members.{In}
use Rattle.hfs_blocks.specs.declared.run.Run.{Run}
use Rattle.hfs_blocks.specs.Blocks.{block_at, block_count, run_of}
use Rattle.hfs_blocks.specs.Layers.{Numbered, changes, over}
use Rattle.hfs_space.specs.Bitmap.{is_used}
use Rattle.hfs_space.specs.Forks.{blocks_each}
use Rattle.hfs_check.specs.Parts.{Blocks, mdb_in}
use Rattle.hfs_source.specs.Sparse.{zero_block}
use Rattle.hfs_volume.specs.Image.{ImageValue, is_changed}
use Rattle.hfs_copy.specs.Keeping.{AreKept, GainsZeros, LieIn}

-- the logical blocks of an allocation block
abbrev pub blocks_of_one : Mdb → ℕ → List ℕ
blocks_of_one mdb b = range_with_len (mdb.allocation_start + b * blocks_each mdb) (blocks_each mdb)

-- the block is one of an allocation block that is not in use
pub record IsFreeBlock (blocks : Blocks) (n : ℕ) : Type 0 where
  pub b : ℕ
  pub within : b < (mdb_in blocks).allocation_blocks
  pub free : is_used blocks (mdb_in blocks).bitmap_start b ≡ false
  pub has : In n (blocks_of_one (mdb_in blocks) b)

-- the volume keeps the block as changed, and it is one of zeros
pub record IsChangedZeros (volume : ImageValue) (n : ℕ) : Type 0 where
  pub changed : is_changed volume n ≡ true
  pub zeros : block_at volume.current n ≡ zero_block

-- no file of the volume has the block, which it keeps as changed, and which is one of zeros
pub record IsGivenBack (volume : ImageValue) (n : ℕ) : Type 0 where
  pub free : IsFreeBlock (block_at volume.current) n
  pub zeros : IsChangedZeros volume n

-- these are those of some blocks that the volume keeps as changed and that are of zeros
pub record AreChangedZeros (volume : ImageValue) (among numbers : List ℕ) : Type 0 where
  pub each : Each (λ n. In n among × IsChangedZeros volume n) numbers
  pub all : Each (λ n. IsChangedZeros volume n → In n numbers) among

-- these are the blocks of a volume that go out: each that is other than it was, each of zeros of forks, and each of zeros of the free ones that
-- the volume keeps as changed
pub record AreKeptOf (volume : ImageValue) (forks free : List ℕ) (patch : Numbered) : Type 0 where
  pub zeros : List ℕ
  pub are : AreChangedZeros volume free zeros
  pub kept : AreKept (block_count volume.base) (forks ++ zeros) (block_at volume.base) (block_at volume.current) patch

-- ---- on the way

-- in these runs, which lie among so many blocks, are free blocks alone
pub record AreFreeIn (blocks : Blocks) (total : ℕ) (runs : List Run) : Type 0 where
  pub within : LieIn total runs
  pub free : Each (IsFreeBlock blocks) (flat_map run_of runs)

-- of these blocks those were added that are changed and of zeros
pub record GainsGivenBack (changed : Numbered) (numbers : List ℕ) (old kept : Numbered) : Type 0 where
  pub came : List ℕ
  pub each : Each (λ n. In n numbers × (changes changed n ≡ Some zero_block)) came
  pub all : Each (λ n. changes changed n ≡ Some zero_block → In n came) numbers
  pub gains : (below : ℕ → List ℕ) → GainsZeros (over (changes changed) below) came old kept
