-- A master directory block as it is written, and what is read from the bytes afterwards.
use Rattle.std.proofs.Common.{◌≡◌, ℕ, ◌^◌, ◌<◌, List, ◌++◌, length}
use Rattle.byteorder.specs.Endian.{big_bytes}
use Rattle.hfs_fields.specs.RecordForms.{AreExtentValues, extents_bytes}
use Rattle.hfs_fields.specs.declared.mdb.Mdb.{Mdb}

-- what the program's master directory blocks keep, up to the volume's name
pub record IsMdbHeadValue (mdb : Mdb) : Type 0 where
  pub signature : mdb.signature < 2 ^ 16
  pub created : mdb.created < 2 ^ 32
  pub modified : mdb.modified < 2 ^ 32
  pub attributes : mdb.attributes.0 < 2 ^ 16
  pub root_files : mdb.root_files < 2 ^ 16
  pub bitmap_start : mdb.bitmap_start < 2 ^ 16
  pub allocation_pointer : mdb.allocation_pointer < 2 ^ 16
  pub allocation_blocks : mdb.allocation_blocks < 2 ^ 16
  pub allocation_block_size : mdb.allocation_block_size < 2 ^ 32
  pub clump_size : mdb.clump_size < 2 ^ 32
  pub allocation_start : mdb.allocation_start < 2 ^ 16
  pub next_id : mdb.next_id < 2 ^ 32
  pub free_blocks : mdb.free_blocks < 2 ^ 16
  pub volume_name : length mdb.volume_name ≡ 28

-- and after it
pub record IsMdbTailValue (mdb : Mdb) : Type 0 where
  pub backup : mdb.backup < 2 ^ 32
  pub backup_sequence : mdb.backup_sequence < 2 ^ 16
  pub write_count : mdb.write_count < 2 ^ 32
  pub extents_clump_size : mdb.extents_clump_size < 2 ^ 32
  pub catalog_clump_size : mdb.catalog_clump_size < 2 ^ 32
  pub root_folders : mdb.root_folders < 2 ^ 16
  pub files : mdb.files < 2 ^ 32
  pub folders : mdb.folders < 2 ^ 32
  pub finder_info : length mdb.finder_info ≡ 32
  pub cache_size : mdb.cache_size < 2 ^ 16
  pub bitmap_cache_size : mdb.bitmap_cache_size < 2 ^ 16
  pub control_cache_size : mdb.control_cache_size < 2 ^ 16
  pub extents_file_size : mdb.extents_file_size < 2 ^ 32
  pub extents_file : AreExtentValues mdb.extents_file
  pub catalog_file_size : mdb.catalog_file_size < 2 ^ 32
  pub catalog_file : AreExtentValues mdb.catalog_file

pub record IsMdbValue (mdb : Mdb) : Type 0 where
  pub head : IsMdbHeadValue mdb
  pub tail : IsMdbTailValue mdb

-- the fields up to the volume's name, 64 bytes
unfoldable pub mdb_head_bytes : Mdb → List ℕ
mdb_head_bytes mdb =
    big_bytes 2 mdb.signature ++ big_bytes 4 mdb.created ++ big_bytes 4 mdb.modified ++ big_bytes 2 mdb.attributes.0 ++ big_bytes 2 mdb.root_files
    ++ big_bytes 2 mdb.bitmap_start ++ big_bytes 2 mdb.allocation_pointer ++ big_bytes 2 mdb.allocation_blocks
    ++ big_bytes 4 mdb.allocation_block_size ++ big_bytes 4 mdb.clump_size ++ big_bytes 2 mdb.allocation_start ++ big_bytes 4 mdb.next_id
    ++ big_bytes 2 mdb.free_blocks ++ mdb.volume_name

-- the fields after the volume's name, 98 bytes
unfoldable pub mdb_tail_bytes : Mdb → List ℕ
mdb_tail_bytes mdb =
    big_bytes 4 mdb.backup ++ big_bytes 2 mdb.backup_sequence ++ big_bytes 4 mdb.write_count ++ big_bytes 4 mdb.extents_clump_size
    ++ big_bytes 4 mdb.catalog_clump_size ++ big_bytes 2 mdb.root_folders ++ big_bytes 4 mdb.files ++ big_bytes 4 mdb.folders ++ mdb.finder_info
    ++ big_bytes 2 mdb.cache_size ++ big_bytes 2 mdb.bitmap_cache_size ++ big_bytes 2 mdb.control_cache_size ++ big_bytes 4 mdb.extents_file_size
    ++ extents_bytes mdb.extents_file ++ big_bytes 4 mdb.catalog_file_size ++ extents_bytes mdb.catalog_file

-- the 162 bytes that have fields
unfoldable pub mdb_bytes : Mdb → List ℕ
mdb_bytes mdb = mdb_head_bytes mdb ++ mdb_tail_bytes mdb
