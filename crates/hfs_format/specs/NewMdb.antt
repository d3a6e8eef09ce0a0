-- The master directory block of a new volume.
use Rattle.std.specs.Prelude.{ℕ, ◌-◌, ◌*◌, List, [], ◌∷◌, ◌++◌, length, replicate}
use Rattle.hfs_fields.specs.MdbForm.{mdb_bytes}
use Rattle.hfs_fields.specs.declared.extent.Extent.{Extent}
use Rattle.hfs_fields.specs.declared.mdb.Mdb.{Mdb}
use Rattle.hfs_format.specs.declared.layout.Layout.{Layout}
use Rattle.hfs_format.specs.Plan.{used_blocks}

abbrev pub no_extent : Extent
no_extent = record { first = 0; count = 0 }

-- an extent record of one run of allocation blocks
abbrev pub one_run : ℕ → ℕ → List Extent
one_run first count = record { first = first; count = count } ∷ no_extent ∷ no_extent ∷ []

-- a length byte, the name, and zeros up to 28 bytes
abbrev pub volume_name_bytes : List ℕ → List ℕ
volume_name_bytes name = length name ∷ [] ++ name ++ replicate (27 - length name) 0

-- the fields of a new volume: its numbers, the moment of its making, and zeros
unfoldable pub new_mdb : Layout → Mdb
new_mdb volume = record {
  signature = 0x4244;
  created = volume.moment;
  modified = volume.moment;
  attributes = record { 0 = 0x0100 };
  root_files = 0;
  bitmap_start = 3;
  allocation_pointer = 0;
  allocation_blocks = volume.allocation_blocks;
  allocation_block_size = 512 * volume.factor;
  clump_size = 4 * (512 * volume.factor);
  allocation_start = volume.start;
  next_id = 16;
  free_blocks = volume.allocation_blocks - used_blocks volume;
  volume_name = volume_name_bytes volume.name;
  backup = 0;
  backup_sequence = 0;
  write_count = 0;
  extents_clump_size = 512 * volume.extents.nodes;
  catalog_clump_size = 512 * volume.catalog.nodes;
  root_folders = 0;
  files = 0;
  folders = 0;
  finder_info = replicate 32 0;
  cache_size = 0;
  bitmap_cache_size = 0;
  control_cache_size = 0;
  extents_file_size = 512 * volume.extents.nodes;
  extents_file = one_run 0 volume.extents.blocks;
  catalog_file_size = 512 * volume.catalog.nodes;
  catalog_file = one_run volume.extents.blocks volume.catalog.blocks;
}

-- the block: its fields, and zeros after them
unfoldable pub new_mdb_block : Layout → List ℕ
new_mdb_block volume = mdb_bytes (new_mdb volume) ++ replicate 350 0
