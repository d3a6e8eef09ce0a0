-- What holds of the numbers of a new volume, and its master directory block read back.
use Rattle.std.proofs.Common.{◌≡◌, ℕ, zero, suc, ◌+◌, ◌-◌, ◌*◌, ◌^◌, ◌<◌, ◌≤◌, List, length, take, get_or, replicate, refl, arith}
use Rattle.std.specs.Prelude.{IsTrue}
use Rattle.std.proofs.Math.Nat.{mul-le-mul_right, add-mul}
use Rattle.std.proofs.lemmas.List.{length-append, length-replicate}
use Rattle.hfs_fields.specs.Mdb.{mdb_of}
use Rattle.hfs_fields.specs.MdbForm.{IsMdbHeadValue, IsMdbTailValue, IsMdbValue, mdb_bytes}
use Rattle.hfs_fields.proofs.MdbFormLemmas.{length-mdb_bytes, mdb_of-first}
use Rattle.hfs_fields.specs.Names.{is_item_name}
use Rattle.hfs_fields.specs.RecordForms.{IsExtentValue, AreExtentValues}
use Rattle.hfs_fields.specs.declared.extent.Extent.{Extent}
use Rattle.hfs_format.specs.declared.layout.Layout.{Layout}
use Rattle.hfs_format.specs.Plan.{used_blocks, IsLayout}
use Rattle.hfs_format.specs.NewMdb.{one_run, volume_name_bytes, new_mdb, new_mdb_block}

-- what the numbers of a plan without fault keep
pub record IsNewVolume (volume : Layout) : Type 0 where
  pub item_name : IsTrue (is_item_name volume.name)
  pub name : length volume.name ≤ 27
  pub moment : volume.moment < 2 ^ 32
  pub blocks : volume.blocks ≤ 4194304
  pub factor : volume.factor ≤ 65
  pub some_factor : 1 ≤ volume.factor
  pub start : volume.start ≤ 19
  pub behind_bitmap : 3 ≤ volume.start
  pub allocation_blocks : volume.allocation_blocks < 2 ^ 16
  -- the bitmap has a bit for each allocation block
  pub bitmap : volume.allocation_blocks ≤ 4096 * (volume.start - 3)
  -- the allocation blocks lie before the alternate master directory block
  pub area : volume.start + volume.allocation_blocks * volume.factor + 2 ≤ volume.blocks
  pub room : used_blocks volume ≤ volume.allocation_blocks
  pub extents : volume.extents.nodes ≡ volume.extents.blocks * volume.factor
  pub some_extents : 1 ≤ volume.extents.nodes
  pub catalog : volume.catalog.nodes ≡ volume.catalog.blocks * volume.factor
  pub some_catalog : 2 ≤ volume.catalog.nodes

-- both files lie before the alternate master directory block
pub files-within : (volume : Layout) → IsNewVolume volume → volume.start + volume.extents.nodes + volume.catalog.nodes + 2 ≤ volume.blocks
files-within volume ok =
    let room = mul-le-mul_right volume.factor ok.room in
    let split = add-mul volume.extents.blocks volume.catalog.blocks volume.factor in
    omega (arith, room, split, ok.extents, ok.catalog, ok.area)

pub is_layout-new : (volume : Layout) → IsNewVolume volume → IsLayout volume
is_layout-new volume ok = record {
  name = ok.name;
  blocks = ok.blocks;
  start = ok.start;
  factor = ok.factor;
  room = ok.room;
  some_extents = ok.some_extents;
  some_catalog = ok.some_catalog;
  nodes = files-within volume ok;
}

-- ---- the master directory block

run-each : (first count : ℕ) → first < 2 ^ 16 → count < 2 ^ 16 → (k : ℕ) (d : Extent) → k < 3 → IsExtentValue (get_or (one_run first count) k d)
run-each first count f c zero d lt = record { first = f; count = c }
run-each first count f c (suc zero) d lt = record { first = omega arith; count = omega arith }
run-each first count f c (suc (suc zero)) d lt = record { first = omega arith; count = omega arith }
run-each first count f c (suc (suc (suc k))) d lt = absurd (omega arith)

pub one_run-values : (first count : ℕ) → first < 2 ^ 16 → count < 2 ^ 16 → AreExtentValues (one_run first count)
one_run-values first count f c = record { three = refl; each = run-each first count f c }

length-name_bytes : (name : List ℕ) → length name ≤ 27 → length (volume_name_bytes name) ≡ 28
length-name_bytes name short = omega (arith, length-append name (replicate (27 - length name) 0), length-replicate {A = ℕ} (27 - length name) 0)

head-value : (volume : Layout) → IsNewVolume volume → IsMdbHeadValue (new_mdb volume)
unfolding new_mdb
head-value volume ok = record {
  signature = omega arith;
  created = ok.moment;
  modified = ok.moment;
  attributes = omega arith;
  root_files = omega arith;
  bitmap_start = omega arith;
  allocation_pointer = omega arith;
  allocation_blocks = ok.allocation_blocks;
  allocation_block_size = omega arith;
  clump_size = omega arith;
  allocation_start = omega arith;
  next_id = omega arith;
  free_blocks = omega arith;
  volume_name = length-name_bytes volume.name ok.name;
}

tail-value : (volume : Layout) → IsNewVolume volume → IsMdbTailValue (new_mdb volume)
unfolding new_mdb
tail-value volume ok = let within = files-within volume ok in record {
  backup = omega arith;
  backup_sequence = omega arith;
  write_count = omega arith;
  extents_clump_size = omega arith;
  catalog_clump_size = omega arith;
  root_folders = omega arith;
  files = omega arith;
  folders = omega arith;
  finder_info = refl;
  cache_size = omega arith;
  bitmap_cache_size = omega arith;
  control_cache_size = omega arith;
  extents_file_size = omega arith;
  extents_file = one_run-values 0 volume.extents.blocks (omega arith) (omega arith);
  catalog_file_size = omega arith;
  catalog_file = one_run-values volume.extents.blocks volume.catalog.blocks (omega arith) (omega arith);
}

mdb-value : (volume : Layout) → IsNewVolume volume → IsMdbValue (new_mdb volume)
mdb-value volume ok = record { head = head-value volume ok; tail = tail-value volume ok }

pub length-new_mdb_block : (volume : Layout) → IsNewVolume volume → length (new_mdb_block volume) ≡ 512
unfolding new_mdb_block
length-new_mdb_block volume ok =
    omega (arith, length-append (mdb_bytes (new_mdb volume)) (replicate 350 0), length-mdb_bytes (new_mdb volume) (mdb-value volume ok), length-replicate {A = ℕ} 350 0)

-- the block's fields are those of the new volume
pub mdb_of-new : (volume : Layout) → IsNewVolume volume → mdb_of (take 162 (new_mdb_block volume)) ≡ new_mdb volume
unfolding new_mdb_block
mdb_of-new volume ok = mdb_of-first (new_mdb volume) (replicate 350 0) (mdb-value volume ok)
