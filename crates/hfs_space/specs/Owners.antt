-- The forks of a volume, and who owns its allocation blocks.
use Rattle.std.specs.Prelude.{ℕ, Bool, ◌&&◌, ◌||◌, ◌==◌, if◌then◌else◌, List, [], ◌∷◌, ◌++◌, filter, count_by, map}
use Rattle.std.specs.List.{flat_map, list_any, range_with_len}
use Rattle.std.specs.Ordering.{is_eq}
use Rattle.hfs_fields.specs.declared.mdb.Mdb.{Mdb}
use Rattle.hfs_fields.specs.declared.extent.Extent.{Extent}
use Rattle.hfs_fields.specs.declared.key.CatKey.{CatKey}
use Rattle.hfs_fields.specs.declared.key.ExtKey.{ExtKey}
use Rattle.hfs_fields.specs.declared.file_record.FileRecord.{FileRecord}
use Rattle.hfs_fields.specs.Records.{is_file, file_record_of}
use Rattle.hfs_fields.specs.Keys.{ext_cmp}
use Rattle.hfs_btree.specs.Pairs.{Pairs}
use Rattle.hfs_space.specs.Extents.{Overflow, block_total, extent_blocks, record_extents, run_on, fork_extents}
use Rattle.hfs_space.specs.Bitmap.{is_used}
use Rattle.hfs_space.specs.TreeKeys.{overflow_of}

-- ---- forks

-- a fork as the records have it: its file, its byte in the keys, its length in bytes, and its first extents
pub record Fork : Type 0 where
  pub file : ℕ
  pub fork : ℕ
  pub len : ℕ
  pub first : List Extent

-- the two forks of a file's record
unfoldable pub forks_of_file : FileRecord → List Fork
forks_of_file f =
    (record { file = f.id; fork = 0; len = f.«data».length; first = f.«data».extents }) ∷ (record { file = f.id; fork = 255; len = f.resource.length; first = f.resource.extents }) ∷ []

-- the forks that a record of the catalog has
abbrev pub forks_of : CatKey × List ℕ → List Fork
forks_of r = if is_file r.1 then forks_of_file (file_record_of r.1) else []

-- the catalog file is file 4, and its data fork begins with the master directory block's extents
unfoldable pub catalog_fork : Mdb → Fork
catalog_fork mdb = record { file = 4; fork = 0; len = mdb.catalog_file_size; first = mdb.catalog_file }

-- the forks that may go on in the extents tree; the extents file itself does not
abbrev pub all_forks : Mdb → Pairs CatKey → List Fork
all_forks mdb catalog = catalog_fork mdb ∷ flat_map forks_of catalog

-- all extents of a fork
abbrev pub extents_in : Overflow → Fork → List Extent
extents_in overflow f = fork_extents overflow f.file f.fork f.first

-- the records of the extents tree that a fork goes on with
abbrev pub records_in : Overflow → Fork → Overflow
records_in overflow f = run_on f.file f.fork (block_total f.first) overflow

-- ---- the records of the extents tree

-- file 5 has the bad blocks
abbrev pub is_bad_blocks : ExtKey × List ℕ → Bool
is_bad_blocks r = r.0.file == 5

-- some fork goes on with this record
unfoldable pub goes_on_with : Overflow → List Fork → ExtKey × List ℕ → Bool
goes_on_with overflow forks r = list_any (λ f. list_any (λ q. is_eq (ext_cmp r.0 q.0)) (records_in overflow f)) forks

-- ---- owners

-- the extents of the bad blocks
abbrev pub bad_extents : Overflow → List Extent
bad_extents overflow = flat_map (λ r. record_extents r.1) (filter is_bad_blocks overflow)

-- all extents that somebody owns: files, the catalog file, the extents file, the bad blocks
unfoldable pub owned_extents : Mdb → Overflow → Pairs CatKey → List Extent
owned_extents mdb overflow catalog = flat_map (extents_in overflow) (all_forks mdb catalog) ++ mdb.extents_file ++ bad_extents overflow

-- the blocks that somebody owns, once for each owner
unfoldable pub owned_blocks : Mdb → Overflow → Pairs CatKey → List ℕ
owned_blocks mdb overflow catalog = extent_blocks (owned_extents mdb overflow catalog)

-- how many own a block
abbrev pub owners : List ℕ → ℕ → ℕ
owners owned block = count_by (λ o. o == block) owned

-- the block is owned by at most one, and marked where it is owned
unfoldable pub is_block_sound : (ℕ → List ℕ) → Mdb → List ℕ → ℕ → Bool
is_block_sound blocks mdb owned block = (owners owned block == 0) || ((owners owned block == 1) && is_used blocks mdb.bitmap_start block)

-- the block is marked, and nobody owns it
unfoldable pub is_stray_block : (ℕ → List ℕ) → Mdb → List ℕ → ℕ → Bool
is_stray_block blocks mdb owned block = (owners owned block == 0) && is_used blocks mdb.bitmap_start block

-- the extents of a file's forks
abbrev pub extents_of_file : Overflow → FileRecord → List Extent
extents_of_file overflow file = flat_map (extents_in overflow) (forks_of_file file)

-- for each of the first n blocks, how many own it
abbrev pub owner_counts : List ℕ → ℕ → List ℕ
owner_counts owned n = map (owners owned) (range_with_len 0 n)

-- all extents that somebody owns, where these are the nodes of the extents tree
abbrev pub owned_in : Mdb → List (List ℕ) → Pairs CatKey → List Extent
owned_in mdb nodes catalog = owned_extents mdb (overflow_of nodes) catalog
