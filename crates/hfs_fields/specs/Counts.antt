-- The counts of a master directory block, which calls change.
use Rattle.std.specs.Prelude.{◌≡◌, ℕ, ◌+◌, ◌≤◌, List, slice_index}
use Rattle.hfs_fields.specs.Numbers.{number_at}
use Rattle.hfs_fields.specs.declared.mdb.Mdb.{Mdb}

-- the block's counts are the record's
pub record HasCounts (mdb : Mdb) (block : List ℕ) : Type 0 where
  pub modified : number_at 6 4 block ≡ mdb.modified
  pub root_files : number_at 12 2 block ≡ mdb.root_files
  pub next_id : number_at 30 4 block ≡ mdb.next_id
  pub free_blocks : number_at 34 2 block ≡ mdb.free_blocks
  pub root_folders : number_at 82 2 block ≡ mdb.root_folders
  pub files : number_at 84 4 block ≡ mdb.files
  pub folders : number_at 88 4 block ≡ mdb.folders

-- place k is none of the n places from i: where it is not before them, it is after them
abbrev pub IsOutside : ℕ → ℕ → ℕ → Type 0
IsOutside i n k = i ≤ k → i + n ≤ k

-- a place in no count
pub record IsBesideCounts (k : ℕ) : Type 0 where
  pub modified : IsOutside 6 4 k
  pub root_files : IsOutside 12 2 k
  pub next_id : IsOutside 30 4 k
  pub free_blocks : IsOutside 34 2 k
  pub root_folders : IsOutside 82 2 k
  pub files : IsOutside 84 4 k
  pub folders : IsOutside 88 4 k

-- every byte outside the counts is as it was
abbrev pub SameBesideCounts : List ℕ → List ℕ → Type 0
SameBesideCounts old new = (k : ℕ) → IsBesideCounts k → slice_index new k ≡ slice_index old k

-- a record with the counts of another
abbrev pub with_counts : Mdb → Mdb → Mdb
with_counts counts mdb = record mdb {
  modified = counts.modified;
  root_files = counts.root_files;
  next_id = counts.next_id;
  free_blocks = counts.free_blocks;
  root_folders = counts.root_folders;
  files = counts.files;
  folders = counts.folders;
}
