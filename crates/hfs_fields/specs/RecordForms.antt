-- Records as they are written, and what is read from the bytes afterwards.
use Rattle.std.proofs.Common.{◌≡◌, ℕ, ◌+◌, ◌-◌, ◌^◌, ◌<◌, ◌≤◌, List, [], ◌∷◌, ◌++◌, length, replicate}
use Rattle.std.specs.List.{All, flat_map}
use Rattle.byteorder.specs.Endian.{big_bytes}
use Rattle.hfs_fields.specs.declared.extent.Extent.{Extent}
use Rattle.hfs_fields.specs.declared.dir_record.DirRecord.{DirRecord}
use Rattle.hfs_fields.specs.declared.file_record.FileRecord.{FileRecord}
use Rattle.hfs_fields.specs.declared.file_record.ForkRecord.{ForkRecord}
use Rattle.hfs_fields.specs.declared.thread_record.ThreadKind.{ThreadKind}
use Rattle.hfs_fields.specs.declared.thread_record.ThreadKind.TheVariants.{Folder, File}
use Rattle.hfs_fields.specs.declared.thread_record.ThreadRecord.{ThreadRecord}

-- ---- extents

pub record IsExtentValue (extent : Extent) : Type 0 where
  pub first : extent.first < 2 ^ 16
  pub count : extent.count < 2 ^ 16

-- what the program's extent records keep
pub record AreExtentValues (extents : List Extent) : Type 0 where
  pub three : length extents ≡ 3
  pub each : All IsExtentValue extents

abbrev pub extent_bytes : Extent → List ℕ
extent_bytes extent = big_bytes 2 extent.first ++ big_bytes 2 extent.count

abbrev pub extents_bytes : List Extent → List ℕ
extents_bytes extents = flat_map extent_bytes extents

-- ---- a folder's record

-- what the program's records of folders keep
pub record IsDirRecordValue (dir : DirRecord) : Type 0 where
  pub flags : dir.flags < 2 ^ 16
  pub valence : dir.valence < 2 ^ 16
  pub id : dir.id < 2 ^ 32
  pub created : dir.created < 2 ^ 32
  pub modified : dir.modified < 2 ^ 32
  pub backup : dir.backup < 2 ^ 32
  pub finder_info : length dir.finder_info ≡ 16
  pub extended_finder_info : length dir.extended_finder_info ≡ 16
  pub reserved_area : length dir.reserved_area ≡ 16

unfoldable pub dir_record_bytes : DirRecord → List ℕ
dir_record_bytes dir =
    1 ∷ dir.reserved ∷ [] ++ big_bytes 2 dir.flags ++ big_bytes 2 dir.valence ++ big_bytes 4 dir.id ++ big_bytes 4 dir.created ++ big_bytes 4 dir.modified
    ++ big_bytes 4 dir.backup ++ dir.finder_info ++ dir.extended_finder_info ++ dir.reserved_area

-- ---- a file's record

-- what the program's forks keep
pub record IsForkRecordValue (fork : ForkRecord) : Type 0 where
  pub first_block : fork.first_block < 2 ^ 16
  pub length : fork.length < 2 ^ 32
  pub physical_length : fork.physical_length < 2 ^ 32
  pub extents : AreExtentValues fork.extents

-- what the program's records of files keep
pub record IsFileRecordValue (file : FileRecord) : Type 0 where
  pub finder_info : length file.finder_info ≡ 16
  pub id : file.id < 2 ^ 32
  pub data_fork : IsForkRecordValue file.data
  pub resource_fork : IsForkRecordValue file.resource
  pub created : file.created < 2 ^ 32
  pub modified : file.modified < 2 ^ 32
  pub backup : file.backup < 2 ^ 32
  pub extended_finder_info : length file.extended_finder_info ≡ 16
  pub clump_size : file.clump_size < 2 ^ 16
  pub reserved_area : length file.reserved_area ≡ 4

-- the three numbers of a fork
abbrev pub fork_bytes : ForkRecord → List ℕ
fork_bytes fork = big_bytes 2 fork.first_block ++ big_bytes 4 fork.length ++ big_bytes 4 fork.physical_length

unfoldable pub file_record_bytes : FileRecord → List ℕ
file_record_bytes file =
    2 ∷ file.reserved ∷ file.flags.0 ∷ file.file_type ∷ [] ++ file.finder_info ++ big_bytes 4 file.id ++ fork_bytes file.data ++ fork_bytes file.resource
    ++ big_bytes 4 file.created ++ big_bytes 4 file.modified ++ big_bytes 4 file.backup ++ file.extended_finder_info ++ big_bytes 2 file.clump_size
    ++ extents_bytes file.data.extents ++ extents_bytes file.resource.extents ++ file.reserved_area

-- ---- a thread

-- what the program's threads keep
pub record IsThreadRecordValue (thread : ThreadRecord) : Type 0 where
  pub reserved_area : length thread.reserved_area ≡ 8
  pub parent : thread.parent < 2 ^ 32
  pub name : length thread.name ≤ 31

-- the type of a thread's record
abbrev pub thread_type : ThreadKind → ℕ
thread_type Folder = 3
thread_type File = 4

-- zero bytes fill the name up to 31 characters
unfoldable pub thread_record_bytes : ThreadRecord → List ℕ
thread_record_bytes thread =
    thread_type thread.kind ∷ thread.reserved ∷ [] ++ thread.reserved_area ++ big_bytes 4 thread.parent ++ length thread.name ∷ [] ++ thread.name
    ++ replicate (31 - length thread.name) 0

-- ---- bodies of exactly a record's length
