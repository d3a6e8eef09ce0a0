-- A file's record and the counts over a patch.
use Rattle.std.specs.Prelude.{ℕ, List}
use Rattle.hfs_fields.specs.declared.key.CatKey.{CatKey}
use Rattle.hfs_fields.specs.declared.file_record.FileRecord.{FileRecord}
use Rattle.hfs_fields.specs.declared.mdb.Mdb.{Mdb}
use Rattle.hfs_fields.specs.RecordForms.{IsFileRecordValue}
use Rattle.hfs_blocks.specs.declared.run.Run.{Run}
use Rattle.hfs_blocks.specs.Layers.{Numbered, changes}
use Rattle.hfs_call_patches.specs.Settings.{PutsCounts}
use Rattle.hfs_call_patches.specs.Overflow.{KeepsBesideRuns}
use Rattle.hfs_call_patches.specs.Recorded.{SetsFileOver}

-- the file's record is in the catalog, in these runs over the blocks below; then the counts are in the volume's block 2
pub record Settles (key : CatKey) (file : FileRecord) (counts : Mdb) (volume below : ℕ → List ℕ) (runs : List Run) (old new : Numbered) : Type 0 where
  pub middle : Numbered
  pub set : SetsFileOver key file below runs old middle
  pub value : IsFileRecordValue file
  pub beside : KeepsBesideRuns runs below old middle
  pub put : PutsCounts counts (volume 2) (changes middle) (changes new)
