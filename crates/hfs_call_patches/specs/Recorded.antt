-- A file's record in the catalog over a patch.
use Rattle.std.specs.Prelude.{ℕ, List}
use Rattle.hfs_fields.specs.declared.key.CatKey.{CatKey}
use Rattle.hfs_fields.specs.declared.file_record.FileRecord.{FileRecord}
use Rattle.hfs_fields.specs.RecordForms.{file_record_bytes}
use Rattle.hfs_blocks.specs.declared.run.Run.{Run}
use Rattle.hfs_blocks.specs.Layers.{Numbered}
use Rattle.hfs_btree.specs.Tree.{Store}
use Rattle.hfs_catalog.specs.declared.item.ItemRecord.TheVariants.{File}
use Rattle.hfs_record_edits.specs.ItemEdits.{IsSameKindAt}
use Rattle.hfs_record_edits.specs.RecordEdits.{RecordSet}
use Rattle.hfs_call_patches.specs.Patches.{patched_nodes}

-- a file's record is under the key
abbrev pub IsFileAt : Store → CatKey → FileRecord → Type 0
IsFileAt nodes key file = IsSameKindAt nodes key (File file)

-- this one takes its place
abbrev pub SetsFileOver : CatKey → FileRecord → (ℕ → List ℕ) → List Run → Numbered → Numbered → Type 0
SetsFileOver key file blocks runs old new = RecordSet (key, file_record_bytes file) (patched_nodes blocks old runs) (patched_nodes blocks new runs)
