-- What a call that writes a fork makes of the blocks of that fork.
use Rattle.std.specs.Prelude.{◌≡◌, ℕ, ℤ, List, [], Result}
use Rattle.hfs_fields.specs.Keys.{cat_cmp}
use Rattle.hfs_fields.specs.RecordForms.{IsFileRecordValue, file_record_bytes}
use Rattle.hfs_fields.specs.declared.key.CatKey.{CatKey}
use Rattle.hfs_fields.specs.declared.file_record.FileRecord.{FileRecord}
use Rattle.hfs_fields.specs.Each.{Each}
use Rattle.hfs_fields.specs.Members.{In}
use Rattle.hfs_btree_edits.specs.Edits.{with_replaced}
use Rattle.hfs_space.specs.ForkLaws.{block_numbers}
use Rattle.hfs_model.specs.declared.call.Call.{Call}
use Rattle.hfs_model.specs.declared.call.Call.TheVariants as call
use Rattle.hfs_model.specs.declared.call.Fork.{Fork}
use Rattle.hfs_model.specs.ForkCalls.{file_to_write}
use Rattle.hfs_model.specs.Volume.{Entry}
use Rattle.hfs_check.specs.Parts.{Blocks, mdb_in, catalog_in}
use Rattle.hfs_check.specs.VolumeOf.{volume_in}
use Rattle.hfs_call_patches.specs.Settings.{IsFileChoice}
use Rattle.hfs_call_patches.specs.Edits.{extents_of}
use Rattle.hfs_call_patches.specs.CallEdits.{HasLaid}
use Rattle.hfs_call_edits.specs.ForkWants.{length_with}

-- The file that a call chooses had one record and has the other now, and these blocks of its fork were written, which has `len` bytes then.
-- Each of them is the fork's. Byte by byte of all its blocks, the given bytes are from `offset` on; of the others no byte of a block that
-- was added is one of before, but a zero; and what lies in the blocks that the fork had stays, except for zeros between its old end and its new one.
pub record WritesForkOf (fork : Fork) (chosen : Result Entry ℤ) (len : FileRecord → ℕ) (offset : ℕ) (part written : List ℕ) (old new : Blocks) : Type 0 where
  pub key : CatKey
  pub was : FileRecord
  pub choice : IsFileChoice old chosen key was
  pub file : FileRecord
  pub value : IsFileRecordValue file
  pub stands : catalog_in new ≡ with_replaced cat_cmp key (file_record_bytes file) (catalog_in old)
  pub own : Each (λ n. In n (block_numbers (mdb_in old) (extents_of new fork file))) written
  pub laid : HasLaid fork was file (len was) offset part old new

-- the call writes these blocks of its file's fork; one that writes no fork writes none
abbrev pub WritesFork : Call → List ℕ → Blocks → Blocks → Type 0
WritesFork (call.SetEof dir name fork length now) written old new = WritesForkOf fork (file_to_write (volume_in old) dir name) (λ file. length) 0 [] written old new
WritesFork (call.WriteFork dir name fork offset bytes now) written old new =
    WritesForkOf fork (file_to_write (volume_in old) dir name) (length_with fork offset bytes) offset bytes written old new
WritesFork (call.GetDirInfo dir) written old new = written ≡ []
WritesFork (call.GetCatInfo dir name) written old new = written ≡ []
WritesFork (call.GetIndexed dir index) written old new = written ≡ []
WritesFork (call.List dir) written old new = written ≡ []
WritesFork (call.ReadFork dir name fork offset count) written old new = written ≡ []
WritesFork (call.Create dir name now) written old new = written ≡ []
WritesFork (call.DirCreate dir name now) written old new = written ≡ []
WritesFork (call.Delete dir name now) written old new = written ≡ []
WritesFork (call.Rename dir name new_name now) written old new = written ≡ []
WritesFork (call.CatMove dir name new_dir now) written old new = written ≡ []
WritesFork (call.SetFInfo dir name info now) written old new = written ≡ []
WritesFork (call.SetCatInfo dir name created modified backup info now) written old new = written ≡ []
WritesFork (call.SetFLock dir name now) written old new = written ≡ []
WritesFork (call.RstFLock dir name now) written old new = written ≡ []
WritesFork (call.CreateFileId dir name now) written old new = written ≡ []
WritesFork (call.DeleteFileId id now) written old new = written ≡ []
WritesFork (call.ResolveFileId id) written old new = written ≡ []
