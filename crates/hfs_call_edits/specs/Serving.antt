-- The calls that set an item's dates or Finder bytes.
use Rattle.std.specs.Prelude.{Bool, true, false}
use Rattle.hfs_model.specs.declared.call.Call.{Call}
use Rattle.hfs_model.specs.declared.call.Call.TheVariants as call

-- whether the call sets an item's dates or Finder bytes
abbrev pub sets_info : Call → Bool
sets_info (call.GetDirInfo dir) = false
sets_info (call.GetCatInfo dir name) = false
sets_info (call.GetIndexed dir index) = false
sets_info (call.List dir) = false
sets_info (call.ReadFork dir name fork offset count) = false
sets_info (call.Create dir name now) = false
sets_info (call.DirCreate dir name now) = false
sets_info (call.Delete dir name now) = false
sets_info (call.Rename dir name new_name now) = false
sets_info (call.CatMove dir name new_dir now) = false
sets_info (call.SetFInfo dir name info now) = true
sets_info (call.SetCatInfo dir name created modified backup info now) = true
sets_info (call.SetFLock dir name now) = false
sets_info (call.RstFLock dir name now) = false
sets_info (call.CreateFileId dir name now) = false
sets_info (call.DeleteFileId id now) = false
sets_info (call.ResolveFileId id) = false
sets_info (call.SetEof dir name fork length now) = false
sets_info (call.WriteFork dir name fork offset bytes now) = false
