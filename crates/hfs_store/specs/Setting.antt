-- How the plain program divides the calls that may change the volume.
use Rattle.std.specs.Prelude.{Bool, true, false}
use Rattle.hfs_model.specs.declared.call.Call.{Call}
use Rattle.hfs_model.specs.declared.call.Call.TheVariants as call

-- whether the call sets what is said about an item: its Finder bytes, its dates or its lock
abbrev pub is_setting : Call → Bool
is_setting (call.GetDirInfo dir) = false
is_setting (call.GetCatInfo dir name) = false
is_setting (call.GetIndexed dir index) = false
is_setting (call.List dir) = false
is_setting (call.ReadFork dir name fork offset count) = false
is_setting (call.Create dir name now) = false
is_setting (call.DirCreate dir name now) = false
is_setting (call.Delete dir name now) = false
is_setting (call.Rename dir name new_name now) = false
is_setting (call.CatMove dir name new_dir now) = false
is_setting (call.SetFInfo dir name info now) = true
is_setting (call.SetCatInfo dir name created modified backup info now) = true
is_setting (call.SetFLock dir name now) = true
is_setting (call.RstFLock dir name now) = true
is_setting (call.CreateFileId dir name now) = false
is_setting (call.DeleteFileId id now) = false
is_setting (call.ResolveFileId id) = false
is_setting (call.SetEof dir name fork length now) = false
is_setting (call.WriteFork dir name fork offset bytes now) = false
