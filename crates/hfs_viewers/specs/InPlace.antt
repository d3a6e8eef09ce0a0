-- The changes that take no memory.
use Rattle.std.specs.Prelude.{Bool, true, false}
use Rattle.hfs_model.specs.declared.call.Call.{Call}
use Rattle.hfs_model.specs.declared.call.Call.TheVariants as call

-- whether the call changes only what rows have room for
abbrev pub is_in_place : Call → Bool
is_in_place (call.GetDirInfo dir) = false
is_in_place (call.GetCatInfo dir name) = false
is_in_place (call.GetIndexed dir index) = false
is_in_place (call.List dir) = false
is_in_place (call.ReadFork dir name fork offset count) = false
is_in_place (call.Create dir name now) = false
is_in_place (call.DirCreate dir name now) = false
is_in_place (call.Delete dir name now) = true
is_in_place (call.Rename dir name new_name now) = false
is_in_place (call.CatMove dir name new_dir now) = false
is_in_place (call.SetFInfo dir name info now) = true
is_in_place (call.SetCatInfo dir name created modified backup info now) = true
is_in_place (call.SetFLock dir name now) = true
is_in_place (call.RstFLock dir name now) = true
is_in_place (call.CreateFileId dir name now) = true
is_in_place (call.DeleteFileId id now) = true
is_in_place (call.ResolveFileId id) = false
is_in_place (call.SetEof dir name fork length now) = false
is_in_place (call.WriteFork dir name fork offset bytes now) = false
