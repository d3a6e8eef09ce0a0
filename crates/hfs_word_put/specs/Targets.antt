-- The folder into which what comes is put, by the text of its path.
use Rattle.std.specs.Prelude.{◌≡◌, ℕ, List, Option, Some, None, Result, Ok, Err}
use Rattle.hfs_commands.specs.ByPath.{path_reply}
use Rattle.hfs_model.specs.declared.codes.TheConstants.{NOT_A_FOLDER}
use Rattle.hfs_model.specs.declared.reply.Info.{Info}
use Rattle.hfs_model.specs.declared.reply.ItemKind.{ItemKind}
use Rattle.hfs_model.specs.declared.reply.ItemKind.TheVariants.{Folder, File}
use Rattle.hfs_model.specs.declared.reply.Reply.{Reply}
use Rattle.hfs_model.specs.declared.reply.Value.{Value}
use Rattle.hfs_model.specs.declared.reply.Value.TheVariants as value
use Rattle.hfs_model.specs.Replies.{refusal}
use Rattle.hfs_model.specs.Volume.{Entry}

-- a file is none
abbrev pub folder_by : ItemKind → ℕ → Result ℕ Reply
folder_by Folder id = Ok id
folder_by File id = Err (refusal NOT_A_FOLDER)

-- of what a value tells; where it tells of no item, the reply refuses it
abbrev pub folder_in : Value → Reply → Result ℕ Reply
folder_in (value.One info) reply = folder_by info.kind info.id
folder_in value.Nothing reply = Err reply
folder_in (value.Id id) reply = Err reply
folder_in (value.Many infos) reply = Err reply
folder_in (value.Bytes bytes) reply = Err reply
folder_in (value.Full free depth) reply = Err reply
folder_in (value.Room free wanted) reply = Err reply
folder_in (value.ExtentNodes free depth) reply = Err reply
folder_in (value.Place dir name) reply = Err reply

abbrev pub folder_of : Reply → Result ℕ Reply
folder_of reply = folder_in reply.value reply

-- the root, where no path is given, whose ID is 2; or what the path leads to among these items
abbrev pub target_folder : List Entry → Option (List ℕ) → Result ℕ Reply
target_folder es None = Ok 2
target_folder es (Some path) = folder_of (path_reply es path)
