-- What is told of the item that the text of a path leads to.
use Rattle.std.specs.Prelude.{◌≡◌, ℕ, Bool, true, false, if◌then◌else◌, List}
use Rattle.std.specs.Option.{option_map_or}
use Rattle.hfs_model.specs.declared.codes.TheConstants.{NOT_FOUND}
use Rattle.hfs_model.specs.declared.reply.ItemKind.{ItemKind}
use Rattle.hfs_model.specs.declared.reply.ItemKind.TheVariants.{Folder, File}
use Rattle.hfs_model.specs.declared.reply.Reply.{Reply}
use Rattle.hfs_model.specs.declared.reply.Value.{Value}
use Rattle.hfs_model.specs.declared.reply.Value.TheVariants as value
use Rattle.hfs_model.specs.Replies.{refusal}
use Rattle.hfs_model.specs.Volume.{Entry}
use Rattle.hfs_image.specs.Paths.{path_told}
use Rattle.hfs_texts.specs.Paths.{path_names}
use Rattle.hfs_commands.specs.Entries.{entries_in}

-- -43 where the text is no path
abbrev pub path_reply : List Entry → List ℕ → Reply
path_reply es path = option_map_or (path_told es) (path_names path) (refusal NOT_FOUND)

-- this is told by the volume of an image
abbrev pub IsPathReply : List ℕ → Reply → List ℕ → Type 0
IsPathReply path reply = λ image. reply ≡ path_reply (entries_in image) path

-- ---- of files alone

abbrev pub is_folder_kind : ItemKind → Bool
is_folder_kind Folder = true
is_folder_kind File = false

abbrev pub tells_folder : Value → Bool
tells_folder value.Nothing = false
tells_folder (value.Id id) = false
tells_folder (value.One info) = is_folder_kind info.kind
tells_folder (value.Many infos) = false
tells_folder (value.Bytes bytes) = false
tells_folder (value.Full free depth) = false
tells_folder (value.Room free wanted) = false
tells_folder (value.ExtentNodes free depth) = false
tells_folder (value.Place dir name) = false

-- -43 of a folder, which has no forks
abbrev pub file_reply : Reply → Reply
file_reply reply = if tells_folder reply.value then refusal NOT_FOUND else reply

abbrev pub IsFilePathReply : List ℕ → Reply → List ℕ → Type 0
IsFilePathReply path reply = λ image. reply ≡ file_reply (path_reply (entries_in image) path)
