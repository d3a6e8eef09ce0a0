-- The calls that read. In each the first code that holds is the reply's. They are functions of the entries alone.
use Rattle.std.specs.Prelude.{ℕ, ◌+◌, ◌-◌, pos, not, ◌==◌, nat_lt, if◌then◌else◌, List, length, take, drop, slice_get}
use Rattle.std.specs.Option.{option_map_or}
use Rattle.hfs_fields.specs.Names.{is_item_name}
use Rattle.hfs_model.specs.declared.codes.TheConstants.{BAD_NAME, END_OF_FILE, NOT_FOUND, PARAMETER, NOT_A_FOLDER}
use Rattle.hfs_model.specs.declared.item.File.{File}
use Rattle.hfs_model.specs.declared.item.Kind.{Kind}
use Rattle.hfs_model.specs.declared.item.Kind.TheVariants as kind
use Rattle.hfs_model.specs.declared.call.Fork.{Fork}
use Rattle.hfs_model.specs.declared.call.Fork.TheVariants.{DataFork, ResFork}
use Rattle.hfs_model.specs.declared.reply.Info.{Info}
use Rattle.hfs_model.specs.declared.reply.Value.TheVariants as value
use Rattle.hfs_model.specs.declared.reply.Reply.{Reply}
use Rattle.hfs_model.specs.Volume.{Entry}
use Rattle.hfs_model.specs.Children.{is_folder, is_folder_kind, child_named, entry_at}
use Rattle.hfs_model.specs.Replies.{refusal, success, info_of, infos}

abbrev pub one : List Entry → Entry → Reply
one es e = success (value.One (info_of es e))

-- the folder of that ID: -120
unfoldable pub get_dir_info : List Entry → ℕ → Reply
get_dir_info es dir = option_map_or (λ (e : Entry). if is_folder_kind e.1.kind then one es e else refusal NOT_A_FOLDER) (entry_at es dir) (refusal NOT_A_FOLDER)

-- the folder's child of that name: -37, -120, -43
unfoldable pub get_cat_info : List Entry → ℕ → List ℕ → Reply
get_cat_info es dir name =
    if not (is_item_name name) then refusal BAD_NAME
    else if not (is_folder es dir) then refusal NOT_A_FOLDER
    else option_map_or (one es) (child_named es dir name) (refusal NOT_FOUND)

-- the index-th child in name order, counted from 1: -50 at 0, -120, -43 past the last
unfoldable pub get_indexed : List Entry → ℕ → ℕ → Reply
get_indexed es dir index =
    if index == 0 then refusal PARAMETER
    else if not (is_folder es dir) then refusal NOT_A_FOLDER
    else option_map_or (λ (info : Info). success (value.One info)) (slice_get (infos es dir) (index - 1)) (refusal NOT_FOUND)

-- all children in name order: -120
unfoldable pub list : List Entry → ℕ → Reply
list es dir =
    if not (is_folder es dir) then refusal NOT_A_FOLDER
    else success (value.Many (infos es dir))

abbrev pub fork_of : Fork → File → List ℕ
fork_of DataFork file = file.«data»
fork_of ResFork file = file.resource

-- at most count bytes from offset on, with -39 where the fork ends before count of them
abbrev pub part_of : List ℕ → ℕ → ℕ → Reply
part_of bytes offset count = record { code = if nat_lt (length bytes) (offset + count) then END_OF_FILE else pos 0; value = value.Bytes (take count (drop offset bytes)) }

-- -43 of a folder
abbrev pub fork_part : Fork → ℕ → ℕ → Kind → Reply
fork_part fork offset count (kind.Folder kept) = refusal NOT_FOUND
fork_part fork offset count (kind.File file) = part_of (fork_of fork file) offset count

-- a part of a file's fork: -50 above 65,536 bytes, -37, -120, -43
unfoldable pub read_fork : List Entry → ℕ → List ℕ → Fork → ℕ → ℕ → Reply
read_fork es dir name fork offset count =
    if nat_lt 65536 count then refusal PARAMETER
    else if not (is_item_name name) then refusal BAD_NAME
    else if not (is_folder es dir) then refusal NOT_A_FOLDER
    else option_map_or (λ (e : Entry). fork_part fork offset count e.1.kind) (child_named es dir name) (refusal NOT_FOUND)
