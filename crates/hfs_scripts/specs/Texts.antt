-- The text of a script: numbers without leading zeros, hexadecimal digits in lower case, a line feed after each line.
use Rattle.std.specs.Prelude.{◌≡◌, length, ◌<◌, ℕ, ◌+◌, ◌==◌, ◌&&◌, not, nat_le, Bool, true, List, [], ◌∷◌, ◌++◌, codes, position, Option, Some}
use Rattle.std.specs.Option.{option_map}
use Rattle.std.specs.List.{flat_map, list_all}
use Rattle.std.specs.Fmt.{decimal}
use Rattle.hex.specs.Hex.{encode_lower}
use Rattle.hfs_model.specs.declared.call.Call.{Call}
use Rattle.hfs_model.specs.declared.call.Call.TheVariants as call
use Rattle.hfs_model.specs.declared.call.Fork.{Fork}
use Rattle.hfs_model.specs.declared.call.Fork.TheVariants.{DataFork, ResFork}
use Rattle.hfs_scripts.specs.declared.lines.Caller.{Caller}
use Rattle.hfs_scripts.specs.declared.lines.Caller.TheVariants.{Worker, Viewer}
use Rattle.hfs_scripts.specs.declared.lines.ScriptLine.{ScriptLine}
use Rattle.hfs_scripts.specs.declared.fault.TextFault.{TextFault}
use Rattle.hfs_scripts.specs.declared.fault.TextFault.TheVariants.{Unwritable, TooLarge, Memory}
use Rattle.hfs_scripts.specs.declared.words.Word.{Word}
use Rattle.hfs_scripts.specs.declared.words.Word.TheVariants as word
use Rattle.hfs_scripts.specs.Lines.{may_ask}

-- a caller: a worker's number, or `v` and a viewer's
unfoldable pub caller_text : Caller → List ℕ
caller_text (Worker number) = decimal number
caller_text (Viewer number) = codes "v" ++ decimal number

unfoldable pub word_text : Word → List ℕ
word_text word.DirInfo = codes "dirinfo"
word_text word.Info = codes "info"
word_text word.Indexed = codes "indexed"
word_text word.List = codes "list"
word_text word.Read = codes "read"
word_text word.Create = codes "create"
word_text word.MkDir = codes "mkdir"
word_text word.Delete = codes "delete"
word_text word.Rename = codes "rename"
word_text word.Move = codes "move"
word_text word.SetFInfo = codes "setfinfo"
word_text word.SetInfo = codes "setinfo"
word_text word.Lock = codes "lock"
word_text word.Unlock = codes "unlock"
word_text word.NewId = codes "newid"
word_text word.DropId = codes "dropid"
word_text word.Resolve = codes "resolve"
word_text word.SetEof = codes "seteof"
word_text word.Write = codes "write"

-- the word that asks for a call
abbrev pub word_for : Call → Word
word_for (call.GetDirInfo dir) = word.DirInfo
word_for (call.GetCatInfo dir name) = word.Info
word_for (call.GetIndexed dir index) = word.Indexed
word_for (call.List dir) = word.List
word_for (call.ReadFork dir name fork offset count) = word.Read
word_for (call.Create dir name now) = word.Create
word_for (call.DirCreate dir name now) = word.MkDir
word_for (call.Delete dir name now) = word.Delete
word_for (call.Rename dir name new_name now) = word.Rename
word_for (call.CatMove dir name new_dir now) = word.Move
word_for (call.SetFInfo dir name info now) = word.SetFInfo
word_for (call.SetCatInfo dir name created modified backup info now) = word.SetInfo
word_for (call.SetFLock dir name now) = word.Lock
word_for (call.RstFLock dir name now) = word.Unlock
word_for (call.CreateFileId dir name now) = word.NewId
word_for (call.DeleteFileId id now) = word.DropId
word_for (call.ResolveFileId id) = word.Resolve
word_for (call.SetEof dir name fork length now) = word.SetEof
word_for (call.WriteFork dir name fork offset bytes now) = word.Write

abbrev pub fork_text : Fork → List ℕ
fork_text DataFork = codes "data"
fork_text ResFork = codes "res"

-- a fork of the folder's file of that name, and a number
abbrev pub fork_fields : ℕ → List ℕ → Fork → ℕ → List (List ℕ)
fork_fields dir name fork number = decimal dir ∷ name ∷ fork_text fork ∷ decimal number ∷ []

-- the fields after the word of a read of a fork
abbrev pub read_fields : ℕ → List ℕ → Fork → ℕ → ℕ → List (List ℕ)
read_fields dir name fork offset count = decimal dir ∷ name ∷ fork_text fork ∷ decimal offset ∷ decimal count ∷ []

-- the fields after the word of a write into a fork
abbrev pub write_fields : ℕ → List ℕ → Fork → ℕ → List ℕ → List (List ℕ)
write_fields dir name fork offset bytes = decimal dir ∷ name ∷ fork_text fork ∷ decimal offset ∷ encode_lower bytes ∷ []

-- three dates and Finder bytes
abbrev pub info_fields : ℕ → ℕ → ℕ → List ℕ → List (List ℕ)
info_fields created modified backup info = decimal created ∷ decimal modified ∷ decimal backup ∷ encode_lower info ∷ []

-- the fields after a call's word
abbrev pub arguments : Call → List (List ℕ)
arguments (call.GetDirInfo dir) = decimal dir ∷ []
arguments (call.GetCatInfo dir name) = decimal dir ∷ name ∷ []
arguments (call.GetIndexed dir index) = decimal dir ∷ decimal index ∷ []
arguments (call.List dir) = decimal dir ∷ []
arguments (call.ReadFork dir name fork offset count) = decimal dir ∷ name ∷ fork_text fork ∷ decimal offset ∷ decimal count ∷ []
arguments (call.Create dir name now) = decimal dir ∷ name ∷ []
arguments (call.DirCreate dir name now) = decimal dir ∷ name ∷ []
arguments (call.Delete dir name now) = decimal dir ∷ name ∷ []
arguments (call.Rename dir name new_name now) = decimal dir ∷ name ∷ new_name ∷ []
arguments (call.CatMove dir name new_dir now) = decimal dir ∷ name ∷ decimal new_dir ∷ []
arguments (call.SetFInfo dir name info now) = decimal dir ∷ name ∷ encode_lower info ∷ []
arguments (call.SetCatInfo dir name created modified backup info now) =
    decimal dir ∷ name ∷ decimal created ∷ decimal modified ∷ decimal backup ∷ encode_lower info ∷ []
arguments (call.SetFLock dir name now) = decimal dir ∷ name ∷ []
arguments (call.RstFLock dir name now) = decimal dir ∷ name ∷ []
arguments (call.CreateFileId dir name now) = decimal dir ∷ name ∷ []
arguments (call.DeleteFileId id now) = decimal id ∷ []
arguments (call.ResolveFileId id) = decimal id ∷ []
arguments (call.SetEof dir name fork length now) = decimal dir ∷ name ∷ fork_text fork ∷ decimal length ∷ []
arguments (call.WriteFork dir name fork offset bytes now) = decimal dir ∷ name ∷ fork_text fork ∷ decimal offset ∷ encode_lower bytes ∷ []

-- a field after a tab
abbrev pub tabbed : List ℕ → List ℕ
tabbed field = 9 ∷ field

-- a line without its line feed
unfoldable pub line_text : ScriptLine → List ℕ
line_text line = caller_text line.caller ++ flat_map tabbed (word_text (word_for line.call) ∷ arguments line.call)

-- a line with its line feed
abbrev pub fed : ScriptLine → List ℕ
fed line = line_text line ++ 10 ∷ []

-- the text of a script
unfoldable pub script_text : List ScriptLine → List ℕ
script_text lines = flat_map fed lines

-- ---- what has a line

-- whether a name is in a field: no tab and no line feed is in it
unfoldable pub is_field : List ℕ → Bool
is_field name = list_all (λ byte. not (byte == 9) && not (byte == 10)) name

-- whether a call's names are in fields, and the bytes that it writes are few enough for one
abbrev pub has_fields : Call → Bool
has_fields (call.GetDirInfo dir) = true
has_fields (call.GetCatInfo dir name) = is_field name
has_fields (call.GetIndexed dir index) = true
has_fields (call.List dir) = true
has_fields (call.ReadFork dir name fork offset count) = is_field name
has_fields (call.Create dir name now) = is_field name
has_fields (call.DirCreate dir name now) = is_field name
has_fields (call.Delete dir name now) = is_field name
has_fields (call.Rename dir name new_name now) = is_field name && is_field new_name
has_fields (call.CatMove dir name new_dir now) = is_field name
has_fields (call.SetFInfo dir name info now) = is_field name
has_fields (call.SetCatInfo dir name created modified backup info now) = is_field name
has_fields (call.SetFLock dir name now) = is_field name
has_fields (call.RstFLock dir name now) = is_field name
has_fields (call.CreateFileId dir name now) = is_field name
has_fields (call.DeleteFileId id now) = true
has_fields (call.ResolveFileId id) = true
has_fields (call.SetEof dir name fork length now) = is_field name
has_fields (call.WriteFork dir name fork offset bytes now) = is_field name && nat_le (length bytes) 65536

-- whether a call is made at that moment, where it has one
abbrev pub is_made_at : ℕ → Call → Bool
is_made_at moment (call.GetDirInfo dir) = true
is_made_at moment (call.GetCatInfo dir name) = true
is_made_at moment (call.GetIndexed dir index) = true
is_made_at moment (call.List dir) = true
is_made_at moment (call.ReadFork dir name fork offset count) = true
is_made_at moment (call.Create dir name now) = now == moment
is_made_at moment (call.DirCreate dir name now) = now == moment
is_made_at moment (call.Delete dir name now) = now == moment
is_made_at moment (call.Rename dir name new_name now) = now == moment
is_made_at moment (call.CatMove dir name new_dir now) = now == moment
is_made_at moment (call.SetFInfo dir name info now) = now == moment
is_made_at moment (call.SetCatInfo dir name created modified backup info now) = now == moment
is_made_at moment (call.SetFLock dir name now) = now == moment
is_made_at moment (call.RstFLock dir name now) = now == moment
is_made_at moment (call.CreateFileId dir name now) = now == moment
is_made_at moment (call.DeleteFileId id now) = now == moment
is_made_at moment (call.ResolveFileId id) = true
is_made_at moment (call.SetEof dir name fork length now) = now == moment
is_made_at moment (call.WriteFork dir name fork offset bytes now) = now == moment

-- whether the number is one from 1 to 8
abbrev pub is_caller : Caller → Bool
is_caller (Worker number) = nat_le 1 number && nat_le number 8
is_caller (Viewer number) = nat_le 1 number && nat_le number 8

-- whether a line has a text: its caller may make the call, at the moment that a reader is given, and its names and bytes are in fields
unfoldable pub is_writable : ℕ → ScriptLine → Bool
is_writable now line = is_caller line.caller && may_ask line.caller (word_for line.call) && has_fields line.call && is_made_at now line.call

-- the first line that has no text, counted from 1
unfoldable pub first_unwritable : ℕ → List ScriptLine → Option ℕ
first_unwritable now lines = option_map (λ place. place + 1) (position (λ line. not (is_writable now line)) lines)

-- why lines have no text: memory was wanting, the first line that has none, or a text of more bytes than a script may have
abbrev pub IsTextFaultOf : ℕ → List ScriptLine → TextFault → Type 0
IsTextFaultOf now lines Memory = Unit {0}
IsTextFaultOf now lines TooLarge = 16777216 < length (script_text lines)
IsTextFaultOf now lines (Unwritable place) = first_unwritable now lines ≡ Some place
