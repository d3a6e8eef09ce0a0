-- What is printed of a folder's children.
use Rattle.std.specs.Prelude.{◌≡◌, ℕ, List, ◌++◌, codes, String, string_bytes}
use Rattle.std.specs.List.{flat_map}
use Rattle.std.specs.Fmt.{decimal, signed_decimal}
use Rattle.hfs_model.specs.declared.reply.Reply.{Reply}
use Rattle.hfs_model.specs.declared.reply.Value.{Value}
use Rattle.hfs_model.specs.declared.reply.Value.TheVariants.{Nothing, Id, One, Many, Bytes, Full, Room, ExtentNodes, Place}
use Rattle.hfs_model.specs.declared.reply.Info.{Info}
use Rattle.hfs_model.specs.declared.reply.ItemKind.{ItemKind}
use Rattle.hfs_model.specs.declared.reply.ItemKind.TheVariants.{Folder, File}
use Rattle.hfs_commands.specs.declared.fault.Status.{Status}
use Rattle.hfs_commands.specs.declared.fault.Status.TheVariants as status
use Rattle.hfs_commands.specs.Faults.{status_number}
use Rattle.hfs_texts.specs.Answers.{kind_text}
use Rattle.hfs_texts.specs.Lines.{line, item_name_text}
use Rattle.hfs_model.specs.Volume.{Entry}
use Rattle.hfs_model.specs.Reading.{list}
use Rattle.hfs_commands.specs.Entries.{entries_in}

-- a word with a tab before it
unfoldable pub tabbed : List ℕ → List ℕ
tabbed word = codes "\t" ++ word

-- a folder's valence and 0; a file's lengths in bytes, of its data fork and of its resource fork
unfoldable pub tabbed_sizes : ItemKind → Info → List ℕ
tabbed_sizes Folder info = tabbed (decimal info.valence) ++ tabbed (decimal 0)
tabbed_sizes File info = tabbed (decimal info.data_len) ++ tabbed (decimal info.res_len)

-- a child's line: kind, ID, sizes, name
unfoldable pub child_line : Info → List ℕ
child_line info = kind_text info.kind ++ tabbed (decimal info.id) ++ tabbed_sizes info.kind info ++ tabbed (item_name_text info.name) ++ codes "\n"

unfoldable pub child_lines : List Info → List ℕ
child_lines items = flat_map child_line items

-- the line of a code other than 0
unfoldable pub code_line : Reply → List ℕ
code_line reply = line (codes "code") (signed_decimal reply.code)

-- the lines of a reply with this value: a line for each child, or its code
abbrev pub listed_lines : Value → Reply → List ℕ
listed_lines (Many items) reply = child_lines items
listed_lines Nothing reply = code_line reply
listed_lines (Id id) reply = code_line reply
listed_lines (One info) reply = code_line reply
listed_lines (Bytes bytes) reply = code_line reply
listed_lines (Full free depth) reply = code_line reply
listed_lines (Room free wanted) reply = code_line reply
listed_lines (ExtentNodes free depth) reply = code_line reply
listed_lines (Place dir name) reply = code_line reply

abbrev pub listed_status : Value → Status
listed_status (Many items) = status.Done
listed_status Nothing = status.CallRefused
listed_status (Id id) = status.CallRefused
listed_status (One info) = status.CallRefused
listed_status (Bytes bytes) = status.CallRefused
listed_status (Full free depth) = status.CallRefused
listed_status (Room free wanted) = status.CallRefused
listed_status (ExtentNodes free depth) = status.CallRefused
listed_status (Place dir name) = status.CallRefused

-- the lines that are printed of a reply to List
abbrev pub list_lines : Reply → List ℕ
list_lines reply = listed_lines reply.value reply

-- the exit status after them
abbrev pub list_status : Reply → ℕ
list_status reply = status_number (listed_status reply.value)

-- the lines of a folder
abbrev pub folder_lines : List Entry → ℕ → List ℕ
folder_lines es dir = list_lines (list es dir)

-- this is the exit status after the lines of a folder of an image
abbrev pub IsFolderStatus : ℕ → ℕ → List ℕ → Type 0
IsFolderStatus dir number = λ image. number ≡ list_status (list (entries_in image) dir)

-- this text has the lines of a folder of an image
abbrev pub HasFolderLines : {Z : Type 0} → ℕ → String Z → List ℕ → Type 0
HasFolderLines dir text = λ image. string_bytes text ≡ folder_lines (entries_in image) dir
