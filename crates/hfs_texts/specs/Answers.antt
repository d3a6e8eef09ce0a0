-- The text of an answer: what a worker or viewer is answered to one of its calls.
use Rattle.std.specs.Prelude.{ℕ, Bool, true, false, List, [], ◌∷◌, ◌++◌, length, codes}
use Rattle.std.specs.List.{flat_map}
use Rattle.std.specs.Fmt.{decimal, signed_decimal}
use Rattle.hfs_model.specs.declared.reply.Reply.{Reply}
use Rattle.hfs_model.specs.declared.reply.Value.{Value}
use Rattle.hfs_model.specs.declared.reply.Value.TheVariants.{Nothing, Id, One, Many, Bytes, Full, Room, ExtentNodes, Place}
use Rattle.hfs_model.specs.declared.reply.Info.{Info}
use Rattle.hfs_model.specs.declared.reply.ItemKind.{ItemKind}
use Rattle.hfs_model.specs.declared.reply.ItemKind.TheVariants.{Folder, File}
use Rattle.hfs_texts.specs.Lines.{hex_text, item_name_text}

-- 1 where it holds, else 0
abbrev pub flag_text : Bool → List ℕ
flag_text true = codes "1"
flag_text false = codes "0"

-- `d` for a folder, `f` for a file
abbrev pub kind_text : ItemKind → List ℕ
kind_text Folder = codes "d"
kind_text File = codes "f"

-- a word with a space before it
unfoldable pub spaced : List ℕ → List ℕ
spaced word = codes " " ++ word

-- ID, parent and the three dates
unfoldable pub place_text : Info → List ℕ
place_text info = spaced (decimal info.id) ++ spaced (decimal info.parent) ++ spaced (decimal info.created) ++ spaced (decimal info.modified)
    ++ spaced (decimal info.backup)

-- a folder's valence and 0; a file's lengths in bytes, of its data fork and of its resource fork
unfoldable pub size_text : ItemKind → Info → List ℕ
size_text Folder info = spaced (decimal info.valence) ++ spaced (decimal 0)
size_text File info = spaced (decimal info.data_len) ++ spaced (decimal info.res_len)

-- an item: kind, ID, parent, dates, locked, has a thread, sizes, Finder bytes, name
unfoldable pub item_text : Info → List ℕ
item_text info = kind_text info.kind ++ place_text info ++ spaced (flag_text info.locked) ++ spaced (flag_text info.has_id)
    ++ size_text info.kind info ++ spaced (hex_text info.finder) ++ spaced (item_name_text info.name)

-- an item on a line of its own, after a tab
unfoldable pub listed_item : Info → List ℕ
listed_item info = codes "\n\t" ++ item_text info

unfoldable pub listed_items : List Info → List ℕ
listed_items items = flat_map listed_item items

-- bytes as hexadecimal digits, with a space before them where there are any
unfoldable pub bytes_text : List ℕ → List ℕ
bytes_text [] = []
bytes_text (byte ∷ bytes) = spaced (hex_text (byte ∷ bytes))

-- a value, and after a list its items; nodes of either tree are written alike
unfoldable pub value_text : Value → List ℕ
value_text Nothing = codes "-"
value_text (Id id) = codes "id" ++ spaced (decimal id)
value_text (One info) = codes "info" ++ spaced (item_text info)
value_text (Many items) = codes "list" ++ spaced (decimal (length items)) ++ listed_items items
value_text (Bytes bytes) = codes "bytes" ++ bytes_text bytes
value_text (Full free depth) = codes "full" ++ spaced (decimal free) ++ spaced (decimal depth)
value_text (Room free wanted) = codes "room" ++ spaced (decimal free) ++ spaced (decimal wanted)
value_text (ExtentNodes free depth) = codes "full" ++ spaced (decimal free) ++ spaced (decimal depth)
value_text (Place dir name) = codes "place" ++ spaced (decimal dir) ++ spaced (item_name_text name)

-- the lines of an answer: who called, the number of the call among theirs, its code and its value, with tabs between
unfoldable pub reply_text : List ℕ → ℕ → Reply → List ℕ
reply_text who number reply = who ++ codes "\t" ++ decimal number ++ codes "\t" ++ signed_decimal reply.code ++ codes "\t" ++ value_text reply.value ++ codes "\n"
