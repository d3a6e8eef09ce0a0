-- The items of a page, as a tree that opens and closes.
use Rattle.std.specs.Prelude.{ℕ, zero, suc, ◌+◌, ◌-◌, ◌==◌, ◌&&◌, nat_le, nat_lt, min, if◌then◌else◌, List, [], ◌∷◌, ◌++◌, length, take, drop, codes, Option}
use Rattle.std.specs.Borrow.{Bor}
use Rattle.hfs_model.specs.declared.reply.Info.{Info}
use Rattle.hfs_model.specs.declared.reply.ItemKind.{ItemKind}
use Rattle.hfs_model.specs.declared.reply.ItemKind.TheVariants.{Folder, File}
use Rattle.hfs_items.specs.ToldRows.{ToldRow}
use Rattle.hfs_page.specs.Links.{bag_path, link_end, link_start}
use Rattle.hfs_page.specs.Sizes.{told_size}
use Rattle.hfs_page.specs.Texts.{shown, told_date, told_number, told_text}

-- ---- what is said about an item

unfoldable pub name_tagged : Info → List ℕ
name_tagged info = codes "<b>" ++ shown info.name ++ codes "</b>"

-- when it was modified; nothing where there is no date
abbrev pub modified_text : ℕ → List ℕ
modified_text date = if date == 0 then [] else told_date (codes "<span>") date ++ codes "\n(modified)</span>"

abbrev pub items_word : ℕ → List ℕ
items_word count = if count == 1 then codes " item</span>" else codes " items</span>"

unfoldable pub folder_text : Info → List ℕ
folder_text info = name_tagged info ++ told_number (codes "<span>") info.valence ++ items_word info.valence ++ codes "<span>folder</span>" ++ modified_text info.modified

-- of both forks together, and of each
unfoldable pub sizes_text : Info → List ℕ
sizes_text info =
    told_size (codes "<span>") (info.data_len + info.res_len) ++ told_number (codes "\n(data fork ") info.data_len
    ++ told_number (codes " bytes, resource fork ") info.res_len ++ codes " bytes)</span>"

-- type and creator of a file are the first 8 of the Finder bytes
unfoldable pub type_text : Info → List ℕ
type_text info =
    told_text (codes "<span>") (take 4 info.finder) ++ told_text (codes " ") (take 4 (drop 4 info.finder)) ++ codes "\n(type, creator)</span>"

-- a file's name, which is a link where the URL of a bag is known; the path are the names from the root's down
unfoldable pub file_name : Option (Bor (List ℕ)) → List (List ℕ) → Info → List ℕ
file_name base path info = codes "<b>" ++ link_start base (bag_path path) ++ shown info.name ++ link_end base ++ codes "</b>"

unfoldable pub file_text : Option (Bor (List ℕ)) → List (List ℕ) → Info → List ℕ
file_text base path info = file_name base path info ++ sizes_text info ++ type_text info ++ modified_text info.modified

-- ---- rows. The depth of an item is the number of open folders in which it lies; at most 100 of them open and close

-- with the item's ID as that of its element
unfoldable pub row_start : Info → List ℕ
row_start info = told_number (codes "<li id=\"i") info.id ++ codes "\">"

-- the beginning of a folder of so many items that opens and closes; the root is open where it has at most 1,000
abbrev pub opening : ℕ → ℕ → List ℕ
opening depth valence =
    if depth == 0 && nat_le valence 1000 then codes "<details open><summary>" else codes "<details><summary>"

unfoldable pub nested_text : ℕ → Info → List ℕ
nested_text depth info = row_start info ++ opening depth info.valence ++ folder_text info ++ codes "</summary><ul>\n"

unfoldable pub flat_text : Info → List ℕ
flat_text info = row_start info ++ folder_text info ++ codes "</li>\n"

unfoldable pub leaf_text : Option (Bor (List ℕ)) → List (List ℕ) → Info → List ℕ
leaf_text base path info = row_start info ++ file_text base path info ++ codes "</li>\n"

abbrev pub item_by : ItemKind → Option (Bor (List ℕ)) → List (List ℕ) → ℕ → Info → List ℕ
item_by Folder base path depth info = if nat_lt depth 100 then nested_text depth info else flat_text info
item_by File base path depth info = leaf_text base path info

-- all of a file, and of a folder what precedes its children
unfoldable pub item_text : Option (Bor (List ℕ)) → List (List ℕ) → ℕ → Info → List ℕ
item_text base path depth info = item_by info.kind base path depth info

-- the ends of so many folders
unfoldable pub closings : ℕ → List ℕ
closings zero = []
closings (suc n) = codes "</ul></details></li>\n" ++ closings n

abbrev pub open_by : ItemKind → ℕ → ℕ
open_by Folder depth = if nat_lt depth 100 then depth + 1 else depth
open_by File depth = depth

-- how many folders are open after an item
abbrev pub open_behind : ℕ → Info → ℕ
open_behind depth info = open_by info.kind depth

-- in how many of the folders that are open an item lies
abbrev pub depth_in : ℕ → List (List ℕ) → ℕ
depth_in opened path = min opened (length path - 1)

-- the row of an item where so many folders are open: the ends of those in which it doesn't lie, and the item
unfoldable pub row_text : Option (Bor (List ℕ)) → ℕ → List (List ℕ) → Info → List ℕ
row_text base opened path info = closings (opened - depth_in opened path) ++ item_text base path (depth_in opened path) info

-- the rows of a table, where so many folders are open
abbrev pub rows_text : Option (Bor (List ℕ)) → ℕ → List ToldRow → List ℕ
rows_text base opened [] = closings opened
rows_text base opened (row ∷ rows) = row_text base opened row.path row.info ++ rows_text base (open_behind (depth_in opened row.path) row.info) rows
