-- The rows of what was found, as a tree that opens and closes.
use Rattle.std.specs.Prelude.{ℕ, ◌-◌, ◌==◌, nat_lt, min, if◌then◌else◌, List, [], ◌∷◌, ◌++◌, codes, length, Option, Some, None}
use Rattle.std.specs.Borrow.{Bor}
use Rattle.hfs_model.specs.declared.reply.Info.{Info}
use Rattle.hfs_model.specs.declared.reply.ItemKind.{ItemKind}
use Rattle.hfs_model.specs.declared.reply.ItemKind.TheVariants.{Folder, File}
use Rattle.hfs_page.specs.Items.{closings, items_word, open_by, opening, sizes_text, type_text}
use Rattle.hfs_page.specs.Links.{link_end, link_start}
use Rattle.hfs_page.specs.Texts.{date_text, shown, told_number}
use Rattle.hfs_remains_places.specs.declared.things.Thing.{Thing}
use Rattle.hfs_remains_places.specs.Folders.{thing_at}
use Rattle.hfs_remains_forks.specs.Verdicts.{verdicts_at}
use Rattle.hfs_rescue_items.specs.declared.found.Found.{Found}
use Rattle.hfs_rescue_items.specs.Found.{field_name, path_at, told_at}
use Rattle.hfs_remains_places.specs.declared.verdict.Verdict.{Verdict}
use Rattle.hfs_remains_page.specs.declared.steps.Step.{Step}
use Rattle.hfs_remains_page.specs.Trees.{lost_node, volume_node}
use Rattle.hfs_remains_page.specs.Verdicts.{base_of, forks_text}

-- ---- what is said about an item

abbrev pub dated_text : ℕ → List ℕ
dated_text date = codes "<span>" ++ date_text date ++ codes "\n(modified)</span>"

-- when it was modified; an empty cell where there is no date
unfoldable pub when_text : ℕ → List ℕ
when_text date = if date == 0 then codes "<span></span>" else dated_text date

-- the beginning of item i, with its number
unfoldable pub item_start : ℕ → List ℕ
item_start i = told_number (codes "<li id=\"i") i ++ codes "\">"

-- a file's name, as a link to its data fork in a bag where that is there
unfoldable pub file_name : Option (Bor (List ℕ)) → List ℕ → Info → List ℕ
file_name base path info = codes "<b>" ++ link_start base (codes "data/" ++ path) ++ shown info.name ++ link_end base ++ codes "</b>"

-- a file at this path below the payload, with what is said about its forks
unfoldable pub file_told : Option (Bor (List ℕ)) → List ℕ → Option (Verdict × Verdict) → Info → List ℕ
file_told base path forks info =
    file_name (base_of base forks) path info ++ sizes_text info ++ type_text info ++ when_text info.modified ++ forks_text forks

-- a folder's name, and how many items were found in it
unfoldable pub folder_name : List ℕ → ℕ → List ℕ
folder_name name inside = codes "<b>" ++ shown name ++ codes "</b>" ++ told_number (codes "<span>") inside ++ items_word inside

-- what is said about a folder, and a note on it
unfoldable pub folder_told : List ℕ → ℕ → ℕ → List ℕ → List ℕ
folder_told name inside date note = folder_name name inside ++ codes "<span>folder</span>" ++ when_text date ++ note

-- ---- rows

-- one that opens and closes; and one that is flat, since too many are open above it
unfoldable pub nested_row : List ℕ → ℕ → List ℕ → ℕ → ℕ → List ℕ → List ℕ
nested_row start depth name inside date note = start ++ opening depth inside ++ folder_told name inside date note ++ codes "</summary><ul>\n"

unfoldable pub flat_row : List ℕ → List ℕ → ℕ → ℕ → List ℕ → List ℕ
flat_row start name inside date note = start ++ folder_told name inside date note ++ codes "</li>\n"

abbrev pub folder_row : List ℕ → ℕ → List ℕ → ℕ → ℕ → List ℕ → List ℕ
folder_row start depth name inside date note =
    if nat_lt depth 100 then nested_row start depth name inside date note else flat_row start name inside date note

unfoldable pub file_row : Option (Bor (List ℕ)) → Found → ℕ → Info → List ℕ
file_row base found i info = item_start i ++ file_told base (path_at found.places.now i) (verdicts_at found.salvage.now i) info ++ codes "</li>\n"

-- what the page says about folders that are no items
abbrev pub named_note : List ℕ
named_note = codes "<em>its own record is lost</em>"

abbrev pub volume_note : List ℕ
volume_note = codes "<em>the record of the root is lost</em>"

abbrev pub lost_note : List ℕ
lost_note = codes "<em>the folders in which they lay are not found</em>"

abbrev pub old_note : List ℕ
old_note = codes "<em>records that are left behind, as of files that were deleted</em>"

-- ---- nodes of the tree, with so many open folders around them

abbrev pub info_row : ItemKind → Option (Bor (List ℕ)) → Found → ℕ → Step → Info → List ℕ
info_row Folder base found depth step info = folder_row (item_start step.node) depth info.name step.inside info.modified []
info_row File base found depth step info = file_row base found step.node info

abbrev pub item_row : Option (Bor (List ℕ)) → Found → ℕ → Step → Option Info → List ℕ
item_row base found depth step None = []
item_row base found depth step (Some info) = info_row info.kind base found depth step info

-- what the page adds: what holds the things that are lost, and the old ones; and the volume
abbrev pub apart_row : List Thing → ℕ → Step → List ℕ
apart_row things depth step =
    if step.node == lost_node things then folder_row (codes "<li>") depth (codes "Lost") step.inside 0 lost_note
    else folder_row (codes "<li>") depth (codes "Old") step.inside 0 old_note

abbrev pub page_row : List Thing → ℕ → List ℕ → Step → List ℕ
page_row things depth volume step =
    if step.node == volume_node things then folder_row (codes "<li>") depth volume step.inside 0 volume_note else apart_row things depth step

-- what is no item: a folder that only a thread names, or what the page adds
abbrev pub added_row : List Thing → ℕ → List ℕ → Step → List ℕ
added_row things depth volume step =
    if nat_lt step.node (length things) then folder_row (codes "<li>") depth (thing_at things step.node).name step.inside 0 named_note
    else page_row things depth volume step

unfoldable pub node_row : Option (Bor (List ℕ)) → Found → ℕ → Step → List ℕ
node_row base found depth step =
    if nat_lt step.node (length found.items.now) then item_row base found depth step (told_at found.items.now step.node)
    else added_row found.places.now depth (field_name found.mdb.now.volume_name) step

-- ---- one row after the other

abbrev pub kind_told : Option Info → ItemKind
kind_told None = File
kind_told (Some info) = info.kind

-- whether something may lie in it
unfoldable pub node_kind : Found → Step → ItemKind
node_kind found step = if nat_lt step.node (length found.items.now) then kind_told (told_at found.items.now step.node) else Folder

-- in how many of the folders that are open it lies
abbrev pub depth_at : ℕ → Step → ℕ
depth_at opened step = min opened step.depth

-- how many are open after it
abbrev pub open_behind : Found → ℕ → Step → ℕ
open_behind found opened step = open_by (node_kind found step) (depth_at opened step)

-- the ends of those in which it doesn't lie, and itself
unfoldable pub row_text : Option (Bor (List ℕ)) → Found → ℕ → Step → List ℕ
row_text base found opened step = closings (opened - depth_at opened step) ++ node_row base found (depth_at opened step) step

-- all rows, where so many folders are open
abbrev pub rows_text : Option (Bor (List ℕ)) → Found → ℕ → List Step → List ℕ
rows_text base found opened [] = closings opened
rows_text base found opened (step ∷ steps) = row_text base found opened step ++ rows_text base found (open_behind found opened step) steps
