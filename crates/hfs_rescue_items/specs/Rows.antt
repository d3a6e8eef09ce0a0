-- The rows of what was found of an image: of all items, or of those that lie in a folder.
use Rattle.std.specs.Prelude.{ℕ, ◌&&◌, ◌==◌, nat_le, Bool, false, if◌then◌else◌, List, [], ◌++◌, length, Option, None, Some}
use Rattle.hfs_model.specs.declared.reply.Info.{Info}
use Rattle.hfs_remains.specs.declared.catalog.FoundRecord.{FoundRecord}
use Rattle.hfs_rescue_items.specs.declared.found.Found.{Found}
use Rattle.hfs_rescue_items.specs.Found.{told}
use Rattle.hfs_rescue_items.specs.Lines.{lines_of}
use Rattle.hfs_table.specs.declared.format.Format.{Format}
use Rattle.hfs_table.specs.declared.format.Format.TheVariants as format
use Rattle.hfs_table.specs.Lines.{head_text}
use Rattle.hfs_table.specs.OwnLines.{own_row_text}
use Rattle.hfs_rescue_items.specs.declared.rows.Selection.{Selection}
use Rattle.hfs_rescue_items.specs.declared.rows.Selection.TheVariants as selection
use Rattle.hfs_rescue_items.specs.Paths.{names_of}

-- ---- all items

abbrev pub row_told : Format → Found → ℕ → Option Info → List ℕ
row_told format found i None = []
row_told format found i (Some info) = own_row_text format (names_of found i) info

-- the row of item i: its path by the names that lead to it, and what its own record says
unfoldable pub found_row : Format → Found → ℕ → FoundRecord → List ℕ
found_row format found i item = row_told format found i (told item)

-- ---- those in a folder

-- an item that says this, and to which these names lead, lies in the folder of this number: it has that parent, and names lead down to it from the root
abbrev pub lies_in : Option ℕ → List (List ℕ) → Info → Bool
lies_in None names info = false
lies_in (Some number) names info = (info.parent == number) && nat_le 2 (length names)

abbrev pub child_told : Option ℕ → Found → ℕ → Option Info → List ℕ
child_told home found i None = []
child_told home found i (Some info) = if lies_in home (names_of found i) info then own_row_text format.Tab (names_of found i) info else []

-- its row with tabs where it lies there, else nothing
unfoldable pub child_row : Option ℕ → Found → ℕ → FoundRecord → List ℕ
child_row home found i item = child_told home found i (told item)

-- ---- what is selected

abbrev pub selected_head : Selection → List ℕ
selected_head (selection.All format) = head_text format
selected_head (selection.InFolder home) = []

abbrev pub selected_row : Selection → Found → ℕ → FoundRecord → List ℕ
selected_row (selection.All format) found i item = found_row format found i item
selected_row (selection.InFolder home) found i item = child_row home found i item

-- the head, and the rows in the order of the items
unfoldable pub selected_text : Selection → Found → List ℕ
selected_text selected found = selected_head selected ++ lines_of (selected_row selected found) 0 found.items.now
