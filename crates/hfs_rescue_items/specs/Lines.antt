-- The lines of both tables.
use Rattle.std.specs.Prelude.{ℕ, suc, List, [], ◌∷◌, ◌++◌, Option, Some, None}
use Rattle.hfs_model.specs.declared.reply.Info.{Info}
use Rattle.hfs_remains_forks.specs.Verdicts.{verdicts_at}
use Rattle.hfs_remains.specs.declared.catalog.FoundRecord.{FoundRecord}
use Rattle.hfs_table.specs.Lines.{bag_head, own_bag_line}
use Rattle.hfs_remains_places.specs.Verdicts.{row_text}
use Rattle.hfs_rescue_items.specs.declared.found.Found.{Found}
use Rattle.hfs_rescue_items.specs.Found.{names_at, path_at, told}

-- the line of item i in the table of what remains: path, number, ID, what is said of both forks
abbrev pub remains_told : Found → ℕ → Option Info → List ℕ
remains_told found i None = []
remains_told found i (Some info) = row_text (path_at found.places.now i) i info.id (verdicts_at found.salvage.now i)

unfoldable pub remains_line : Found → ℕ → FoundRecord → List ℕ
remains_line found i item = remains_told found i (told item)

-- its line in the table of all items: its Mac path by the names that lead to it, and at the end the same path as in the table of what remains
abbrev pub item_told : Found → ℕ → Option Info → List ℕ
item_told found i None = []
item_told found i (Some info) = own_bag_line (names_at found.places.now found.mdb.now i) info (path_at found.places.now i)

unfoldable pub item_line : Found → ℕ → FoundRecord → List ℕ
item_line found i item = item_told found i (told item)

-- the lines of items, the first of which has this number
abbrev pub lines_of : (ℕ → FoundRecord → List ℕ) → ℕ → List FoundRecord → List ℕ
lines_of line i [] = []
lines_of line i (item ∷ rest) = line i item ++ lines_of line (suc i) rest

-- the whole texts
abbrev pub remains_text : Found → List ℕ
remains_text found = lines_of (remains_line found) 0 found.items.now

abbrev pub table_text : Found → List ℕ
table_text found = bag_head ++ lines_of (item_line found) 0 found.items.now
