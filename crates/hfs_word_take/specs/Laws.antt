-- What holds of the items of a volume.
use Rattle.std.specs.Prelude.{◌≡◌, ◌≢◌, ⊤, ℕ, List, [], ◌∷◌, ◌++◌, codes, drop, IsTrue, Some}
use Rattle.std.specs.List.{list_all}
use Rattle.hfs_blocks.specs.Blocks.{block_at}
use Rattle.hfs_bag.specs.Laws.{ArePlaced}
use Rattle.hfs_model.specs.declared.item.Item.{Item}
use Rattle.hfs_model.specs.Volume.{Entry, Volume}
use Rattle.hfs_model.specs.Children.{entries_of}
use Rattle.hfs_model.specs.Lawful.{Has, IsLawful}
use Rattle.hfs_texts.specs.NameLaws.{is_bytes}
use Rattle.hfs_texts.specs.MacPaths.{mac_path}
use Rattle.hfs_texts.specs.Paths.{path_names}
use Rattle.hfs_texts.specs.PlainTexts.{is_itself}
use Rattle.hfs_items.specs.Levels.{catalog_rows}
use Rattle.hfs_items.specs.ToldRows.{ToldRow, told_rows}
use Rattle.hfs_table.specs.Lines.{bag_path}
use Rattle.hfs_check.specs.Parts.{catalog_in}
use Rattle.hfs_check.specs.Sound.{IsSound}
use Rattle.hfs_word_take.specs.Items.{bag_item, bag_items, entries_in}

-- each item of a volume is called by bytes
abbrev pub AreNamed : Volume → Type 0
AreNamed v = (id : ℕ) (i : Item) → Has v.items id i → IsTrue (is_bytes i.name)

-- the items of a lawful volume have plain names and paths of their own, also without regard to the case of ASCII letters
abbrev pub ItemsArePlaced : Type 0
ItemsArePlaced = (v : Volume) → IsLawful v → AreNamed v → ArePlaced (bag_items (entries_of v))

-- the path that the line of an item tells is that at which the bag has it
abbrev pub ArePathsTold : List Entry → List ToldRow → Type 0
ArePathsTold es [] = ⊤
ArePathsTold es (row ∷ rows) = (bag_path row.path ≡ (bag_item es row).above ++ (bag_item es row).name) × ArePathsTold es rows

-- of each item but the root
abbrev pub BagPathsAreTold : Type 0
BagPathsAreTold = (v : Volume) → IsLawful v → AreNamed v → ArePathsTold (entries_of v) (drop 1 (told_rows (entries_of v)))

-- ---- sound images

-- so are those of each sound image of bytes
abbrev pub SoundItemsArePlaced : Type 0
SoundItemsArePlaced = (image : List ℕ) → IsTrue (is_bytes image) → IsSound image → ArePlaced (bag_items (entries_in image))

abbrev pub SoundPathsAreTold : Type 0
SoundPathsAreTold = (image : List ℕ) → IsTrue (is_bytes image) → IsSound image → ArePathsTold (entries_in image) (drop 1 (told_rows (entries_in image)))

-- the rows of a sound image's catalog, which a page has, are those of its table: each item's once, in the table's order
abbrev pub SoundCatalogsTellTables : Type 0
SoundCatalogsTellTables = (image : List ℕ) → IsSound image → catalog_rows (catalog_in (block_at image)) ≡ told_rows (entries_in image)

-- ---- paths

-- a text of which names are read is the path that is printed of them, where each byte prints as itself; `:` alone is read as one empty name
abbrev pub ArePathsPrintedBack : Type 0
ArePathsPrintedBack =
    (text : List ℕ) (names : List (List ℕ)) → IsTrue (list_all is_itself text) → text ≢ codes ":" → path_names text ≡ Some names → mac_path names ≡ text
