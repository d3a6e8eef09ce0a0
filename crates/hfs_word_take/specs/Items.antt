-- The items of a volume as a bag has them.
use Rattle.std.specs.Prelude.{ℕ, ◌-◌, List, [], ◌++◌, length, map, take, drop, codes, Result, Ok, Err}
use Rattle.std.specs.List.{flat_map}
use Rattle.hfs_bag.specs.declared.item.BagKind.{BagKind}
use Rattle.hfs_bag.specs.declared.item.BagKind.TheVariants as bag
use Rattle.hfs_bag.specs.Items.{BagItem}
use Rattle.hfs_bag.specs.Times.{since_1970}
use Rattle.hfs_items.specs.ToldRows.{ToldRow, told_rows}
use Rattle.hfs_model.specs.declared.call.Fork.{Fork}
use Rattle.hfs_model.specs.declared.call.Fork.TheVariants.{DataFork, ResFork}
use Rattle.hfs_model.specs.declared.reply.Info.{Info}
use Rattle.hfs_model.specs.declared.reply.ItemKind.{ItemKind}
use Rattle.hfs_model.specs.declared.reply.ItemKind.TheVariants as kind
use Rattle.hfs_model.specs.declared.reply.Reply.{Reply}
use Rattle.hfs_check.specs.VolumeOf.{volume_of}
use Rattle.hfs_model.specs.Children.{entries_of}
use Rattle.hfs_model.specs.Volume.{Entry}
use Rattle.hfs_table.specs.Lines.{bag_head, bag_line}
use Rattle.hfs_texts.specs.HostNames.{host_name}
use Rattle.hfs_image.specs.Forks.{named_fork}

-- ---- paths

-- the names between the root's and an item's own
abbrev pub names_between : List (List ℕ) → List (List ℕ)
names_between path = take (length path - 2) (drop 1 path)

-- host names with a slash behind each
unfoldable pub folders_text : List (List ℕ) → List ℕ
folders_text names = flat_map (λ (name : List ℕ). host_name name ++ codes "/") names

-- ---- forks

abbrev pub bytes_or_none : Result (List ℕ) Reply → List ℕ
bytes_or_none (Ok bytes) = bytes
bytes_or_none (Err reply) = []

-- a folder has no bytes
abbrev pub of_file : ItemKind → List ℕ → List ℕ
of_file kind.Folder bytes = []
of_file kind.File bytes = bytes

-- the bytes that a volume has under an item's folder and name
abbrev pub fork_told : List Entry → Fork → Info → List ℕ
fork_told es fork info = of_file info.kind (bytes_or_none (named_fork es info.parent info.name fork))

-- ---- items

abbrev pub bag_kind : ItemKind → BagKind
bag_kind kind.Folder = bag.Folder
bag_kind kind.File = bag.File

-- an item of a volume, with a path above it and a name
abbrev pub item_at : List Entry → List ℕ → List ℕ → Info → BagItem
item_at es above name info = record {
  above = above;
  name = name;
  kind = bag_kind info.kind;
  finder = info.finder;
  modified = since_1970 info.modified;
  data_fork = fork_told es DataFork info;
  resource_fork = fork_told es ResFork info;
}

-- the item of a row of a volume's table, by its host path
abbrev pub bag_item : List Entry → ToldRow → BagItem
bag_item es row = item_at es (folders_text (names_between row.path)) (host_name row.info.name) row.info

-- all items below the root, which has the first row
abbrev pub bag_items : List Entry → List BagItem
bag_items es = map (bag_item es) (drop 1 (told_rows es))

-- ---- the table

-- the lines of rows, as CSV, each with the path below the payload at its end
abbrev pub rows_text : List ToldRow → List ℕ
rows_text rows = flat_map (λ (row : ToldRow). bag_line row.path row.info) rows

-- the head, and the lines of rows
unfoldable pub table_text : List ToldRow → List ℕ
table_text rows = bag_head ++ rows_text rows

-- ---- images

-- the items of an image's volume
abbrev pub entries_in : List ℕ → List Entry
entries_in image = entries_of (volume_of image)
