-- What remains of a volume as the source of a bag.
use Rattle.std.specs.Prelude.{ℕ, ◌-◌, Bool, true, false, if◌then◌else◌, List, [], drop, map, replicate, take, Option, None, Some, string_bytes}
use Rattle.hfs_bag.specs.declared.item.BagKind.{BagKind}
use Rattle.hfs_bag.specs.declared.item.BagKind.TheVariants as bag
use Rattle.hfs_bag.specs.declared.source.Stream.{Stream}
use Rattle.hfs_bag.specs.declared.source.Stream.TheVariants as stream
use Rattle.hfs_bag.specs.Items.{BagItem}
use Rattle.hfs_bag.specs.Sources.{BagTables, SourceState}
use Rattle.hfs_bag.specs.Times.{since_1970}
use Rattle.hfs_model.specs.declared.reply.Info.{Info}
use Rattle.hfs_space.specs.declared.fork_kind.ForkKind.{ForkKind}
use Rattle.hfs_space.specs.declared.fork_kind.ForkKind.TheVariants.{Data, Resource}
use Rattle.hfs_rescue_items.specs.declared.came.Came.{Came}
use Rattle.hfs_rescue_items.specs.declared.found.Found.{Found}
use Rattle.hfs_rescue_items.specs.declared.plan.Planned.{Planned}
use Rattle.hfs_rescue_items.specs.declared.reading.Reading.{Reading}
use Rattle.hfs_rescue_items.specs.Bytes.{taken_bytes}
use Rattle.hfs_rescue_items.specs.Found.{path_at, told_at}
use Rattle.hfs_rescue_items.specs.Lines.{remains_text, table_text}
use Rattle.hfs_rescue_items.specs.Reading.{reading_rest}

-- ---- parts of a plan

-- the part of its path before a planned name, and the name
abbrev pub above_of : Found → Planned → List ℕ
above_of found planned = take planned.from (path_at found.places.now planned.place)

abbrev pub name_of : Found → Planned → List ℕ
name_of found planned = take (planned.to - planned.from) (drop planned.from (path_at found.places.now planned.place))

-- nothing but its path is told of a folder alone
abbrev pub is_alone : BagKind → Bool
is_alone bag.Folder = false
is_alone bag.File = false
is_alone bag.FolderAlone = true
is_alone bag.DoubleAlone = false

-- what its item tells of itself
abbrev pub part_told : Found → Planned → Option Info
part_told found planned = if is_alone planned.kind then None else told_at found.items.now planned.place

-- zeros where nothing is told
abbrev pub finder_told : Option Info → List ℕ
finder_told None = replicate 32 0
finder_told (Some info) = info.finder

-- when it was modified, in seconds since the beginning of 1970, where something is told, and that wasn't before
abbrev pub modified_told : Option Info → Option ℕ
modified_told None = None
modified_told (Some info) = since_1970 info.modified

-- the bytes that are taken of its item's fork
abbrev pub part_bytes : List ℕ → Found → ForkKind → Planned → List ℕ
part_bytes image found kind planned = if is_alone planned.kind then [] else taken_bytes image found kind planned.place

-- ---- items

-- what comes of a part of a plan, with a path above it and a name
abbrev pub item_with : List ℕ → Found → List ℕ → List ℕ → Planned → BagItem
item_with image found above name planned = record {
  above = above;
  name = name;
  kind = planned.kind;
  finder = finder_told (part_told found planned);
  modified = modified_told (part_told found planned);
  data_fork = part_bytes image found Data planned;
  resource_fork = part_bytes image found Resource planned;
}

abbrev pub planned_item : List ℕ → Found → Planned → BagItem
planned_item image found planned = item_with image found (above_of found planned) (name_of found planned) planned

abbrev pub came_item : List ℕ → Found → Came → BagItem
came_item image found came = item_with image found (string_bytes came.above) (string_bytes came.name) came.planned

-- a stream of it
abbrev pub part_stream : List ℕ → Found → Planned → Stream → List ℕ
part_stream image found planned stream.DataFork = part_bytes image found Data planned
part_stream image found planned stream.ResourceFork = part_bytes image found Resource planned
part_stream image found planned stream.Table = table_text found
part_stream image found planned stream.Remains = remains_text found

-- both tables
abbrev pub rescued_tables : Found → BagTables
rescued_tables found = record { items = table_text found; remains = Some (remains_text found) }

-- the plan, of which the part from a place on is to come, this came, and this is still to be read, of an image
abbrev pub source_of : List ℕ → Found → List Planned → ℕ → Came → Reading → SourceState
source_of image found plan next came reading = record {
  all = map (planned_item image found) plan;
  left = map (planned_item image found) (drop next plan);
  item = came_item image found came;
  bytes = reading_rest image found reading;
  tables = rescued_tables found;
}
