-- The items that rows represent.
use Rattle.std.specs.Prelude.{◌≡◌, ℕ, ◌*◌, ◌≤◌, Bool, IsTrue, List, map, Option, Some}
use Rattle.std.specs.Borrow.{Bor}
use Rattle.std.specs.Ordering.{nat_cmp}
use Rattle.std.specs.List.{All}
use Rattle.std.specs.Option.{option_map}
use Rattle.std.specs.FinMap as finite
use Rattle.std.specs.BTreeMap as tree
use Rattle.hfs_fields.specs.declared.mdb.Mdb.{Mdb}
use Rattle.hfs_fields.specs.Order.{same_name}
use Rattle.hfs_blocks.specs.Blocks.{block_at}
use Rattle.hfs_model.specs.declared.item.Item.{Item}
use Rattle.hfs_model.specs.declared.item.File.{File}
use Rattle.hfs_model.specs.declared.item.Kind.{Kind}
use Rattle.hfs_model.specs.declared.item.Kind.TheVariants as kind
use Rattle.hfs_model.specs.Volume.{Volume, Items, Entry}
use Rattle.hfs_model.specs.Children.{entry_at, child_named, valence}
use Rattle.hfs_model.specs.Choices.{is_bad_move}
use Rattle.hfs_model.specs.Lawful.{Has}
use Rattle.hfs_space.specs.Extents.{AreExtentsWithin, block_total}
use Rattle.hfs_space.specs.Forks.{fork_bytes}
use Rattle.hfs_viewers.specs.Pieces.{ArePieces, fork_shown}
use Rattle.hfs_check.specs.Parts.{mdb_in}
use Rattle.hfs_check.specs.Sound.{IsSound}
use Rattle.hfs_volume.specs.Layout.{SameLayout}
use Rattle.hfs_viewers.specs.declared.place.Place.{Place}
use Rattle.hfs_viewers.specs.declared.row.Row.{Row}
use Rattle.hfs_viewers.specs.declared.row.RowKind.{RowKind}
use Rattle.hfs_viewers.specs.declared.row.RowKind.TheVariants.{Folder, File as FileRow}
use Rattle.hfs_viewers.specs.declared.row.RowFile.{RowFile}
use Rattle.hfs_viewers.specs.declared.row.RowFork.{RowFork}
use Rattle.hfs_viewers.specs.declared.table.Found.{Found}
use Rattle.hfs_viewers.specs.declared.table.Table.{Table}
use Rattle.hfs_viewers.specs.Places.{place_cmp, place}

-- the bytes of a fork in the base
abbrev pub base_bytes : List ℕ → Mdb → RowFork → List ℕ
base_bytes base mdb fork = fork_bytes (block_at base) mdb fork.extents fork.pieces.base_len

-- the bytes of a fork over the base
unfoldable pub bytes_of : List ℕ → Mdb → RowFork → List ℕ
bytes_of base mdb fork = fork_shown (base_bytes base mdb fork) fork.pieces

abbrev pub file_of : List ℕ → Mdb → RowFile → File
file_of base mdb f = record { kept = f.kept; locked = f.locked; has_thread = f.has_thread; «data» = bytes_of base mdb f.«data»; resource = bytes_of base mdb f.resource }

abbrev pub kind_of : List ℕ → Mdb → RowKind → Kind
kind_of base mdb (Folder kept children) = kind.Folder kept
kind_of base mdb (FileRow f) = kind.File (file_of base mdb f)

-- the item of a row
abbrev pub item_of : List ℕ → Mdb → Row → Item
item_of base mdb r = record { parent = r.parent; name = r.name; created = r.created; modified = r.modified; backup = r.backup; finder = r.finder; kind = kind_of base mdb r.kind }

-- the items of rows, by their IDs
abbrev pub shown : {X : Type 0} → (X → Item) → List (ℕ × X) → List Entry
shown show rows = map (λ e. (e.0, show e.1)) rows

-- the items of a table
unfoldable pub items_of : Table → Items
items_of t = finite.from_sorted (shown (item_of t.base t.mdb) t.by_id.entries)

-- the items of a table in the order of their IDs
abbrev pub table_entries : Table → List Entry
table_entries t = finite.entries (items_of t)

-- the item of a row of the table, with its ID
abbrev pub row_entry : Table → ℕ → Row → Entry
row_entry t id r = (id, item_of t.base t.mdb r)

-- what is found is the row of the table's item of that ID
abbrev pub FindsRow : Table → ℕ → Option (Bor Row) → Type 0
FindsRow t id found = entry_at (table_entries t) id ≡ option_map (λ r. row_entry t id r.now) found

-- what is found is the row of the folder's item of that name
abbrev pub FindsChild : Table → ℕ → List ℕ → Option Found → Type 0
FindsChild t dir name found = child_named (table_entries t) dir name ≡ option_map (λ f. row_entry t f.id f.row.now) found

-- a move to that folder would put the row's item into itself
abbrev pub moves_into_itself : Table → ℕ → Row → ℕ → Bool
moves_into_itself t id r dir = is_bad_move (table_entries t) (row_entry t id r) dir

-- the bytes of a fork of the table
abbrev pub bytes_in : Table → RowFork → List ℕ
bytes_in t fork = bytes_of t.base t.mdb fork

-- the volume of a table
abbrev pub volume_of : Table → Volume
volume_of t = record {
  items = items_of t;
  next_id = t.next_id;
  changed = t.changed;
  hardware_locked = t.hardware_locked;
  software_locked = t.software_locked;
  block_size = t.mdb.allocation_block_size;
}

-- the fork's extents lie in the volume, and have room for the bytes that it has in the base
pub record IsForkIn (mdb : Mdb) (fork : RowFork) : Type 0 where
  pub within : AreExtentsWithin mdb.allocation_blocks fork.extents
  pub room : fork.pieces.base_len ≤ block_total fork.extents * mdb.allocation_block_size
  pub pieces : ArePieces fork.pieces

-- a folder's row has the number of its children, and a file's forks lie in the volume
abbrev pub IsKindOf : Items → Mdb → ℕ → RowKind → Type 0
IsKindOf items mdb id (Folder kept children) = children ≡ valence (finite.entries items) id
IsKindOf items mdb id (FileRow f) = IsForkIn mdb f.«data» × IsForkIn mdb f.resource

-- the same in a table
abbrev pub IsKindIn : Table → ℕ → RowKind → Type 0
IsKindIn t id kind = IsKindOf (items_of t) t.mdb id kind

-- the table has the item of that row under that ID
abbrev pub HasItemOf : Table → ℕ → Row → Type 0
HasItemOf t id r = Has (items_of t) id (item_of t.base t.mdb r)

-- each item is at its place, and nothing else
pub record AreNames (items : Items) (names : tree.BTreeMap Place ℕ) : Type 0 where
  pub sorted : tree.IsOrdered place_cmp names
  pub has : (id : ℕ) (i : Item) → Has items id i → tree.get place_cmp names (place i.parent i.name) ≡ Some id
  pub item : (p : Place) (id : ℕ) → tree.get place_cmp names p ≡ Some id → (i : Item) × Has items id i × (i.parent ≡ p.parent) × IsTrue (same_name i.name p.name)

-- the base is a sound image, and in it the allocation blocks lie where this master directory block says
pub record IsOver (base : List ℕ) (mdb : Mdb) : Type 0 where
  pub sound : IsSound base
  pub layout : SameLayout (mdb_in (block_at base)) mdb

-- what holds of each table
pub record IsTable (t : Table) : Type 0 where
  pub sorted : tree.IsOrdered nat_cmp t.by_id
  pub names : AreNames (items_of t) t.by_name
  pub rows : (id : ℕ) (r : Row) → tree.get nat_cmp t.by_id id ≡ Some r → IsKindOf (items_of t) t.mdb id r.kind
  pub over : IsOver t.base t.mdb

-- the table has these rows, each by its ID
abbrev pub HasRows : Table → List (ℕ × Row) → Type 0
HasRows t rows = All (λ e. tree.get nat_cmp t.by_id e.0 ≡ Some e.1) rows
