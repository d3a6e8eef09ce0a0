-- Rows that are written.
use Rattle.std.specs.Prelude.{◌≡◌, ℕ, ◌+◌, ◌-◌, ◌==◌, if◌then◌else◌, List, ◌++◌, drop, Bool, true, ℤ, ◌<◌, Result, Ok, Err, Some, None, replicate}
use Rattle.std.specs.Ordering.{nat_cmp, is_eq}
use Rattle.std.specs.Option.{option_map}
use Rattle.std.specs.BTreeMap as tree
use Rattle.std.specs.FinMap as finite
use Rattle.hfs_fields.specs.declared.mdb.Mdb.{Mdb}
use Rattle.hfs_model.specs.declared.item.Kind.{Kind}
use Rattle.hfs_model.specs.ForkCalls.{set_eof, write_fork}
use Rattle.hfs_model.specs.declared.call.Fork.{Fork}
use Rattle.hfs_model.specs.Changes.{cat_move, create, rename, set_cat_info}
use Rattle.hfs_model.specs.declared.settings.ItemSettings.{ItemSettings}
use Rattle.hfs_model.specs.Children.{is_folder, child_named, valence}
use Rattle.hfs_model.specs.Volume.{Volume, Items, Entry}
use Rattle.hfs_model.specs.FileIds.{with_thread_bit}
use Rattle.hfs_model.specs.Lawful.{Has}
use Rattle.hfs_viewers.specs.declared.place.Place.{Place}
use Rattle.hfs_viewers.specs.Places.{place_cmp}
use Rattle.hfs_viewers.specs.declared.table.Table.{Table}
use Rattle.hfs_viewers.specs.declared.table.Found.{Found}
use Rattle.hfs_viewers.specs.Tables.{item_of, items_of, kind_of, volume_of, IsTable, IsKindOf}
use Rattle.hfs_viewers.specs.declared.row.Row.{Row}
use Rattle.hfs_viewers.specs.declared.row.RowKind.{RowKind}
use Rattle.hfs_viewers.specs.declared.row.RowKind.TheVariants.{Folder, File}

-- the row of that ID, if there is one, becomes f of it, and each other stays
pub record Writes (f : Row → Row) (k : ℕ) (m n : tree.BTreeMap ℕ Row) : Type 0 where
  pub sorted : tree.IsOrdered nat_cmp n
  pub writes : (q : ℕ) → tree.get nat_cmp n q ≡ (if k == q then option_map f (tree.get nat_cmp m q) else tree.get nat_cmp m q)

-- with these first Finder bytes
abbrev pub with_finder : List ℕ → Row → Row
with_finder info r = record r { finder = info ++ drop 16 r.finder }

-- with these dates and Finder bytes
abbrev pub with_info : ItemSettings → Row → Row
with_info set r = record r { created = set.created; modified = set.modified; backup = set.backup; finder = set.info }

abbrev pub kind_locked : Bool → RowKind → RowKind
kind_locked locked (Folder kept children) = Folder kept children
kind_locked locked (File file) = File (record file { locked = locked })

-- of a file, with that lock
abbrev pub with_lock : Bool → Row → Row
with_lock locked r = record r { kind = kind_locked locked r.kind }

abbrev pub kind_threaded : Bool → RowKind → RowKind
kind_threaded there (Folder kept children) = Folder kept children
kind_threaded there (File file) = File (record file { kept = with_thread_bit there file.kept; has_thread = there })

-- of a file, with a thread or without one, as bit 1 of its flags says too
abbrev pub with_thread : Bool → Row → Row
with_thread there r = record r { kind = kind_threaded there r.kind }

-- ---- choices

-- the entry of a row that was chosen, or the same code
abbrev pub chosen_of : Table → Result Found ℤ → Result Entry ℤ
chosen_of t (Ok f) = Ok (f.id, item_of t.base t.mdb f.row.now)
chosen_of t (Err code) = Err code

-- what is chosen in the table's volume is this, or the same code
abbrev pub Chooses : Table → (Volume → Result Entry ℤ) → Result Found ℤ → Type 0
Chooses t choice found = choice (volume_of t) ≡ chosen_of t found

-- an item was chosen, and the table has it
abbrev pub IsFound : Table → Found → Type 0
IsFound t f = Has (items_of t) f.id (item_of t.base t.mdb f.row.now)

-- a change leaves a table of the volume afterwards
pub record Leaves (t : Table) (v : Volume) : Type 0 where
  pub table : IsTable t
  pub volume : volume_of t ≡ v

-- the dates and the Finder bytes of the folder's item of that name are set
abbrev pub SetsCatInfo : ℕ → List ℕ → ItemSettings → ℕ → Table → Table → Type 0
SetsCatInfo dir name set now old new = Leaves new (set_cat_info (volume_of old) dir name set.created set.modified set.backup set.info now).0

-- the fork of the folder's file of that name is its first bytes
abbrev pub SetsEof : ℕ → List ℕ → Fork → ℕ → ℕ → Table → Table → Type 0
SetsEof dir name fork length now old new = Leaves new (set_eof old.mdb.allocation_block_size (volume_of old) dir name fork length now).0

-- bytes are written over the fork of the folder's file of that name
abbrev pub WritesFork : ℕ → List ℕ → Fork → ℕ → List ℕ → ℕ → Table → Table → Type 0
WritesFork dir name fork offset bytes now old new = Leaves new (write_fork old.mdb.allocation_block_size (volume_of old) dir name fork offset bytes now).0

-- an item of that kind is made under the folder
abbrev pub Adds : Kind → ℕ → List ℕ → ℕ → Table → Table → Type 0
Adds kind dir name now old new = Leaves new (create kind (volume_of old) dir name now).0

-- the same of a row's kind
abbrev pub AddsRow : RowKind → ℕ → List ℕ → ℕ → Table → Table → Type 0
AddsRow kind dir name now old new = Adds (kind_of old.base old.mdb kind) dir name now old new

-- the folder's item of that name gets the new one
abbrev pub Renames : ℕ → List ℕ → List ℕ → ℕ → Table → Table → Type 0
Renames dir name new_name now old new = Leaves new (rename (volume_of old) dir name new_name now).0

-- the folder's item of that name is put into the new folder
abbrev pub MovesItem : ℕ → List ℕ → ℕ → ℕ → Table → Table → Type 0
MovesItem dir name new_dir now old new = Leaves new (cat_move (volume_of old) dir name new_dir now).0

-- ---- one more child

abbrev pub kind_with_child : RowKind → RowKind
kind_with_child (Folder kept children) = Folder kept (children + 1)
kind_with_child (File file) = File file

-- modified now, with one more child
abbrev pub with_child : ℕ → Row → Row
with_child now r = record r { modified = now; kind = kind_with_child r.kind }

-- a folder with room for one more child
abbrev pub HasRoom : RowKind → Type 0
HasRoom (Folder kept children) = children < 65535
HasRoom (File file) = Unit {0}

-- an item may be made there
pub record MayAdd (t : Table) (dir : ℕ) (name : List ℕ) : Type 0 where
  pub last : t.next_id < 4294967295
  pub folder : is_folder (finite.entries (items_of t)) dir ≡ true
  pub free : child_named (finite.entries (items_of t)) dir name ≡ None
  pub room : valence (finite.entries (items_of t)) dir < 65535

-- the row of a new item
abbrev pub new_row : RowKind → ℕ → List ℕ → ℕ → Row
new_row kind dir name now = record { parent = dir; name = name; created = now; modified = now; backup = 0; finder = replicate 32 0; kind = kind }

-- it has no children, and what forks it has lie in the volume
abbrev pub IsNew : Mdb → RowKind → Type 0
IsNew mdb kind = (a : Items) (id : ℕ) → valence (finite.entries a) id ≡ 0 → IsKindOf a mdb id kind

-- ---- items that are deleted, or are elsewhere

abbrev pub kind_less_child : RowKind → RowKind
kind_less_child (Folder kept children) = Folder kept (children - 1)
kind_less_child (File file) = File file

-- modified now, with one child less
abbrev pub without_child : ℕ → Row → Row
without_child now r = record r { modified = now; kind = kind_less_child r.kind }

abbrev pub with_name : List ℕ → Row → Row
with_name name r = record r { name = name }

abbrev pub with_parent : ℕ → Row → Row
with_parent parent r = record r { parent = parent }

-- the ID is at the one place and not at the other
pub record Moves (from to : Place) (id : ℕ) (m n : tree.BTreeMap Place ℕ) : Type 0 where
  pub sorted : tree.IsOrdered place_cmp n
  pub moves : (q : Place) → tree.get place_cmp n q ≡ (if is_eq (place_cmp to q) then Some id else if is_eq (place_cmp from q) then None else tree.get place_cmp m q)

-- the same IDs are at the same places
pub record IsAsBefore (m n : tree.BTreeMap Place ℕ) : Type 0 where
  pub sorted : tree.IsOrdered place_cmp n
  pub same : (q : Place) → tree.get place_cmp n q ≡ tree.get place_cmp m q
