-- The records of a catalog, and what is looked up among them.
use Rattle.std.specs.Prelude.{ℕ, Bool, false, ◌&&◌, ◌==◌, List, map, find, filter, count_by, Option}
use Rattle.std.specs.List.{list_any}
use Rattle.std.specs.Option.{option_map_or}
use Rattle.hfs_fields.specs.declared.key.CatKey.{CatKey}
use Rattle.hfs_fields.specs.Records.{is_dir, is_item, is_thread, item_id}
use Rattle.hfs_btree.specs.Pairs.{Pairs}

-- a key, and the body under it
abbrev pub Record : Type 0
Record = CatKey × List ℕ

-- the records of the catalog's leaves, in order
abbrev pub Catalog : Type 0
Catalog = Pairs CatKey

-- the records of files and folders
abbrev pub items_of : Catalog → Catalog
items_of catalog = filter (λ r. is_item r.1) catalog

-- the IDs of files and folders
abbrev pub item_ids : Catalog → List ℕ
item_ids catalog = map (λ r. item_id r.1) (items_of catalog)

-- a file's or a folder's record with this ID
abbrev pub has_id : ℕ → Record → Bool
has_id id r = is_item r.1 && (item_id r.1 == id)

-- the file or folder with this ID
abbrev pub item_with : Catalog → ℕ → Option Record
item_with catalog id = find (has_id id) catalog

-- whether this is the ID of a folder
abbrev pub is_folder_id : Catalog → ℕ → Bool
is_folder_id catalog id = option_map_or (λ (r : Record). is_dir r.1) (item_with catalog id) false

-- a thread record, of either kind, whose key is this ID
abbrev pub is_thread_of : ℕ → Record → Bool
is_thread_of id r = is_thread r.1 && (r.0.parent == id)

abbrev pub has_thread : Catalog → ℕ → Bool
has_thread catalog id = list_any (is_thread_of id) catalog

-- a file's or a folder's record under this parent
abbrev pub is_child_of : ℕ → Record → Bool
is_child_of dir r = is_item r.1 && (r.0.parent == dir)

-- the number of files and folders whose parent it is
abbrev pub valence_of : Catalog → ℕ → ℕ
valence_of catalog dir = count_by (is_child_of dir) catalog
