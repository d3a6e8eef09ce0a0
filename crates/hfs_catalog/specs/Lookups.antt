-- What look-ups answer.
use Rattle.std.specs.Prelude.{◌≡◌, ℕ, Bool, false, ◌&&◌, ◌==◌, if◌then◌else◌, IsTrue, List, ◌++◌, map, find, filter, Option, [], Some, None}
use Rattle.std.specs.Option.{option_map, option_to_list}
use Rattle.hfs_fields.specs.Order.{same_name}
use Rattle.hfs_fields.specs.declared.key.CatKey.{CatKey}
use Rattle.hfs_fields.specs.declared.thread_record.ThreadRecord.{ThreadRecord}
use Rattle.hfs_fields.specs.Records.{is_dir, is_item, is_thread, begins_thread, dir_record_of, file_record_of, thread_record_of}
use Rattle.hfs_btree.specs.Lookups.{first_pair}
use Rattle.hfs_catalog.specs.declared.item.ItemRecord.{ItemRecord}
use Rattle.hfs_catalog.specs.declared.item.ItemRecord.TheVariants.{Folder, File}
use Rattle.hfs_catalog.specs.declared.item.CatalogItem.{CatalogItem}
use Rattle.hfs_catalog.specs.Records.{Record, Catalog, has_id, is_child_of, is_thread_of}

-- a folder's or a file's record
abbrev pub record_of : List ℕ → ItemRecord
record_of body = if is_dir body then Folder (dir_record_of body) else File (file_record_of body)

-- the item of a record
unfoldable pub catalog_item : Record → CatalogItem
catalog_item r = record { key = r.0; body = record_of r.1 }

abbrev pub is_child_named : ℕ → List ℕ → Record → Bool
is_child_named dir name r = is_child_of dir r && same_name r.0.name name

-- the file or folder of that name, in whatever case its ASCII letters are, under this parent
abbrev pub child_named : Catalog → ℕ → List ℕ → Option Record
child_named catalog dir name = find (is_child_named dir name) catalog

-- the files and folders under this parent, in the catalog's order
abbrev pub children_of : Catalog → ℕ → Catalog
children_of catalog dir = filter (is_child_of dir) catalog

-- the thread record whose key is this ID
abbrev pub thread_of : Catalog → ℕ → Option Record
thread_of catalog id = find (is_thread_of id) catalog

-- ---- what the first record from a key on says

-- the item of that name, where the record is its
abbrev pub named_at : ℕ → List ℕ → Option Record → Option CatalogItem
named_at dir name None = None
named_at dir name (Some r) = if is_child_named dir name r then Some (catalog_item r) else None

-- the thread of that ID, where the record is one that can be read
abbrev pub thread_at : ℕ → Option Record → Option ThreadRecord
thread_at id None = None
thread_at id (Some r) = if is_thread_of id r && begins_thread r.1 then Some (thread_record_of r.1) else None

-- the item with that ID, where the record is its
abbrev pub with_id_at : ℕ → Option Record → Option CatalogItem
with_id_at id None = None
with_id_at id (Some r) = if has_id id r then Some (catalog_item r) else None

-- the least key with this parent
abbrev pub first_key : ℕ → CatKey
first_key parent = record { parent = parent; name = [] }

-- the item of a record that is one
abbrev pub item_at : Option Record → Option CatalogItem
item_at None = None
item_at (Some r) = if is_item r.1 then Some (catalog_item r) else None

-- whether a record is there and has this parent
abbrev pub is_under : ℕ → Option Record → Bool
is_under dir None = false
is_under dir (Some r) = r.0.parent == dir

-- ---- words of the look-ups' contracts

-- the item of that name, in whatever case its ASCII letters are, under this parent
abbrev pub item_named : Catalog → ℕ → List ℕ → Option CatalogItem
item_named catalog dir name = option_map catalog_item (child_named catalog dir name)

-- the items under this parent, in the catalog's order
abbrev pub child_items : Catalog → ℕ → List CatalogItem
child_items catalog dir = map catalog_item (children_of catalog dir)

-- what the thread of this ID says
abbrev pub thread_in : Catalog → ℕ → Option ThreadRecord
thread_in catalog id = option_map (λ r. thread_record_of r.1) (thread_of catalog id)

-- a body is a thread's record that can be read
abbrev pub IsReadableThread : List ℕ → Type 0
IsReadableThread body = IsTrue (is_thread body && begins_thread body)

-- the item of the first record, if that is one's, was added after the others
abbrev pub AddsFirstItem : Catalog → List CatalogItem → List CatalogItem → Type 0
AddsFirstItem records old new = new ≡ old ++ option_to_list (item_at (first_pair records))
