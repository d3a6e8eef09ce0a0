-- When a catalog is sound: one fact for each check on its records.
use Rattle.std.specs.Prelude.{◌≡◌, ◌≢◌, ℕ, ◌-◌, ◌≤◌, ◌<◌, ◌⊎◌, Bool, IsTrue, ◌&&◌, ◌==◌, length, count_by, Some}
use Rattle.hfs_fields.specs.declared.mdb.Mdb.{Mdb}
use Rattle.hfs_fields.specs.declared.key.CatKey.{CatKey}
use Rattle.hfs_fields.specs.Names.{is_item_name}
use Rattle.hfs_fields.specs.Order.{same_name}
use Rattle.hfs_fields.specs.Keys.{cat_cmp}
use Rattle.hfs_fields.specs.Records.{is_dir, is_file, is_item, is_thread, is_dir_thread, begins_thread, item_id, dir_record_of, thread_record_of}
use Rattle.hfs_fields.specs.Each.{Each}
use Rattle.hfs_btree.specs.Pairs.{Rises}
use Rattle.hfs_btree.specs.Sound.{IsDistinct}
use Rattle.hfs_catalog.specs.Records.{Record, Catalog, item_ids, item_with, is_folder_id, has_thread, valence_of}
use Rattle.hfs_catalog.specs.Parents.{ReachesRoot}

-- the fact holds of each file's and folder's record
abbrev pub EachItem : (Record → Type 0) → Catalog → Type 0
EachItem Fact catalog = Each (λ r. IsTrue (is_item r.1) → Fact r) catalog

abbrev pub EachFolder : (Record → Type 0) → Catalog → Type 0
EachFolder Fact catalog = Each (λ r. IsTrue (is_dir r.1) → Fact r) catalog

abbrev pub EachThread : (Record → Type 0) → Catalog → Type 0
EachThread Fact catalog = Each (λ r. IsTrue (is_thread r.1) → Fact r) catalog

-- ---- records

-- a folder's or a file's record under a name, or a thread's under an empty one
abbrev pub IsRecord : Record → Type 0
IsRecord r = (IsTrue (is_item r.1) × (1 ≤ length r.0.name)) ⊎ (IsTrue (is_thread r.1) × (length r.0.name ≡ 0))

-- ---- IDs

-- item 2, a folder under 1
pub record IsRoot (r : Record) : Type 0 where
  pub id : item_id r.1 ≡ 2
  pub folder : IsTrue (is_dir r.1)
  pub parent : r.0.parent ≡ 1

-- an item with an ID that was given out, which is not under 1
pub record IsGiven (next : ℕ) (r : Record) : Type 0 where
  pub least : 16 ≤ item_id r.1
  pub given : item_id r.1 < next
  pub parent : r.0.parent ≢ 1

abbrev pub HasRightId : ℕ → Record → Type 0
HasRightId next r = IsRoot r ⊎ IsGiven next r

pub record AreIdsSound (next : ℕ) (catalog : Catalog) : Type 0 where
  pub each : EachItem (HasRightId next) catalog
  pub distinct : IsDistinct (item_ids catalog)
  pub root : (r : Record) × (item_with catalog 2 ≡ Some r)

-- ---- names

-- of an item's key, and of a thread's body, where the length is at most 31
pub record AreNamesSound (catalog : Catalog) : Type 0 where
  pub items : EachItem (λ r. IsTrue (is_item_name r.0.name)) catalog
  pub threads : EachThread (λ r. IsTrue (begins_thread r.1) × IsTrue (is_item_name (thread_record_of r.1).name)) catalog

-- a key of an index node has an empty name or an item name
abbrev pub IsIndexKeyName : CatKey → Type 0
IsIndexKeyName key = (length key.name ≡ 0) ⊎ IsTrue (is_item_name key.name)

-- ---- order, parents, threads

-- the parent is a folder, and the chain of parents reaches the root
pub record HasPlace (catalog : Catalog) (r : Record) : Type 0 where
  pub parent : IsTrue (is_folder_id catalog r.0.parent)
  pub chain : ReachesRoot catalog (item_id r.1)

-- the thread is of the item's kind, and says its parent and the same name
pub record LeadsTo (item thread : Record) : Type 0 where
  pub kind : is_dir_thread thread.1 ≡ is_dir item.1
  pub parent : (thread_record_of thread.1).parent ≡ item.0.parent
  pub name : IsTrue (same_name item.0.name (thread_record_of thread.1).name)

-- the thread is of the item whose ID is its key
abbrev pub HasItem : Catalog → Record → Type 0
HasItem catalog thread = (item : Record) × (item_with catalog thread.0.parent ≡ Some item) × LeadsTo item thread

pub record ArePlacesSound (catalog : Catalog) : Type 0 where
  -- the keys strictly rise
  pub rises : Rises cat_cmp catalog
  pub parents : EachItem (λ r. (item_id r.1 ≡ 2) ⊎ HasPlace catalog r) catalog
  pub threaded : EachFolder (λ r. IsTrue (has_thread catalog (item_id r.1))) catalog
  pub threads : EachThread (HasItem catalog) catalog

-- ---- valences and counts

-- the number of the folder's children, in the two bytes that a valence has
pub record HasValence (catalog : Catalog) (r : Record) : Type 0 where
  pub counted : (dir_record_of r.1).valence ≡ valence_of catalog (item_id r.1)
  pub short : (dir_record_of r.1).valence ≤ 65535

pub record Counts : Type 0 where
  pub root_files : ℕ
  pub root_folders : ℕ
  pub files : ℕ
  pub folders : ℕ

abbrev pub is_file_in : ℕ → Record → Bool
is_file_in dir r = is_file r.1 && (r.0.parent == dir)

abbrev pub is_folder_in : ℕ → Record → Bool
is_folder_in dir r = is_dir r.1 && (r.0.parent == dir)

-- the root's files and folders, all files, and all folders but the root
unfoldable pub counts_of : Catalog → Counts
counts_of catalog = record {
  root_files = count_by (is_file_in 2) catalog;
  root_folders = count_by (is_folder_in 2) catalog;
  files = count_by (λ r. is_file r.1) catalog;
  folders = count_by (λ r. is_dir r.1) catalog - 1;
}

-- the counts in the master directory block are those of the catalog
pub record AreCountsSound (mdb : Mdb) (catalog : Catalog) : Type 0 where
  pub root_files : mdb.root_files ≡ (counts_of catalog).root_files
  pub root_folders : mdb.root_folders ≡ (counts_of catalog).root_folders
  pub files : mdb.files ≡ (counts_of catalog).files
  pub folders : mdb.folders ≡ (counts_of catalog).folders

-- ---- the catalog

-- the checks on the leaf records, on a volume whose next ID this is
pub record IsSoundCatalog (next : ℕ) (catalog : Catalog) : Type 0 where
  pub records : Each IsRecord catalog
  pub ids : AreIdsSound next catalog
  pub names : AreNamesSound catalog
  pub places : ArePlacesSound catalog
  pub valences : EachFolder (HasValence catalog) catalog
