-- What the edits of Create and DirCreate make of a catalog.
use Rattle.std.specs.Prelude.{◌≡◌, ℕ, ◌+◌, ◌≤◌, true, [], ◌∷◌, length, Some, None}
use Rattle.hfs_fields.specs.declared.thread_record.ThreadKind.TheVariants as kind
use Rattle.hfs_fields.specs.Keys.{cat_cmp}
use Rattle.hfs_fields.specs.Records.{is_dir, dir_record_of, new_thread, new_dir, new_file}
use Rattle.hfs_fields.specs.RecordForms.{IsThreadRecordValue, IsDirRecordValue, IsFileRecordValue}
use Rattle.hfs_btree.specs.Pairs.{lookup}
use Rattle.hfs_btree.specs.Tree.{Store}
use Rattle.hfs_fields.specs.Members.{In}
use Rattle.hfs_catalog.specs.Records.{Record, Catalog}
use Rattle.hfs_catalog.specs.Lookups.{first_key}
use Rattle.hfs_catalog.specs.Tree.{catalog_of}
use Rattle.hfs_record_edits.specs.Keeps.{KeepsCatalog}
use Rattle.hfs_record_edits.specs.Rooms.{IsInFile}
use Rattle.hfs_record_edits.specs.Roots.{HasRoot}
use Rattle.hfs_record_edits.specs.Swaps.{Swaps}
use Rattle.hfs_record_edits.specs.Changes.{thread_record, with_children, folder_with}
use Rattle.hfs_record_edits.specs.CreationLaws.{file_record_in, folder_record_in}
use Rattle.hfs_call_patches.specs.declared.new_items.NewPlace.{NewPlace}

-- ---- before

-- it is the record of the place's folder
pub record IsOwnFolder (place : NewPlace) (catalog : Catalog) (r : Record) : Type 0 where
  pub there : In r catalog
  pub own_key : r.0 ≡ place.folder
  pub folder : is_dir r.1 ≡ true

-- the place's folder is in the catalog, and no item of its own name
pub record TakesItem (dir : ℕ) (place : NewPlace) (nodes : Store) : Type 0 where
  pub root : HasRoot (catalog_of nodes)
  pub low : 2 ≤ dir
  pub absent : lookup cat_cmp (record { parent = dir; name = place.name }) (catalog_of nodes) ≡ None
  pub of : Record
  pub own : IsOwnFolder place (catalog_of nodes) of
  pub inside : IsInFile nodes

-- nor a thread of the new folder's ID
pub record TakesFolder (id dir : ℕ) (place : NewPlace) (nodes : Store) : Type 0 where
  pub item : TakesItem dir place nodes
  pub some_name : 1 ≤ length place.name
  pub some_id : 2 ≤ id
  pub threadless : lookup cat_cmp (first_key id) (catalog_of nodes) ≡ None

-- ---- afterwards

-- the file's record was added, and then its folder's with one more child
pub record HasPutFile (id dir : ℕ) (place : NewPlace) (now : ℕ) (r : Record) (old new : Store) : Type 0 where
  pub keeps : KeepsCatalog (place.folder ∷ (file_record_in id dir place.name now).0 ∷ []) old new
  pub first : Catalog
  pub file_came : Swaps None (Some (file_record_in id dir place.name now)) (catalog_of old) first
  pub folder_set : Swaps (Some r) (Some (folder_with (place.children + 1) now r)) first (catalog_of new)
  pub file_value : IsFileRecordValue (new_file id now)
  pub folder_value : IsDirRecordValue (with_children (place.children + 1) now (dir_record_of r.1))

-- whichever record is the folder's
abbrev pub PutsFile : ℕ → ℕ → NewPlace → ℕ → Store → Store → Type 0
PutsFile id dir place now old new = (r : Record) → IsOwnFolder place (catalog_of old) r → HasPutFile id dir place now r old new

-- the folder's record was added, then its thread's, and then that of the folder which holds it
pub record HasPutFolder (id dir : ℕ) (place : NewPlace) (now : ℕ) (r : Record) (old new : Store) : Type 0 where
  pub keeps : KeepsCatalog (place.folder ∷ first_key id ∷ (folder_record_in id dir place.name now).0 ∷ []) old new
  pub first : Catalog
  pub second : Catalog
  pub folder_came : Swaps None (Some (folder_record_in id dir place.name now)) (catalog_of old) first
  pub thread_came : Swaps None (Some (thread_record id (new_thread kind.Folder dir place.name))) first second
  pub folder_set : Swaps (Some r) (Some (folder_with (place.children + 1) now r)) second (catalog_of new)
  pub new_value : IsDirRecordValue (new_dir id now)
  pub thread_value : IsThreadRecordValue (new_thread kind.Folder dir place.name)
  pub folder_value : IsDirRecordValue (with_children (place.children + 1) now (dir_record_of r.1))

abbrev pub PutsFolder : ℕ → ℕ → NewPlace → ℕ → Store → Store → Type 0
PutsFolder id dir place now old new = (r : Record) → IsOwnFolder place (catalog_of old) r → HasPutFolder id dir place now r old new
