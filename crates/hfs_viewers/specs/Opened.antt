-- The rows that a catalog's records make.
use Rattle.std.specs.Prelude.{◌≡◌, ℕ, ◌||◌, Bool, false, IsTrue, nat_eq, List, ◌∷◌, Some}
use Rattle.std.specs.List.{list_any}
use Rattle.std.specs.Ordering.{nat_cmp}
use Rattle.std.specs.Option.{option_map}
use Rattle.std.specs.FinMap as finite
use Rattle.std.specs.BTreeMap as tree
use Rattle.std.specs.BTreeMap.{BTreeMap}
use Rattle.std.specs.declared.cmp.Ordering.{Ordering}
use Rattle.hfs_blocks.specs.Blocks.{block_at}
use Rattle.hfs_fields.specs.declared.dir_record.DirRecord.{DirRecord}
use Rattle.hfs_fields.specs.declared.file_record.FileRecord.{FileRecord}
use Rattle.hfs_fields.specs.declared.key.CatKey.{CatKey}
use Rattle.hfs_fields.specs.declared.mdb.Mdb.{Mdb}
use Rattle.hfs_fields.specs.Records.{is_dir, is_file, item_id, is_bit_set, dir_record_of, file_record_of}
use Rattle.hfs_fields.specs.Each.{Each}
use Rattle.hfs_model.specs.Volume.{Items}
use Rattle.hfs_model.specs.Children.{valence}
use Rattle.hfs_catalog.specs.Records.{Record, Catalog, item_with, has_thread}
use Rattle.hfs_catalog.specs.Items.{Contents}
use Rattle.hfs_catalog.specs.Items as records
use Rattle.hfs_catalog.specs.Lookups.{child_named}
use Rattle.hfs_check.specs.Parts.{mdb_in, catalog_in}
use Rattle.hfs_check.specs.VolumeOf.{contents_in, volume_of}
use Rattle.hfs_volume.specs.Image.{ImageValue}
use Rattle.hfs_volume.specs.Mounted.{AreForksIn}
use Rattle.hfs_viewers.specs.declared.place.Place.{Place}
use Rattle.hfs_viewers.specs.declared.row.Row.{Row}
use Rattle.hfs_viewers.specs.MountedForks.{OpensForks}
use Rattle.hfs_viewers.specs.declared.opening.Maps.{Maps}
use Rattle.hfs_viewers.specs.declared.table.Table.{Table}
use Rattle.hfs_viewers.specs.Places.{place, place_cmp}
use Rattle.hfs_viewers.specs.Tables.{item_of, IsKindOf}

-- whether the number is one of these
abbrev pub has_number : List ℕ → ℕ → Bool
has_number numbers id = list_any (nat_eq id) numbers

-- the new numbers are the old ones, and those that pass the test
abbrev pub AddsNumbers : (ℕ → Bool) → List ℕ → List ℕ → Type 0
AddsNumbers passes old new = (k : ℕ) → has_number new k ≡ (has_number old k || passes k)

-- these are the IDs of which the records have a thread
abbrev pub AreThreadsOf : Catalog → List ℕ → Type 0
AreThreadsOf catalog numbers = (id : ℕ) → has_number numbers id ≡ has_thread catalog id

-- the catalog's records in an image
abbrev pub image_catalog : List ℕ → Catalog
image_catalog image = catalog_in (block_at image)

-- a record of an image: a folder's has the number of its children; a file's forks lie in the volume, and are opened by its folder and name
pub record IsRight (image : List ℕ) (items : Items) (r : Record) : Type 0 where
  pub valence_is : IsTrue (is_dir r.1) → (dir_record_of r.1).valence ≡ valence (finite.entries items) (item_id r.1)
  pub forks : IsTrue (is_file r.1) → AreForksIn (block_at image) (file_record_of r.1)
  pub opens : is_dir r.1 ≡ false → IsTrue (is_file r.1) → OpensForks image r.0 (file_record_of r.1)

-- a record of an image, as its volume is
abbrev pub IsRightIn : List ℕ → Record → Type 0
IsRightIn image r = IsRight image (volume_of image).items r

-- the records of an image are right
abbrev pub AreRight : List ℕ → Type 0
AreRight image = Each (IsRightIn image) (image_catalog image)

-- ---- the rows of records

-- the row shows the folder of this record, whatever the base
abbrev pub ShowsFolder : CatKey → DirRecord → Row → Type 0
ShowsFolder key folder row = (base : List ℕ) (mdb : Mdb) → item_of base mdb row ≡ records.folder_of key folder

-- it has the number of the children, where the record has it
abbrev pub HasChildrenOf : DirRecord → Row → Type 0
HasChildrenOf folder row = (items : Items) (mdb : Mdb) (id : ℕ) → folder.valence ≡ valence (finite.entries items) id → IsKindOf items mdb id row.kind

-- the row shows the file of this record, with a thread or without one
abbrev pub ShowsFile : ImageValue → Bool → CatKey → FileRecord → Row → Type 0
ShowsFile image threaded key file row =
    item_of image.base (mdb_in (block_at image.current)) row ≡ records.file_of threaded (contents_in (block_at image.current) file) key file

-- its forks lie in the image's volume
abbrev pub HasForksIn : List ℕ → Row → Type 0
HasForksIn image row = (items : Items) (id : ℕ) → IsKindOf items (mdb_in (block_at image)) id row.kind

-- a row more, under its ID and at its place
pub record Enters (id : ℕ) (row : Row) (old new : Maps) : Type 0 where
  pub sorted_ids : tree.IsOrdered nat_cmp new.by_id
  pub sorted_names : tree.IsOrdered place_cmp new.by_name
  pub ids : tree.Updates nat_cmp old.by_id new.by_id id (Some row)
  pub names : tree.Updates place_cmp old.by_name new.by_name (place row.parent row.name) (Some id)

-- these are the rows of these records, by their IDs and by their places
pub record AreRows (base : List ℕ) (mdb : Mdb) (items : Items) (contents : Contents) (catalog done : Catalog) (maps : Maps) : Type 0 where
  pub sorted_ids : tree.IsOrdered nat_cmp maps.by_id
  pub sorted_names : tree.IsOrdered place_cmp maps.by_name
  pub ids : (q : ℕ) → option_map (item_of base mdb) (tree.get nat_cmp maps.by_id q) ≡ option_map (records.item_of contents catalog) (item_with done q)
  pub names : (p : Place) → tree.get place_cmp maps.by_name p ≡ option_map (λ (r : Record). item_id r.1) (child_named done p.parent p.name)
  pub kinds : (q : ℕ) (row : Row) → tree.get nat_cmp maps.by_id q ≡ Some row → IsKindOf items mdb q row.kind

-- these are the rows of these records of an image, over the base
abbrev pub AreRowsOf : List ℕ → List ℕ → Catalog → Maps → Type 0
AreRowsOf base image done maps =
    AreRows base (mdb_in (block_at image)) (volume_of image).items (contents_in (block_at image)) (catalog_in (block_at image)) done maps

-- the row of one record more, where the record is an item's
abbrev pub TakesIn : List ℕ → List ℕ → Record → Maps → Maps → Type 0
TakesIn base image r old new = (done : Catalog) → AreRowsOf base image done old → AreRowsOf base image (r ∷ done) new

-- the same over the image's base
abbrev pub TakesRecord : ImageValue → Record → Maps → Maps → Type 0
TakesRecord image r old new = TakesIn image.base image.current r old new

-- these are the rows of all records of an image, over its base
abbrev pub AreAllRows : ImageValue → Maps → Type 0
AreAllRows image maps = AreRowsOf image.base image.current (image_catalog image.current) maps

-- a map in which each key finds what it finds in the other one
pub record HasSameEntries {K X : Type 0} (cmp : K → K → Ordering) (old new : BTreeMap K X) : Type 0 where
  pub ordered : tree.IsOrdered cmp new
  pub found : (q : K) → tree.get cmp new q ≡ tree.get cmp old q

-- maps of the same rows
pub record HasSameRows (old new : Maps) : Type 0 where
  pub ids : HasSameEntries nat_cmp old.by_id new.by_id
  pub names : HasSameEntries place_cmp old.by_name new.by_name

-- the table of these rows, in a volume whose master directory block this is
abbrev pub table_over : List ℕ → Mdb → Maps → Table
table_over base mdb maps = record {
  base = base;
  mdb = mdb;
  by_id = maps.by_id;
  by_name = maps.by_name;
  next_id = mdb.next_id;
  changed = mdb.modified;
  hardware_locked = is_bit_set 7 mdb.attributes.0;
  software_locked = is_bit_set 15 mdb.attributes.0;
}
