-- The rows of records, record by record.
use Rattle.std.proofs.Common.{◌≡◌, ℕ, Bool, true, false, cond, eqb, ◌&&◌, ◌||◌, List, [], ◌∷◌, ◌++◌, append_assoc, refl, sym, ◌∙◌, ap, subst, Some}
use Rattle.std.specs.declared.cmp.Ordering.{Ordering}
use Rattle.std.specs.declared.cmp.Ordering.TheVariants.{Less, Equal, Greater}
use Rattle.std.specs.Ordering.{nat_cmp, is_eq, ordering_then}
use Rattle.std.specs.Cmp.{unsigned_ties}
use Rattle.std.specs.Option.{option_map}
use Rattle.std.specs.BTreeMap as tree
use Rattle.std.proofs.lemmas.Bool.{eqb-true}
use Rattle.hfs_fields.specs.declared.key.CatKey.{CatKey}
use Rattle.hfs_fields.specs.declared.mdb.Mdb.{Mdb}
use Rattle.hfs_fields.specs.declared.file_record.FileRecord.{FileRecord}
use Rattle.hfs_fields.specs.Order.{name_cmp, same_name}
use Rattle.hfs_fields.specs.Records.{is_dir, is_file, is_item, item_id, is_bit_set, dir_record_of, file_record_of}
use Rattle.hfs_blocks.specs.Blocks.{block_at}
use Rattle.hfs_model.specs.declared.call.Fork.TheVariants.{DataFork, ResFork}
use Rattle.hfs_model.specs.declared.item.Item.{Item}
use Rattle.hfs_model.specs.Volume.{Items}
use Rattle.std.specs.FinMap as finite
use Rattle.hfs_model.specs.Children.{valence}
use Rattle.hfs_fields.specs.Each.{Each}
use Rattle.hfs_fields.proofs.ElementLemmas.{each-right}
use Rattle.hfs_fields.specs.declared.dir_record.DirRecord.{DirRecord}
use Rattle.hfs_catalog.specs.Records.{Record, Catalog, has_id, has_thread, item_with}
use Rattle.hfs_catalog.specs.Items.{Contents, file_kept, folder_of, file_of}
use Rattle.hfs_catalog.specs.Items as records
use Rattle.hfs_catalog.specs.Lookups.{is_child_named, child_named}
use Rattle.hfs_check.specs.Parts.{mdb_in, catalog_in}
use Rattle.hfs_check.specs.VolumeOf.{contents_in, volume_of}
use Rattle.hfs_volume.specs.Image.{ImageValue}
use Rattle.hfs_viewers.specs.declared.opening.Maps.{Maps}
use Rattle.hfs_viewers.specs.declared.place.Place.{Place}
use Rattle.hfs_viewers.specs.declared.row.Row.{Row}
use Rattle.hfs_viewers.specs.declared.row.RowFork.{RowFork}
use Rattle.hfs_viewers.specs.declared.row.RowKind.TheVariants.{File as FileRow}
use Rattle.hfs_viewers.specs.Places.{place, place_cmp}
use Rattle.hfs_viewers.specs.Tables.{item_of, IsKindOf}
use Rattle.hfs_viewers.specs.MountedForks.{ShowsFork}
use Rattle.hfs_viewers.specs.Opened.{IsRight, Enters, AreRows, AreRowsOf}
use Rattle.hfs_model.proofs.Facts.{same_some}
use Rattle.hfs_viewers.proofs.ShownLemmas.{option_map_cond}

-- ---- a file's row

module _ (image : ImageValue) (f : FileRecord) where
  pub file_shown : (key : CatKey) (has_thread : Bool) (finder kept : List ℕ) (locked : Bool) (d r : RowFork)
      → finder ≡ f.finder_info ++ f.extended_finder_info → kept ≡ file_kept f → locked ≡ is_bit_set 0 f.flags.0
      → ShowsFork image DataFork f d → ShowsFork image ResFork f r
      → item_of image.base (mdb_in (block_at image.current)) (record {
        parent = key.parent;
        name = key.name;
        created = f.created;
        modified = f.modified;
        backup = f.backup;
        finder = finder;
        kind = FileRow (record { kept = kept; locked = locked; has_thread = has_thread; «data» = d; resource = r });
      })
      ≡ file_of has_thread (contents_in (block_at image.current) f) key f
  unfolding file_of
  file_shown key has_thread finder kept locked d r a b c d_shown r_shown = λ i. record {
    parent = key.parent;
    name = key.name;
    created = f.created;
    modified = f.modified;
    backup = f.backup;
    finder = a i;
    kind = Rattle.hfs_model.specs.declared.item.Kind.TheVariants.File (record {
      kept = b i;
      locked = c i;
      has_thread = has_thread;
      «data» = d_shown i;
      resource = r_shown i;
    });
  }

-- ---- a row more

is_eq-then : (a b : Ordering) → is_eq (ordering_then a b) ≡ (is_eq a && is_eq b)
is_eq-then Less b = refl
is_eq-then Equal b = refl
is_eq-then Greater b = refl

module _ (base : List ℕ) (mdb : Mdb) (items : Items) (contents : Contents) (catalog done : Catalog) (r : Record) (is_one : is_item r.1 ≡ true) (row : Row) (old new : Maps)
    (shows : item_of base mdb row ≡ records.item_of contents catalog r) (kind : IsKindOf items mdb (item_id r.1) row.kind) (enters : Enters (item_id r.1) row old new) where
  parent_is : row.parent ≡ r.0.parent
  unfolding records.item_of folder_of file_of
  parent_is = ap (λ (i : Item). i.parent) shows ∙ elim (is_dir r.1) as (λ (b : Bool). (cond b (folder_of r.0 (dir_record_of r.1)) (file_of (has_thread catalog (file_record_of r.1).id) (contents (file_record_of r.1)) r.0 (file_record_of r.1))).parent ≡ r.0.parent) [ true ↦ refl | false ↦ refl ]

  name_is : row.name ≡ r.0.name
  unfolding records.item_of folder_of file_of
  name_is = ap (λ (i : Item). i.name) shows ∙ elim (is_dir r.1) as (λ (b : Bool). (cond b (folder_of r.0 (dir_record_of r.1)) (file_of (has_thread catalog (file_record_of r.1).id) (contents (file_record_of r.1)) r.0 (file_record_of r.1))).name ≡ r.0.name) [ true ↦ refl | false ↦ refl ]

  here : (q : ℕ) → is_eq (nat_cmp (item_id r.1) q) ≡ has_id q r
  here q = sym (unsigned_ties (item_id r.1) q) ∙ ap (λ b. b && eqb (item_id r.1) q) (sym is_one)

  there : (p : Place) → is_eq (place_cmp (place row.parent row.name) p) ≡ is_child_named p.parent p.name r
  there p =
      is_eq-then (nat_cmp row.parent p.parent) (name_cmp row.name p.name)
      ∙ (λ i. sym (unsigned_ties (parent_is i) p.parent) i && same_name (name_is i) p.name)
      ∙ ap (λ b. (b && eqb r.0.parent p.parent) && same_name r.0.name p.name) (sym is_one)

  kinds_now : (q : ℕ) (x : Row) → AreRows base mdb items contents catalog done old → tree.get nat_cmp new.by_id q ≡ Some x → IsKindOf items mdb q x.kind
  kinds_now q x are at = elim (is_eq (nat_cmp (item_id r.1) q)) as (λ (b : Bool). is_eq (nat_cmp (item_id r.1) q) ≡ b → cond b (Some row) (tree.get nat_cmp old.by_id q) ≡ Some x → IsKindOf items mdb q x.kind) [
    | true ↦ λ tie same.
        let id : item_id r.1 ≡ q = eqb-true (item_id r.1) q (unsigned_ties (item_id r.1) q ∙ tie) in
        subst (λ (k : ℕ). IsKindOf items mdb k x.kind) id (subst (λ (y : Row). IsKindOf items mdb (item_id r.1) y.kind) (same_some row x same) kind)
    | false ↦ λ apart was. are.kinds q x was
  ] refl (sym (enters.ids.0 q) ∙ at)

  pub entered : AreRows base mdb items contents catalog done old → AreRows base mdb items contents catalog (r ∷ done) new
  entered are = record {
    sorted_ids = enters.sorted_ids;
    sorted_names = enters.sorted_names;
    ids = λ q.
        ap (option_map (item_of base mdb)) (enters.ids.0 q ∙ ap (λ b. cond b (Some row) (tree.get nat_cmp old.by_id q)) (here q))
        ∙ option_map_cond (item_of base mdb) (has_id q r) row (tree.get nat_cmp old.by_id q)
        ∙ (λ i. cond (has_id q r) (Some (shows i)) (are.ids q i))
        ∙ sym (option_map_cond (records.item_of contents catalog) (has_id q r) r (item_with done q));
    names = λ p.
        enters.names.0 p
        ∙ (λ i. cond (there p i) (Some (item_id r.1)) (are.names p i))
        ∙ sym (option_map_cond (λ (x : Record). item_id x.1) (is_child_named p.parent p.name r) r (child_named done p.parent p.name));
    kinds = λ q x at. kinds_now q x are at;
  }

module _ (base image : List ℕ) (r : Record) (key : CatKey) (body : List ℕ) (key_is : key ≡ r.0) (body_is : body ≡ r.1) (right : IsRight image (volume_of image).items r) (row : Row) (old new : Maps) where
  abbrev items : Items
  items = (volume_of image).items

  abbrev there_mdb : Mdb
  there_mdb = mdb_in (block_at image)

  abbrev shown_of : Record → Item
  shown_of = records.item_of (contents_in (block_at image)) (catalog_in (block_at image))

  pub folder_entered : (folder : DirRecord) → is_dir body ≡ true → folder ≡ dir_record_of body → item_of base there_mdb row ≡ folder_of key folder
      → ((id : ℕ) → folder.valence ≡ valence (finite.entries items) id → IsKindOf items there_mdb id row.kind) → Enters folder.id row old new
      → (done : Catalog) → AreRowsOf base image done old → AreRowsOf base image (r ∷ done) new
  unfolding records.item_of
  folder_entered folder is folder_is shows kind enters done are =
      let dir : is_dir r.1 ≡ true = ap is_dir (sym body_is) ∙ is in
      let read : folder ≡ dir_record_of r.1 = folder_is ∙ ap dir_record_of body_is in
      let id : folder.id ≡ item_id r.1 = ap (λ (d : DirRecord). d.id) read ∙ ap (λ (b : Bool). cond b (dir_record_of r.1).id (file_record_of r.1).id) (sym dir) in
      let whole : item_of base there_mdb row ≡ shown_of r =
      shows ∙ (λ i. folder_of (key_is i) (read i))
      ∙ ap (λ (b : Bool). cond b (folder_of r.0 (dir_record_of r.1)) (file_of (has_thread (catalog_in (block_at image)) (file_record_of r.1).id) (contents_in (block_at image) (file_record_of r.1)) r.0 (file_record_of r.1))) (sym dir) in
      entered base there_mdb items (contents_in (block_at image)) (catalog_in (block_at image)) done r (ap (λ (b : Bool). b || is_file r.1) dir) row old new whole
      (kind (item_id r.1) (ap (λ (d : DirRecord). d.valence) read ∙ right.valence_is dir)) (subst (λ (k : ℕ). Enters k row old new) id enters) are

  pub file_entered : (file : FileRecord) (has : Bool) → is_dir body ≡ false → is_file body ≡ true → file ≡ file_record_of body → has ≡ has_thread (catalog_in (block_at image)) file.id
      → item_of base there_mdb row ≡ file_of has (contents_in (block_at image) file) key file
      → ((id : ℕ) → IsKindOf items there_mdb id row.kind) → Enters file.id row old new
      → (done : Catalog) → AreRowsOf base image done old → AreRowsOf base image (r ∷ done) new
  unfolding records.item_of
  file_entered file has other is file_is has_is shows kind enters done are =
      let dir : is_dir r.1 ≡ false = ap is_dir (sym body_is) ∙ other in
      let one : is_file r.1 ≡ true = ap is_file (sym body_is) ∙ is in
      let read : file ≡ file_record_of r.1 = file_is ∙ ap file_record_of body_is in
      let id : file.id ≡ item_id r.1 = ap (λ (f : FileRecord). f.id) read ∙ ap (λ (b : Bool). cond b (dir_record_of r.1).id (file_record_of r.1).id) (sym dir) in
      let thread : has ≡ has_thread (catalog_in (block_at image)) (file_record_of r.1).id = has_is ∙ ap (λ (f : FileRecord). has_thread (catalog_in (block_at image)) f.id) read in
      let whole : item_of base there_mdb row ≡ shown_of r =
      shows ∙ (λ i. file_of (thread i) (contents_in (block_at image) (read i)) (key_is i) (read i))
      ∙ ap (λ (b : Bool). cond b (folder_of r.0 (dir_record_of r.1)) (file_of (has_thread (catalog_in (block_at image)) (file_record_of r.1).id) (contents_in (block_at image) (file_record_of r.1)) r.0 (file_record_of r.1))) (sym dir) in
      entered base there_mdb items (contents_in (block_at image)) (catalog_in (block_at image)) done r (ap (λ (b : Bool). b || is_file r.1) dir ∙ one) row old new whole
      (kind (item_id r.1)) (subst (λ (k : ℕ). Enters k row old new) id enters) are

-- ---- the last record

module _ (xs all done catalog : Catalog) (r : Record) (last : all ≡ xs ++ r ∷ []) (whole : all ++ done ≡ catalog) where
  pub split : xs ++ r ∷ done ≡ catalog
  split = sym (append_assoc xs (r ∷ []) done) ∙ ap (λ (l : Catalog). l ++ done) (sym last) ∙ whole

  pub last_right : (P : Record → Type 0) → Each P catalog → P r
  last_right P h = (each-right P xs (r ∷ done) (subst (Each P) (sym split) h)).0
