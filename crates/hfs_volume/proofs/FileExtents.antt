-- The extents of a file's fork, by the ID of the file.
use Rattle.std.proofs.Common.{◌≡◌, ⊎_elim, ℕ, ◌<◌, Bool, true, false, cond, List, [], length, take, refl, sym, ◌∙◌, ap, subst, arith, length-take, Option, Some, None, Result, Ok, Err}
use Rattle.std.specs.Prelude.{IfOk}
use Rattle.std.specs.Option.{option_map}
use Rattle.std.proofs.lemmas.Bool.{and_parts, or_cases, cases_lt, true≢false}
use Rattle.std.proofs.lemmas.List.{take_all}
use Rattle.hfs_fields.specs.declared.extent.Extent.{Extent}
use Rattle.hfs_fields.specs.declared.file_record.FileRecord.{FileRecord}
use Rattle.hfs_fields.specs.Records.{is_dir, is_file, is_item, dir_record_of, file_record_of}
use Rattle.hfs_blocks.specs.Blocks.{block_at}
use Rattle.hfs_fields.specs.Each.{Each}
use Rattle.hfs_fields.specs.Members.{In}
use Rattle.hfs_fields.proofs.MemberLemmas.{each_in, found_in}
use Rattle.hfs_model.specs.declared.call.Fork.{Fork}
use Rattle.hfs_model.specs.declared.call.Fork.TheVariants.{DataFork, ResFork}
use Rattle.hfs_model.specs.declared.item.File.{File}
use Rattle.hfs_model.specs.declared.item.Item.{Item}
use Rattle.hfs_model.specs.declared.item.Kind.{Kind}
use Rattle.hfs_model.specs.declared.item.Kind.TheVariants as kind
use Rattle.hfs_model.specs.Lawful.{Has}
use Rattle.hfs_model.specs.Reading.{fork_of}
use Rattle.hfs_space.specs.Extents.{AreExtentsWithin}
use Rattle.hfs_space.specs.Forks.{fork_bytes}
use Rattle.hfs_space.specs.Owners.{forks_of, forks_of_file}
use Rattle.hfs_space.specs.Sound.{IsForkSound}
use Rattle.hfs_catalog.specs.declared.item.CatalogItem.{CatalogItem}
use Rattle.hfs_catalog.specs.declared.item.ItemRecord.TheVariants as item_record
use Rattle.hfs_catalog.specs.Records.{Record, Catalog, has_id, has_thread, item_with}
use Rattle.hfs_catalog.specs.Items.{Contents, folder_of, file_of, item_of}
use Rattle.hfs_catalog.proofs.CatalogLawTypes.{ItemsAreRecords}
use Rattle.hfs_catalog.specs.Lookups.{catalog_item}
use Rattle.hfs_check.specs.Agree.{AgreesBut}
use Rattle.hfs_check.specs.Parts.{mdb_in, overflow_in, catalog_in}
use Rattle.hfs_check.specs.VolumeOf.{bytes_in, contents_in, volume_in, volume_of}
use Rattle.hfs_volume.specs.Layout.{SameLayout}
use Rattle.hfs_volume.proofs.LayoutLemmas.{same_layout, same_bytes}
use Rattle.hfs_volume.specs.Mounted.{AreForksIn, fork_record}
use Rattle.hfs_volume.specs.Sharing.{file_extents, AreUnwritten, HasFile, AreExtentsOf, HaveFork, bytes_of_extents}
use Rattle.hfs_volume.proofs.SharingLaws.{ForksStay, FileForksStay}
use Rattle.hfs_items.specs.Told.{pick}

-- ---- the record of a file

folder_file : (kept : List ℕ) (file : File) → kind.Folder kept ≡ kind.File file → ⊥
folder_file kept file e = cc

same_file : (f g : File) → kind.File f ≡ kind.File g → f ≡ g
same_file f g e = cc

none_some : (i : Item) → ◌≡◌ {A = Option Item} None (Some i) → ⊥
none_some i e = cc

same_item : (i j : Item) → ◌≡◌ {A = Option Item} (Some i) (Some j) → i ≡ j
same_item i j e = cc

same_record : (r s : Record) → ◌≡◌ {A = Option Record} (Some r) (Some s) → r ≡ s
same_record r s e = cc

module _ (contents : Contents) (catalog : Catalog) (r : Record) (file : File) (is : (item_of contents catalog r).kind ≡ kind.File file) where
  abbrev kind_by : Bool → Kind
  kind_by b = (cond b (folder_of r.0 (dir_record_of r.1)) (file_of (has_thread catalog (file_record_of r.1).id) (contents (file_record_of r.1)) r.0 (file_record_of r.1))).kind

  not_folder : is_dir r.1 ≡ false
  unfolding item_of folder_of
  not_folder = elim (is_dir r.1) as (λ (b : Bool). kind_by b ≡ kind.File file → b ≡ false) [
    | true ↦ λ e. absurd (folder_file _ file e)
    | false ↦ λ e. refl
  ] is

  its_fork : (fork : Fork) → fork_of fork file ≡ pick fork (contents (file_record_of r.1))
  unfolding item_of folder_of file_of
  its_fork fork = elim (is_dir r.1) as (λ (b : Bool). kind_by b ≡ kind.File file → fork_of fork file ≡ pick fork (contents (file_record_of r.1))) [
    | true ↦ λ e. absurd (folder_file _ file e)
    | false ↦ λ e. elim fork as (λ (k : Fork). fork_of k file ≡ pick k (contents (file_record_of r.1))) [
      | DataFork ↦ ap (λ (f : File). f.«data») (sym (same_file _ file e))
      | ResFork ↦ ap (λ (f : File). f.resource) (sym (same_file _ file e))
    ]
  ] is

-- this item is that of a record with the ID
pub record IsRecordOf (catalog : Catalog) (contents : Contents) (id : ℕ) (item : Item) : Type 0 where
  pub of : Record
  pub found : item_with catalog id ≡ Some of
  pub is : item_of contents catalog of ≡ item

module _ (image : List ℕ) (records_law : ItemsAreRecords) (id : ℕ) where
  abbrev catalog : Catalog
  catalog = catalog_in (block_at image)

  abbrev contents : Contents
  contents = contents_in (block_at image)

  recorded : (item : Item) → Has (volume_of image).items id item → IsRecordOf catalog contents id item
  unfolding volume_of volume_in
  recorded item has = elim (item_with catalog id) as (λ (o : Option Record). item_with catalog id ≡ o → option_map (item_of contents catalog) o ≡ Some item → IsRecordOf catalog contents id item) [
    | None ↦ λ none e. absurd (none_some item e)
    | Some r ↦ λ found e. record { of = r; found = found; is = same_item _ item e }
  ] refl (sym (records_law contents catalog id) ∙ has)

  -- the item that is found is the file's
  module _ (file : File) (has : HasFile (volume_of image) id file) (found : Option CatalogItem) (found_is : found ≡ option_map catalog_item (item_with catalog id)) where
    pub its : IsRecordOf catalog contents id has.0
    its = recorded has.0 has.1

    its_kind : (item_of contents catalog its.of).kind ≡ kind.File file
    its_kind = ap (λ (i : Item). i.kind) its.is ∙ has.2

    item_found : found ≡ Some (catalog_item its.of)
    item_found = found_is ∙ ap (option_map catalog_item) its.found

    pub is_there : found ≡ None → ⊥
    is_there none = cc_none (sym none ∙ item_found)
      where
        cc_none : ◌≡◌ {A = Option CatalogItem} None (Some (catalog_item its.of)) → ⊥
        cc_none e = cc

    pub its_body : (item : CatalogItem) → found ≡ Some item → item.body ≡ item_record.File (file_record_of its.of.1)
    unfolding catalog_item
    its_body item is =
        ap (λ (i : CatalogItem). i.body) (same _ _ (sym is ∙ item_found))
        ∙ ap (λ (b : Bool). cond b (item_record.Folder (dir_record_of its.of.1)) (item_record.File (file_record_of its.of.1))) (not_folder contents catalog its.of file its_kind)
      where
        same : (a b : CatalogItem) → ◌≡◌ {A = Option CatalogItem} (Some a) (Some b) → a ≡ b
        same a b e = cc

    pub no_folder : (item : CatalogItem) (d : _) → found ≡ Some item → item.body ≡ item_record.Folder d → ⊥
    no_folder item d is folder = clash _ (sym folder ∙ its_body item is)
      where
        clash : (f : FileRecord) → item_record.Folder d ≡ item_record.File f → ⊥
        clash f e = cc

    pub its_record : (item : CatalogItem) (f : FileRecord) → found ≡ Some item → item.body ≡ item_record.File f → f ≡ file_record_of its.of.1
    its_record item f is body = same_body f _ (sym body ∙ its_body item is)
      where
        same_body : (a b : FileRecord) → item_record.File a ≡ item_record.File b → a ≡ b
        same_body a b e = cc

    -- ---- its extents

    module _ (written base : List ℕ) (agrees : AgreesBut written base image) (stays : FileForksStay) (fork : Fork) (es : List Extent) (es_are : es ≡ file_extents (block_at image) fork (file_record_of its.of.1)) where
      abbrev own : FileRecord
      own = file_record_of its.of.1

      pub are_extents : AreExtentsOf (block_at image) id fork es
      are_extents r is = es_are ∙ ap (λ (x : Record). file_extents (block_at image) fork (file_record_of x.1)) (same_record its.of r (sym its.found ∙ is.0))

      there : In its.of catalog × (has_id id its.of ≡ true)
      there = found_in (has_id id) catalog its.of its.found

      is_one : is_file its.of.1 ≡ true
      is_one = ⊎_elim
          (λ (d : is_dir its.of.1 ≡ true). absurd (true≢false (sym d ∙ not_folder contents catalog its.of file its_kind)))
          (λ (f : is_file its.of.1 ≡ true). f)
          (or_cases (is_dir its.of.1) (is_file its.of.1) (and_parts (is_item its.of.1) _ there.1).0)

      layout : SameLayout (mdb_in (block_at base)) (mdb_in (block_at image))
      layout = same_layout (block_at base) (block_at image) agrees.kept.mdb

      forks : AreForksIn (block_at image) own
      forks =
          subst (λ (b : Bool). Each (IsForkSound (mdb_in (block_at image)) (overflow_in (block_at image))) (cond b (forks_of_file own) [])) is_one
          (each_in (λ (x : Record). Each (IsForkSound (mdb_in (block_at image)) (overflow_in (block_at image))) (forks_of x)) catalog its.of agrees.sound.blocks.forks.files there.0)

      sound : (k : Fork) → AreExtentsWithin (mdb_in (block_at image)).allocation_blocks (file_extents (block_at image) k own)
      unfolding forks_of_file file_extents
      sound k = elim k as (λ (x : Fork). AreExtentsWithin (mdb_in (block_at image)).allocation_blocks (file_extents (block_at image) x own)) [ DataFork ↦ forks.0.within | ResFork ↦ forks.1.0.within ]

      pub are_within : AreExtentsWithin (mdb_in (block_at base)).allocation_blocks es
      are_within =
          subst (λ (n : ℕ). AreExtentsWithin n es) layout.allocation_blocks
          (subst (AreExtentsWithin (mdb_in (block_at image)).allocation_blocks) (sym es_are) (sound fork))

      in_image : (k : Fork) → pick k (contents own) ≡ fork_bytes (block_at image) (mdb_in (block_at image)) (file_extents (block_at image) k own) (fork_record k own).1.length
      unfolding contents_in bytes_in file_extents
      in_image k = elim k as (λ (x : Fork). pick x (contents own) ≡ fork_bytes (block_at image) (mdb_in (block_at image)) (file_extents (block_at image) x own) (fork_record x own).1.length) [ DataFork ↦ refl | ResFork ↦ refl ]

      stay : ForksStay written base image own
      stay = each_in (λ (x : Record). is_file x.1 ≡ true → ForksStay written base image (file_record_of x.1)) catalog its.of (stays written base image agrees) there.0 is_one

      -- the same bytes, cut at the logical length
      cut : AreUnwritten written (block_at image) es → (bytes : List ℕ) → bytes ≡ pick fork (contents own) → bytes ≡ take (fork_record fork own).1.length (bytes_of_extents base es)
      unfolding fork_bytes
      cut unwritten bytes is =
          is ∙ in_image fork ∙ sym (stay fork (subst (AreUnwritten written (block_at image)) es_are unwritten))
          ∙ ap (take (fork_record fork own).1.length) (same_bytes (block_at base) (mdb_in (block_at base)) (mdb_in (block_at image)) (file_extents (block_at image) fork own) layout)
          ∙ ap (λ (x : List Extent). take (fork_record fork own).1.length (bytes_of_extents base x)) (sym es_are)

own_length : (n : ℕ) (xs : List ℕ) → take n xs ≡ take (length (take n xs)) xs
own_length n xs = ⊎_elim
    (λ (few : n < length xs). let e : n ≡ length (take n xs) = omega (arith, few, length-take n xs) in ap (λ k. take k xs) e)
    (λ all. take_all n xs (omega arith) ∙ sym (take_all (length (take n xs)) xs (omega (arith, length-take n xs))))
    (cases_lt n (length xs))

module _ (image : List ℕ) (records_law : ItemsAreRecords) (id : ℕ) (first : File) (has_first : HasFile (volume_of image) id first) (found : Option CatalogItem)
    (found_is : found ≡ option_map catalog_item (item_with (catalog_in (block_at image)) id)) (written base : List ℕ) (agrees : AgreesBut written base image) (stays : FileForksStay) (fork : Fork) (es : List Extent)
    (are : AreExtentsOf (block_at image) id fork es) where
  pub have_fork : AreUnwritten written (block_at image) es → HaveFork base (volume_of image) id fork es
  have_fork unwritten file has =
      let r = its image records_law id file has found found_is in
      let one = is_one image records_law id file has found found_is written base agrees stays fork _ refl in
      let whole = cut image records_law id file has found found_is written base agrees stays fork es (are r.of (r.found, one)) unwritten (fork_of fork file)
      (its_fork (contents_in (block_at image)) (catalog_in (block_at image)) r.of file (its_kind image records_law id file has found found_is) fork) in
      whole ∙ own_length _ (bytes_of_extents base es) ∙ ap (λ (x : List ℕ). take (length x) (bytes_of_extents base es)) (sym whole)
