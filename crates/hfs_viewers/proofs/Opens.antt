-- The file of a record is opened by its folder and name.
use Rattle.std.proofs.Common.{◌≡◌, ⊎_elim, ℕ, Bool, true, false, cond, not, IsTrue, ◌&&◌, ◌||◌, List, refl, sym, ◌∙◌, ap, subst, arith, Option, Some, None}
use Rattle.std.specs.Option.{option_map, option_map_or}
use Rattle.std.specs.FinMap as finite
use Rattle.std.proofs.lemmas.Bool.{eqb-true, eq-eqb}
use Rattle.hfs_fields.specs.Names.{is_item_name}
use Rattle.hfs_fields.specs.Order.{same_name}
use Rattle.hfs_fields.specs.Records.{is_dir, is_file, is_item, item_id, dir_record_of, file_record_of}
use Rattle.hfs_fields.specs.Members.{In}
use Rattle.hfs_fields.proofs.MemberLemmas.{each_in}
use Rattle.hfs_model.specs.declared.call.Fork.{Fork}
use Rattle.hfs_model.specs.declared.call.Fork.TheVariants.{DataFork, ResFork}
use Rattle.hfs_model.specs.declared.codes.TheConstants.{BAD_NAME, NOT_FOUND, NOT_A_FOLDER}
use Rattle.hfs_model.specs.declared.item.Item.{Item}
use Rattle.hfs_model.specs.Children.{is_folder, is_folder_kind, is_child_named, child_named}
use Rattle.hfs_model.specs.Lawful.{AreLawful, Has, IsFolder}
use Rattle.hfs_model.specs.Replies.{refusal}
use Rattle.hfs_model.specs.Volume.{Items, Entry}
use Rattle.hfs_model.proofs.Facts.{found_has, no_entry, same_some, true_false, two_tests}
use Rattle.hfs_catalog.specs.Records.{Record, Catalog, has_thread}
use Rattle.hfs_catalog.specs.Items.{Contents, entry_of, file_of, folder_of, item_of, items_in}
use Rattle.hfs_catalog.specs.Sound.{HasRightId, IsGiven, IsRoot, IsSoundCatalog}
use Rattle.hfs_catalog.proofs.DistinctLemmas.{later_from_distinct}
use Rattle.hfs_catalog.proofs.Held.{has_item, has_record, item_name, item_parent}
use Rattle.hfs_catalog.proofs.CatalogLawTypes.{EntriesAreRecords}
use Rattle.hfs_catalog.proofs.NameOrder.{found_by_id}
use Rattle.hfs_items.specs.Told.{pick}
use Rattle.hfs_viewers.specs.Places.{place}
use Rattle.hfs_viewers.proofs.PlaceLemmas.{level, names_level}
use Rattle.hfs_volume.specs.declared.open_fork.Opened.{Opened}
use Rattle.hfs_volume.specs.declared.open_fork.Opened.TheVariants as opened
use Rattle.hfs_volume.specs.Opening.{opened_fork, opened_kind}

module _ (contents : Contents) (next : ℕ) (catalog : Catalog) (sound : IsSoundCatalog next catalog) (lawful : AreLawful (items_in contents catalog) next) (entries_law : EntriesAreRecords)
    (r : Record) (there : In r catalog) (other : is_dir r.1 ≡ false) (file : is_file r.1 ≡ true) where
  abbrev items : Items
  items = items_in contents catalog

  abbrev item : Item
  item = item_of contents catalog r

  is_one : is_item r.1 ≡ true
  is_one = ap (λ (b : Bool). b || is_file r.1) other ∙ file

  has : Has items (item_id r.1) item
  has = has_item contents catalog (item_id r.1) r (found_by_id catalog r (later_from_distinct catalog sound.ids.distinct) there is_one)

  name_right : is_item_name r.0.name ≡ true
  name_right = each_in (λ (x : Record). IsTrue (is_item x.1) → IsTrue (is_item_name x.0.name)) catalog r sound.names.items there is_one

  -- ---- the folder

  not_root : item_id r.1 ≡ 2 → ⊥
  not_root two = ⊎_elim
      (λ (root : IsRoot r). true_false (is_dir r.1) root.folder other)
      (λ (given : IsGiven next r). let least = given.least in omega (arith, two, least))
      (each_in (λ (x : Record). IsTrue (is_item x.1) → HasRightId next x) catalog r sound.ids.each there is_one)

  folder_there : (dir : ℕ) → IsFolder items dir → is_folder (finite.entries items) dir ≡ true
  folder_there dir f =
      let held = has_record contents catalog dir f.item f.has in
      ap (λ (o : Option Entry). option_map_or (λ (e : Entry). is_folder_kind e.1.kind) o false) (entries_law contents catalog dir ∙ ap (option_map (entry_of contents catalog)) held.found)
      ∙ ap (λ (i : Item). is_folder_kind i.kind) held.is ∙ f.folder

  folder_right : is_folder (finite.entries items) r.0.parent ≡ true
  folder_right = ⊎_elim
      (λ (two : item_id r.1 ≡ 2). absurd (not_root two))
      (λ (f : IsFolder items item.parent). subst (λ (d : ℕ). is_folder (finite.entries items) d ≡ true) (item_parent contents catalog r) (folder_there item.parent f))
      (lawful.parents (item_id r.1) item has)

  -- ---- the child of that name

  passes : is_child_named r.0.parent r.0.name (item_id r.1, item) ≡ true
  passes =
      let same : IsTrue (same_name r.0.name r.0.name) = names_level (place r.0.parent r.0.name) (place r.0.parent r.0.name) (level (place r.0.parent r.0.name)) in
      (λ i. eq-eqb item.parent r.0.parent (item_parent contents catalog r) i && same_name (item_name contents catalog r i) r.0.name) ∙ same

  named : (o : Option Entry) → child_named (finite.entries items) r.0.parent r.0.name ≡ o → (e : Entry) × (child_named (finite.entries items) r.0.parent r.0.name ≡ Some e) × (e.1 ≡ item)
  named None none = absurd (no_entry (is_child_named r.0.parent r.0.name) (finite.entries items) (item_id r.1) item none (sym (finite.get-entries items (item_id r.1)) ∙ has) passes)
  named (Some e) found =
      let both = found_has items (is_child_named r.0.parent r.0.name) e found in
      let tests = two_tests _ _ both.1 in
      let id : e.0 ≡ item_id r.1 = lawful.names e.0 (item_id r.1) e.1 item both.0 has (eqb-true e.1.parent r.0.parent tests.0 ∙ sym (item_parent contents catalog r))
      (subst (λ (n : List ℕ). IsTrue (same_name e.1.name n)) (sym (item_name contents catalog r)) tests.1) in
      (e, found, same_some e.1 item (sym (subst (λ (k : ℕ). Has items k e.1) id both.0) ∙ has))

  -- ---- its forks

  kind_is : (fork : Fork) → opened_kind fork item.kind ≡ opened.Fork (pick fork (contents (file_record_of r.1)))
  unfolding item_of file_of
  kind_is fork =
      ap (λ (b : Bool). opened_kind fork (cond b (folder_of r.0 (dir_record_of r.1)) (file_of (has_thread catalog (file_record_of r.1).id) (contents (file_record_of r.1)) r.0 (file_record_of r.1))).kind) other
      ∙ elim fork as (λ (k : Fork). opened_kind k (file_of (has_thread catalog (file_record_of r.1).id) (contents (file_record_of r.1)) r.0 (file_record_of r.1)).kind ≡ opened.Fork (pick k (contents (file_record_of r.1)))) [ DataFork ↦ refl | ResFork ↦ refl ]

  abbrev by_child : Fork → Option Entry → Opened
  by_child fork o = option_map_or (λ (e : Entry). opened_kind fork e.1.kind) o (opened.Refused (refusal NOT_FOUND))

  abbrev by_folder : Fork → Bool → Opened
  by_folder fork b = cond (not b) (opened.Refused (refusal NOT_A_FOLDER)) (by_child fork (child_named (finite.entries items) r.0.parent r.0.name))

  -- the file is opened by its folder and name
  pub opens : (fork : Fork) → opened_fork (finite.entries items) r.0.parent r.0.name fork ≡ opened.Fork (pick fork (contents (file_record_of r.1)))
  unfolding opened_fork
  opens fork =
      let n = named (child_named (finite.entries items) r.0.parent r.0.name) refl in
      ap (λ (b : Bool). cond (not b) (opened.Refused (refusal BAD_NAME)) (by_folder fork (is_folder (finite.entries items) r.0.parent))) name_right
      ∙ ap (by_folder fork) folder_right
      ∙ ap (by_child fork) n.1
      ∙ ap (λ (i : Item). opened_kind fork i.kind) n.2
      ∙ kind_is fork
