-- What calls choose by the catalog's records is what they choose in the volume.
use Rattle.std.proofs.Common.{◌≡◌, ⊎_elim, ℕ, ℤ, Bool, true, false, cond, eqb, List, refl, sym, ◌∙◌, ap, subst, Option, Some, None, Ok, Err, Result}
use Rattle.std.specs.Prelude.{not, ◌&&◌, ◌||◌, IsTrue}
use Rattle.std.specs.Option.{option_map, ok_or}
use Rattle.std.proofs.lemmas.Bool.{or_cases, and_parts, true≢false}
use Rattle.hfs_fields.specs.declared.key.CatKey.{CatKey}
use Rattle.hfs_fields.specs.declared.mdb.Mdb.{Mdb}
use Rattle.hfs_fields.specs.declared.file_record.FileRecord.{FileRecord}
use Rattle.hfs_fields.specs.Keys.{cat_cmp}
use Rattle.hfs_fields.specs.Names.{is_item_name}
use Rattle.hfs_fields.specs.Order.{same_name}
use Rattle.hfs_fields.specs.Records.{is_dir, is_file, is_item, item_id, is_bit_set, dir_record_of, file_record_of}
use Rattle.hfs_btree.specs.Pairs.{lookup}
use Rattle.hfs_fields.specs.Members.{In}
use Rattle.hfs_fields.proofs.MemberLemmas.{each_in, found_in}
use Rattle.hfs_model.specs.declared.codes.TheConstants.{BAD_NAME, NOT_FOUND, HARDWARE_LOCKED, FILE_LOCKED, SOFTWARE_LOCKED, NOT_A_FOLDER}
use Rattle.hfs_model.specs.Volume.{Volume, Entry}
use Rattle.hfs_model.specs.Children.{is_folder_kind, entries_of}
use Rattle.hfs_model.specs.Children as children
use Rattle.hfs_model.specs.Choices.{and_then, child_to_change, file_to_change, to_set_f_info, to_set_cat_info}
use Rattle.hfs_model.specs.Choices as model
use Rattle.hfs_model.specs.Replies.{is_locked_file}
use Rattle.hfs_catalog.specs.declared.item.ItemRecord.TheVariants.{Folder, File}
use Rattle.hfs_catalog.specs.declared.item.CatalogItem.{CatalogItem}
use Rattle.hfs_catalog.specs.Records.{Record, Catalog, is_child_of, has_thread}
use Rattle.hfs_catalog.specs.Items.{Contents, folder_of, file_of, item_of, entry_of}
use Rattle.hfs_catalog.specs.Lookups.{catalog_item, is_child_named, child_named}
use Rattle.hfs_check.specs.Parts.{Blocks, mdb_in, catalog_in}
use Rattle.hfs_check.specs.Sound.{AreBlocksSound}
use Rattle.hfs_check.specs.VolumeOf.{contents_in, volume_in}
use Rattle.hfs_record_edits.proofs.OnceLemmas.{distinct_once, item_found}
use Rattle.hfs_record_edits.specs.SettingLaws.{IsChoice}
use Rattle.hfs_record_edits.proofs.SettingLaws.{ChoiceStands}
use Rattle.hfs_call_patches.specs.Settings.{IsBody}
use Rattle.hfs_call_edits.specs.Choosing.{map_ok, lock_code, unless_code, only_file, is_locked, unless_locked, file_to_set, item_to_set, file_part}
use Rattle.hfs_call_edits.specs.Choosing as records
use Rattle.hfs_call_edits.specs.Edits.{IsChosenFile, IsChosenFolder, IsChosenBody, ChoosesFile, ChoosesItem}
use Rattle.hfs_items.specs.Queries.{AreEntries}
use Rattle.hfs_items.specs.Told.{is_folder}
use Rattle.hfs_record_edits.proofs.Chosen.{same_ok}
use Rattle.hfs_model.proofs.KeepsCalls.{err_is_ok as err_ok}
use Rattle.hfs_items.proofs.ReplyLemmas.{folder_kind, folder_same}

-- ---- the choices of a volume with these locks, whose entries the records answer for

module _ (contents : Contents) (catalog : Catalog) (v : Volume) (h : AreEntries contents catalog (entries_of v)) (mdb : Mdb)
    (hard : v.hardware_locked ≡ is_bit_set 7 mdb.attributes.0) (soft : v.software_locked ≡ is_bit_set 15 mdb.attributes.0) (dir : ℕ) (name : List ℕ) where
  abbrev entry : Record → Entry
  entry r = entry_of contents catalog r

  pub by_lock : (a b : Bool) (x : Result Entry ℤ) (y : Result Record ℤ) → x ≡ map_ok entry y
      → cond (a || b) (Err (cond a HARDWARE_LOCKED SOFTWARE_LOCKED)) x ≡ map_ok entry (unless_code (cond a (Some HARDWARE_LOCKED) (cond b (Some SOFTWARE_LOCKED) None)) y)
  by_lock true b x y e = refl
  by_lock false true x y e = refl
  by_lock false false x y e = e

  pub by_test : (b : Bool) (code : ℤ) (x : Result Entry ℤ) (y : Result Record ℤ) → x ≡ map_ok entry y → cond b (Err code) x ≡ map_ok entry (cond b (Err code) y)
  by_test true code x y e = refl
  by_test false code x y e = e

  there_same : ok_or (children.child_named (entries_of v) dir name) NOT_FOUND ≡ map_ok entry (ok_or (child_named catalog dir name) NOT_FOUND)
  there_same = ap (λ (o : Option Entry). ok_or o NOT_FOUND) (h.named dir name) ∙ elim (child_named catalog dir name) as (λ (o : Option Record). ok_or (option_map entry o) NOT_FOUND ≡ map_ok entry (ok_or o NOT_FOUND)) [ None ↦ refl | Some r ↦ refl ]

  pub child_same : child_to_change v dir name ≡ map_ok entry (records.child_to_change mdb catalog dir name)
  unfolding child_to_change
  child_same =
      (λ i. cond (hard i || soft i) (Err (cond (hard i) HARDWARE_LOCKED SOFTWARE_LOCKED))
      (cond (not (is_item_name name)) (Err BAD_NAME) (cond (not (folder_same contents catalog (entries_of v) h dir i)) (Err NOT_A_FOLDER) (ok_or (children.child_named (entries_of v) dir name) NOT_FOUND))))
      ∙ by_lock (is_bit_set 7 mdb.attributes.0) (is_bit_set 15 mdb.attributes.0) _ _
      (by_test (not (is_item_name name)) BAD_NAME _ _ (by_test (not (is_folder catalog dir)) NOT_A_FOLDER _ _ there_same))

  -- ---- what is chosen next

  pub next_same : (chosen : Result Record ℤ) (f : Entry → Result Entry ℤ) (g : Record → Result Record ℤ) → ((r : Record) → f (entry r) ≡ map_ok entry (g r))
      → and_then (map_ok entry chosen) f ≡ map_ok entry (and_then chosen g)
  next_same (Ok r) f g same = same r
  next_same (Err code) f g same = refl

  only_same : (r : Record) → cond (is_folder_kind (entry r).1.kind) (Err NOT_FOUND) (Ok (entry r)) ≡ map_ok entry (only_file r)
  only_same r = ap (λ (b : Bool). cond b (Err NOT_FOUND) (Ok (entry r))) (folder_kind contents catalog (entries_of v) h r) ∙ by_test (is_dir r.1) NOT_FOUND (Ok (entry r)) (Ok r) refl

  lock_is : (r : Record) → is_locked_file (entry r).1.kind ≡ is_locked r
  unfolding item_of folder_of file_of
  lock_is r = elim (is_dir r.1) as (λ (b : Bool). is_locked_file (cond b (folder_of r.0 (dir_record_of r.1)) (file_of (has_thread catalog (file_record_of r.1).id) (contents (file_record_of r.1)) r.0 (file_record_of r.1))).kind
      ≡ (not b && is_bit_set 0 (file_record_of r.1).flags.0)) [ true ↦ refl | false ↦ refl ]

  unlocked_same : (r : Record) → model.unless_locked_file (entry r) ≡ map_ok entry (unless_locked r)
  unlocked_same r = ap (λ (b : Bool). cond b (Err FILE_LOCKED) (Ok (entry r))) (lock_is r) ∙ by_test (is_locked r) FILE_LOCKED (Ok (entry r)) (Ok r) refl

  pub file_same : file_to_change v dir name ≡ map_ok entry (records.file_to_change mdb catalog dir name)
  unfolding file_to_change
  file_same =
      ap (λ (c : Result Entry ℤ). and_then c (λ e. cond (is_folder_kind e.1.kind) (Err NOT_FOUND) (Ok e))) child_same
      ∙ next_same (records.child_to_change mdb catalog dir name) (λ e. cond (is_folder_kind e.1.kind) (Err NOT_FOUND) (Ok e)) only_file only_same

  pub set_same : to_set_f_info v dir name ≡ map_ok entry (file_to_set mdb catalog dir name)
  unfolding to_set_f_info
  set_same = ap (λ (c : Result Entry ℤ). and_then c model.unless_locked_file) file_same ∙ next_same (records.file_to_change mdb catalog dir name) model.unless_locked_file unless_locked unlocked_same

  pub item_same : to_set_cat_info v dir name ≡ map_ok entry (item_to_set mdb catalog dir name)
  unfolding to_set_cat_info
  item_same = ap (λ (c : Result Entry ℤ). and_then c model.unless_locked_file) child_same ∙ next_same (records.child_to_change mdb catalog dir name) model.unless_locked_file unless_locked unlocked_same

-- ---- what was chosen is the child of the name

module _ (mdb : Mdb) (catalog : Catalog) (dir : ℕ) (name : List ℕ) (r : Record) where
  open_test : (b : Bool) (code : ℤ) (x : Result Record ℤ) → cond b (Err code) x ≡ Ok r → x ≡ Ok r
  open_test true code x e = absurd (err_ok code r e)
  open_test false code x e = e

  open_lock : (o : Option ℤ) (x : Result Record ℤ) → unless_code o x ≡ Ok r → x ≡ Ok r
  open_lock None x e = e
  open_lock (Some code) x e = absurd (err_ok code r e)

  open_there : (o : Option Record) → ok_or o NOT_FOUND ≡ Ok r → o ≡ Some r
  open_there None e = absurd (err_ok NOT_FOUND r e)
  open_there (Some q) e = ap Some (same_ok q r e)

  pub child_is : records.child_to_change mdb catalog dir name ≡ Ok r → child_named catalog dir name ≡ Some r
  child_is e =
      open_there (child_named catalog dir name)
      (open_test (not (is_folder catalog dir)) NOT_A_FOLDER _ (open_test (not (is_item_name name)) BAD_NAME _ (open_lock (lock_code mdb) _ e)))

  next_is : (chosen : Result Record ℤ) (g : Record → Result Record ℤ) → ((q : Record) → g q ≡ Ok r → q ≡ r) → and_then chosen g ≡ Ok r → chosen ≡ Ok r
  next_is (Ok q) g same e = ap Ok (same q e)
  next_is (Err code) g same e = absurd (err_ok code r e)

  pub only_is : (q : Record) → only_file q ≡ Ok r → q ≡ r
  only_is q e = same_ok q r (open_test (is_dir q.1) NOT_FOUND (Ok q) e)

  unlocked_is : (q : Record) → unless_locked q ≡ Ok r → q ≡ r
  unlocked_is q e = same_ok q r (open_test (is_locked q) FILE_LOCKED (Ok q) e)

  file_of_kind : (b : Bool) → cond b (Err NOT_FOUND) (Ok r) ≡ Ok r → b ≡ false
  file_of_kind true e = absurd (err_ok NOT_FOUND r e)
  file_of_kind false e = refl

  next_file : (chosen : Result Record ℤ) → and_then chosen only_file ≡ Ok r → is_dir r.1 ≡ false
  next_file (Ok q) e = file_of_kind (is_dir r.1) (subst (λ (p : Record). only_file p ≡ Ok r) (only_is q e) e)
  next_file (Err code) e = absurd (err_ok code r e)

  pub file_is : records.file_to_change mdb catalog dir name ≡ Ok r → (child_named catalog dir name ≡ Some r) × (is_dir r.1 ≡ false)
  file_is e = (child_is (next_is (records.child_to_change mdb catalog dir name) only_file only_is e), next_file (records.child_to_change mdb catalog dir name) e)

  pub set_is : file_to_set mdb catalog dir name ≡ Ok r → (child_named catalog dir name ≡ Some r) × (is_dir r.1 ≡ false)
  set_is e = file_is (next_is (records.file_to_change mdb catalog dir name) unless_locked unlocked_is e)

  pub item_is : item_to_set mdb catalog dir name ≡ Ok r → child_named catalog dir name ≡ Some r
  item_is e = child_is (next_is (records.child_to_change mdb catalog dir name) unless_locked unlocked_is e)

-- ---- on the blocks of a sound volume

module _ (stands : ChoiceStands) (total : ℕ) (old : Blocks) (sound : AreBlocksSound total old) (chosen : Result Entry ℤ) (dir : ℕ) (name : List ℕ) (r : Record)
    (is : chosen ≡ Ok (entry_of (contents_in old) (catalog_in old) r)) (found : child_named (catalog_in old) dir name ≡ Some r) where
  pub here : In r (catalog_in old) × (is_child_named dir name r ≡ true)
  here = found_in (is_child_named dir name) (catalog_in old) r found

  item : is_item r.1 ≡ true
  item = (and_parts (is_item r.1) (eqb r.0.parent dir) (and_parts (is_child_of dir r) (same_name r.0.name name) here.1).0).0

  choice : IsChoice old chosen r
  choice = record { id = item_id r.1; is = is; was = item_found (catalog_in old) r (distinct_once (catalog_in old) sound.ids.distinct) here.0 item }

  name_of : IsTrue (is_item_name r.0.name)
  name_of = each_in _ (catalog_in old) r sound.names.records.items here.0 item

  stands_there : lookup cat_cmp r.0 (catalog_in old) ≡ Some r.1
  stands_there = stands total chosen r old sound choice

  body_there : (test : List ℕ → Bool) → test r.1 ≡ true → IsBody test (lookup cat_cmp r.0 (catalog_in old))
  body_there test e = subst (IsBody test) (sym stands_there) e

  pub chosen_file : is_dir r.1 ≡ false → IsChosenFile old chosen r.0 (file_record_of r.1)
  chosen_file not_dir =
      let file : is_file r.1 ≡ true = ⊎_elim (λ (d : is_dir r.1 ≡ true). absurd (true≢false (sym d ∙ not_dir))) (λ f. f) (or_cases (is_dir r.1) (is_file r.1) item) in
      record {
        choice = record { of = r; choice = choice; own_key = refl; own_file = refl; is = file };
        name = name_of;
        there = body_there is_file file;
      }

  pub chosen_folder : is_dir r.1 ≡ true → IsChosenFolder old chosen r.0 (dir_record_of r.1)
  chosen_folder dir_is = record {
    choice = record { of = r; choice = choice; own_key = refl; own_folder = refl; is = dir_is };
    name = name_of;
    there = body_there is_dir dir_is;
  }

  pub chosen_body : IsChosenBody old chosen (catalog_item r).key (catalog_item r).body
  unfolding catalog_item
  chosen_body = elim (is_dir r.1) as (λ (b : Bool). is_dir r.1 ≡ b → IsChosenBody old chosen r.0 (cond b (Folder (dir_record_of r.1)) (File (file_record_of r.1)))) [
    | true ↦ λ e. chosen_folder e
    | false ↦ λ e. chosen_file e
  ] refl

-- ---- what the records choose, and what the program has of it

module _ (stands : ChoiceStands) (total : ℕ) (old : Blocks) (sound : AreBlocksSound total old) (mdb : Mdb) (own : mdb ≡ mdb_in old) (catalog : Catalog) (content : catalog ≡ catalog_in old)
    (h : AreEntries (contents_in old) (catalog_in old) (entries_of (volume_in old))) (dir : ℕ) (name : List ℕ) where
  hard_is : (volume_in old).hardware_locked ≡ is_bit_set 7 (mdb_in old).attributes.0
  unfolding volume_in
  hard_is = refl

  soft_is : (volume_in old).software_locked ≡ is_bit_set 15 (mdb_in old).attributes.0
  unfolding volume_in
  soft_is = refl

  by_file : (chosen : Result Entry ℤ) (r : Result Record ℤ) → chosen ≡ map_ok (entry_of (contents_in old) (catalog_in old)) r → ((q : Record) → r ≡ Ok q → (child_named (catalog_in old) dir name ≡ Some q) × (is_dir q.1 ≡ false))
      → (result : Result (CatKey × FileRecord) ℤ) → result ≡ map_ok file_part r → ChoosesFile old chosen result
  by_file chosen (Ok q) same is result e =
      let both = is q refl in
      subst (ChoosesFile old chosen) (sym e) (chosen_file stands total old sound chosen dir name q same both.0 both.1)
  by_file chosen (Err code) same is result e = subst (ChoosesFile old chosen) (sym e) same

  by_item : (chosen : Result Entry ℤ) (r : Result Record ℤ) → chosen ≡ map_ok (entry_of (contents_in old) (catalog_in old)) r → ((q : Record) → r ≡ Ok q → child_named (catalog_in old) dir name ≡ Some q)
      → (result : Result CatalogItem ℤ) → result ≡ map_ok catalog_item r → ChoosesItem old chosen result
  by_item chosen (Ok q) same is result e = subst (ChoosesItem old chosen) (sym e) (chosen_body stands total old sound chosen dir name q same (is q refl))
  by_item chosen (Err code) same is result e = subst (ChoosesItem old chosen) (sym e) same

  pub changes_file : (result : Result (CatKey × FileRecord) ℤ) → result ≡ map_ok file_part (records.file_to_change mdb catalog dir name) → ChoosesFile old (file_to_change (volume_in old) dir name) result
  changes_file result e =
      by_file _ (records.file_to_change (mdb_in old) (catalog_in old) dir name) (file_same (contents_in old) (catalog_in old) (volume_in old) h (mdb_in old) hard_is soft_is dir name)
      (file_is (mdb_in old) (catalog_in old) dir name) result (e ∙ (λ i. map_ok file_part (records.file_to_change (own i) (content i) dir name)))

  pub sets_file : (result : Result (CatKey × FileRecord) ℤ) → result ≡ map_ok file_part (file_to_set mdb catalog dir name) → ChoosesFile old (to_set_f_info (volume_in old) dir name) result
  sets_file result e =
      by_file _ (file_to_set (mdb_in old) (catalog_in old) dir name) (set_same (contents_in old) (catalog_in old) (volume_in old) h (mdb_in old) hard_is soft_is dir name)
      (set_is (mdb_in old) (catalog_in old) dir name) result (e ∙ (λ i. map_ok file_part (file_to_set (own i) (content i) dir name)))

  pub sets_item : (result : Result CatalogItem ℤ) → result ≡ map_ok catalog_item (item_to_set mdb catalog dir name) → ChoosesItem old (to_set_cat_info (volume_in old) dir name) result
  sets_item result e =
      by_item _ (item_to_set (mdb_in old) (catalog_in old) dir name) (item_same (contents_in old) (catalog_in old) (volume_in old) h (mdb_in old) hard_is soft_is dir name)
      (item_is (mdb_in old) (catalog_in old) dir name) result (e ∙ (λ i. map_ok catalog_item (item_to_set (own i) (content i) dir name)))
