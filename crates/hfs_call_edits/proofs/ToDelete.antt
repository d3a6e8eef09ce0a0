-- What Delete chooses by the catalog's records is what it chooses in the volume.
use Rattle.std.proofs.Common.{◌≡◌, ℕ, ℤ, Bool, true, false, cond, List, refl, sym, ◌∙◌, ap, subst, Option, Some, None, Ok, Err, Result}
use Rattle.std.specs.Prelude.{not, ◌&&◌, nat_lt, IfOk}
use Rattle.std.specs.Option.{ok_or}
use Rattle.hfs_fields.specs.declared.mdb.Mdb.{Mdb}
use Rattle.hfs_fields.specs.Names.{is_item_name}
use Rattle.hfs_fields.specs.Records.{is_dir, is_item, is_bit_set, dir_record_of, file_record_of}
use Rattle.hfs_fields.specs.Members.{In}
use Rattle.hfs_fields.proofs.MemberLemmas.{each_in, found_in}
use Rattle.hfs_model.specs.declared.codes.TheConstants.{BAD_NAME, NOT_FOUND, FILE_LOCKED, NOT_A_FOLDER, BUSY}
use Rattle.hfs_model.specs.declared.reply.Info.{Info}
use Rattle.hfs_model.specs.Volume.{Volume, Entry}
use Rattle.hfs_model.specs.Children.{is_folder_kind, valence, entries_of}
use Rattle.hfs_model.specs.Choices.{and_then, to_delete}
use Rattle.hfs_model.specs.Choices as model
use Rattle.hfs_model.specs.Replies.{info_of, is_locked_file}
use Rattle.hfs_catalog.specs.declared.item.ItemRecord.TheVariants.{Folder, File}
use Rattle.hfs_catalog.specs.declared.item.CatalogItem.{CatalogItem}
use Rattle.hfs_catalog.specs.Records.{Record, Catalog, has_thread}
use Rattle.hfs_catalog.specs.Items.{Contents, folder_of, file_of, item_of, entry_of}
use Rattle.hfs_catalog.specs.Lookups.{catalog_item, is_child_named, child_named}
use Rattle.hfs_check.specs.Parts.{Blocks, mdb_in, catalog_in}
use Rattle.hfs_check.specs.Sound.{AreBlocksSound}
use Rattle.hfs_check.specs.VolumeOf.{contents_in, volume_in}
use Rattle.hfs_record_edits.proofs.SettingLaws.{ChoiceStands}
use Rattle.hfs_items.specs.Queries.{AreEntries}
use Rattle.hfs_items.proofs.ReplyLemmas.{folder_kind, child_item}
use Rattle.hfs_items.specs.Told.{is_folder, body_info, folder_info, file_info}
use Rattle.hfs_call_edits.specs.Choosing.{map_ok, lock_code, unless_code, is_locked, unless_locked, is_locked_body, is_locked_item}
use Rattle.hfs_call_edits.specs.Choosing as records
use Rattle.hfs_call_edits.specs.ChoosingDelete.{is_busy, unless_held, item_to_delete, is_busy_item, is_busy_body}
use Rattle.hfs_call_edits.specs.Edits.{ChoosesItem}
use Rattle.hfs_record_edits.proofs.Chosen.{same_ok}
use Rattle.hfs_model.proofs.KeepsCalls.{err_is_ok as err_ok}
use Rattle.hfs_call_edits.proofs.Chosen.{child_same, child_is, chosen_body}

-- ---- what is chosen of the child

busy_is : (item : CatalogItem) (r : Record) → item ≡ catalog_item r → is_busy_item item ≡ is_busy r
unfolding catalog_item
busy_is item r same = ap is_busy_item same ∙ elim (is_dir r.1) as (λ (b : Bool). is_busy_body (cond b (Folder (dir_record_of r.1)) (File (file_record_of r.1))) ≡ (b && nat_lt 0 (dir_record_of r.1).valence)) [ true ↦ refl | false ↦ refl ]

locked_is : (item : CatalogItem) (r : Record) → item ≡ catalog_item r → is_locked_item item ≡ is_locked r
unfolding catalog_item
locked_is item r same = ap is_locked_item same ∙ elim (is_dir r.1) as (λ (b : Bool). is_locked_body (cond b (Folder (dir_record_of r.1)) (File (file_record_of r.1))) ≡ (not b && is_bit_set 0 (file_record_of r.1).flags.0)) [ true ↦ refl | false ↦ refl ]

pub next_delete : (chosen : Result Record ℤ) (item : CatalogItem) → Ok item ≡ map_ok catalog_item chosen → (busy locked : Bool) → is_busy_item item ≡ busy → is_locked_item item ≡ locked
    → cond busy (Err BUSY) (cond locked (Err FILE_LOCKED) (Ok item)) ≡ map_ok catalog_item (and_then chosen unless_held)
next_delete (Err code) item is busy locked hold lock = absurd (err_ok code item (sym is))
next_delete (Ok r) item is busy locked hold lock =
    let same = same_ok item (catalog_item r) is in
    by busy (sym (busy_is item r same) ∙ hold) locked (sym (locked_is item r same) ∙ lock) same
  where
    by : (b : Bool) → is_busy r ≡ b → (l : Bool) → is_locked r ≡ l → item ≡ catalog_item r → cond b (Err BUSY) (cond l (Err FILE_LOCKED) (Ok item)) ≡ map_ok catalog_item (unless_held r)
    by true e l f same = sym (ap (λ (t : Bool). map_ok catalog_item (cond t (Err BUSY) (unless_locked r))) e)
    by false e true f same = sym (ap (λ (t : Bool). map_ok catalog_item (cond t (Err BUSY) (unless_locked r))) e ∙ ap (λ (t : Bool). map_ok catalog_item (cond t (Err FILE_LOCKED) (Ok r))) f)
    by false e false f same = ap Ok same ∙ sym (ap (λ (t : Bool). map_ok catalog_item (cond t (Err BUSY) (unless_locked r))) e ∙ ap (λ (t : Bool). map_ok catalog_item (cond t (Err FILE_LOCKED) (Ok r))) f)

-- ---- in a volume with these locks, whose entries the records answer for

module _ (contents : Contents) (catalog : Catalog) (v : Volume) (h : AreEntries contents catalog (entries_of v)) (mdb : Mdb)
    (hard : v.hardware_locked ≡ is_bit_set 7 mdb.attributes.0) (soft : v.software_locked ≡ is_bit_set 15 mdb.attributes.0) (dir : ℕ) (name : List ℕ) where
  abbrev entry : Record → Entry
  entry r = entry_of contents catalog r

  by_test : (b : Bool) (code : ℤ) (x : Result Entry ℤ) (y : Result Record ℤ) → x ≡ map_ok entry y → cond b (Err code) x ≡ map_ok entry (cond b (Err code) y)
  by_test true code x y e = refl
  by_test false code x y e = e

  lock_is : (r : Record) → is_locked_file (entry r).1.kind ≡ is_locked r
  unfolding item_of folder_of file_of
  lock_is r = elim (is_dir r.1) as (λ (b : Bool). is_locked_file (cond b (folder_of r.0 (dir_record_of r.1)) (file_of (has_thread catalog (file_record_of r.1).id) (contents (file_record_of r.1)) r.0 (file_record_of r.1))).kind
      ≡ (not b && is_bit_set 0 (file_record_of r.1).flags.0)) [ true ↦ refl | false ↦ refl ]

  unlocked_same : (r : Record) → model.unless_locked_file (entry r) ≡ map_ok entry (unless_locked r)
  unlocked_same r = ap (λ (b : Bool). cond b (Err FILE_LOCKED) (Ok (entry r))) (lock_is r) ∙ by_test (is_locked r) FILE_LOCKED (Ok (entry r)) (Ok r) refl

  counted : (k b : Bool) (n m : ℕ) (own : ℕ) → k ≡ b → cond k n 0 ≡ cond b m own → (k && nat_lt 0 n) ≡ (b && nat_lt 0 m)
  counted true true n m own e f = ap (nat_lt 0) f
  counted true false n m own e f = sym (ap (λ (t : Bool). t && nat_lt 0 n) (sym e))
  counted false true n m own e f = ap (λ (t : Bool). t && nat_lt 0 m) e
  counted false false n m own e f = refl

  told_valence : (r : Record) → In r catalog → is_item r.1 ≡ true → cond (is_folder_kind (entry r).1.kind) (valence (entries_of v) (entry r).0) 0 ≡ cond (is_dir r.1) (dir_record_of r.1).valence 0
  unfolding info_of folder_info file_info catalog_item
  told_valence r there item =
      ap (λ (i : Info). i.valence) (each_in _ catalog r h.told there item)
      ∙ elim (is_dir r.1) as (λ (b : Bool). (body_info catalog r.0 (cond b (Folder (dir_record_of r.1)) (File (file_record_of r.1)))).valence ≡ cond b (dir_record_of r.1).valence 0) [ true ↦ refl | false ↦ refl ]

  busy_same : (r : Record) → In r catalog → is_item r.1 ≡ true → model.is_busy (entries_of v) (entry r) ≡ is_busy r
  unfolding model.is_busy
  busy_same r there item = counted _ (is_dir r.1) (valence (entries_of v) (entry r).0) (dir_record_of r.1).valence 0 (folder_kind contents catalog (entries_of v) h r) (told_valence r there item)

  held_same : (r : Record) → In r catalog → is_item r.1 ≡ true → cond (model.is_busy (entries_of v) (entry r)) (Err BUSY) (model.unless_locked_file (entry r)) ≡ map_ok entry (unless_held r)
  held_same r there item =
      ap (λ (b : Bool). cond b (Err BUSY) (model.unless_locked_file (entry r))) (busy_same r there item)
      ∙ by_test (is_busy r) BUSY (model.unless_locked_file (entry r)) (unless_locked r) (unlocked_same r)

  next_same : (chosen : Result Record ℤ) (f : Entry → Result Entry ℤ) (g : Record → Result Record ℤ) → ((r : Record) → chosen ≡ Ok r → f (entry r) ≡ map_ok entry (g r))
      → and_then (map_ok entry chosen) f ≡ map_ok entry (and_then chosen g)
  next_same (Ok r) f g same = same r refl
  next_same (Err code) f g same = refl

  child_there : (r : Record) → records.child_to_change mdb catalog dir name ≡ Ok r → In r catalog × (is_item r.1 ≡ true)
  child_there r e =
      let found = found_in (is_child_named dir name) catalog r (child_is mdb catalog dir name r e) in
      (found.0, child_item contents catalog (entries_of v) h dir name r found.1)

  pub delete_same : to_delete v dir name ≡ map_ok entry (item_to_delete mdb catalog dir name)
  unfolding to_delete
  delete_same =
      ap (λ (c : Result Entry ℤ). and_then c (λ e. cond (model.is_busy (entries_of v) e) (Err BUSY) (model.unless_locked_file e))) (child_same contents catalog v h mdb hard soft dir name)
      ∙ next_same (records.child_to_change mdb catalog dir name) (λ e. cond (model.is_busy (entries_of v) e) (Err BUSY) (model.unless_locked_file e)) unless_held
      (λ r e. let there = child_there r e in held_same r there.0 there.1)

-- ---- what was chosen is the child of the name, and there is the folder

module _ (mdb : Mdb) (catalog : Catalog) (dir : ℕ) (name : List ℕ) (r : Record) where
  open_test : (b : Bool) (code : ℤ) (x : Result Record ℤ) → cond b (Err code) x ≡ Ok r → x ≡ Ok r
  open_test true code x e = absurd (err_ok code r e)
  open_test false code x e = e

  next_is : (chosen : Result Record ℤ) (g : Record → Result Record ℤ) → ((q : Record) → g q ≡ Ok r → q ≡ r) → and_then chosen g ≡ Ok r → chosen ≡ Ok r
  next_is (Ok q) g same e = ap Ok (same q e)
  next_is (Err code) g same e = absurd (err_ok code r e)

  held_is : (q : Record) → unless_held q ≡ Ok r → q ≡ r
  held_is q e = same_ok q r (open_test (is_locked q) FILE_LOCKED (Ok q) (open_test (is_busy q) BUSY (unless_locked q) e))

  pub child_to_delete : item_to_delete mdb catalog dir name ≡ Ok r → records.child_to_change mdb catalog dir name ≡ Ok r
  child_to_delete e = next_is (records.child_to_change mdb catalog dir name) unless_held held_is e

  pub delete_is : item_to_delete mdb catalog dir name ≡ Ok r → child_named catalog dir name ≡ Some r
  delete_is e = child_is mdb catalog dir name r (child_to_delete e)

  no_folder : (b : Bool) (x : Result Record ℤ) → cond (not b) (Err NOT_A_FOLDER) x ≡ Ok r → b ≡ true
  no_folder true x e = refl
  no_folder false x e = absurd (err_ok NOT_A_FOLDER r e)

  open_lock : (o : Option ℤ) (x : Result Record ℤ) → unless_code o x ≡ Ok r → x ≡ Ok r
  open_lock None x e = e
  open_lock (Some code) x e = absurd (err_ok code r e)

  pub folder_is_there : item_to_delete mdb catalog dir name ≡ Ok r → is_folder catalog dir ≡ true
  folder_is_there e =
      no_folder (is_folder catalog dir) (ok_or (child_named catalog dir name) NOT_FOUND)
      (open_test (not (is_item_name name)) BAD_NAME _ (open_lock (lock_code mdb) _ (child_to_delete e)))

-- ---- on the blocks of a sound volume

module _ (stands : ChoiceStands) (total : ℕ) (old : Blocks) (sound : AreBlocksSound total old) (mdb : Mdb) (own : mdb ≡ mdb_in old) (catalog : Catalog) (content : catalog ≡ catalog_in old)
    (h : AreEntries (contents_in old) (catalog_in old) (entries_of (volume_in old))) (dir : ℕ) (name : List ℕ) where
  hard_is : (volume_in old).hardware_locked ≡ is_bit_set 7 (mdb_in old).attributes.0
  unfolding volume_in
  hard_is = refl

  soft_is : (volume_in old).software_locked ≡ is_bit_set 15 (mdb_in old).attributes.0
  unfolding volume_in
  soft_is = refl

  same : to_delete (volume_in old) dir name ≡ map_ok (entry_of (contents_in old) (catalog_in old)) (item_to_delete (mdb_in old) (catalog_in old) dir name)
  same = delete_same (contents_in old) (catalog_in old) (volume_in old) h (mdb_in old) hard_is soft_is dir name

  by_item : (r : Result Record ℤ) → item_to_delete (mdb_in old) (catalog_in old) dir name ≡ r → (result : Result CatalogItem ℤ) → result ≡ map_ok catalog_item r → ChoosesItem old (to_delete (volume_in old) dir name) result
  by_item (Ok q) is result e =
      subst (ChoosesItem old (to_delete (volume_in old) dir name)) (sym e)
      (chosen_body stands total old sound (to_delete (volume_in old) dir name) dir name q (same ∙ ap (map_ok (entry_of (contents_in old) (catalog_in old))) is) (delete_is (mdb_in old) (catalog_in old) dir name q is))
  by_item (Err code) is result e = subst (ChoosesItem old (to_delete (volume_in old) dir name)) (sym e) (same ∙ ap (map_ok (entry_of (contents_in old) (catalog_in old))) is)

  pub deletes_item : (result : Result CatalogItem ℤ) → result ≡ map_ok catalog_item (item_to_delete mdb catalog dir name) → ChoosesItem old (to_delete (volume_in old) dir name) result
  deletes_item result e = by_item (item_to_delete (mdb_in old) (catalog_in old) dir name) refl result (e ∙ (λ i. map_ok catalog_item (item_to_delete (own i) (content i) dir name)))

  -- there is a folder of the item that is deleted
  by_dir : (r : Result Record ℤ) → item_to_delete (mdb_in old) (catalog_in old) dir name ≡ r → (result : Result CatalogItem ℤ) → result ≡ map_ok catalog_item r → IfOk result (λ item. is_folder (catalog_in old) dir ≡ true)
  by_dir (Ok q) is result e = subst (λ (x : Result CatalogItem ℤ). IfOk x (λ item. is_folder (catalog_in old) dir ≡ true)) (sym e) (folder_is_there (mdb_in old) (catalog_in old) dir name q is)
  by_dir (Err code) is result e = subst (λ (x : Result CatalogItem ℤ). IfOk x (λ item. is_folder (catalog_in old) dir ≡ true)) (sym e) tt

  pub deletes_in_folder : (result : Result CatalogItem ℤ) → result ≡ map_ok catalog_item (item_to_delete mdb catalog dir name) → IfOk result (λ item. is_folder (catalog_in old) dir ≡ true)
  deletes_in_folder result e = by_dir (item_to_delete (mdb_in old) (catalog_in old) dir name) refl result (e ∙ (λ i. map_ok catalog_item (item_to_delete (own i) (content i) dir name)))
