-- What calls on file IDs choose by the catalog's records is what they choose in the volume.
use Rattle.std.proofs.Common.{◌≡◌, ◌⊎◌, ⊎_elim, ℕ, ◌≤◌, ℤ, pos, Bool, true, false, cond, List, arith, refl, sym, ◌∙◌, ap, subst, Option, Some, None, Ok, Err, Result}
use Rattle.std.specs.Prelude.{not, ◌||◌, IsTrue, IfOk}
use Rattle.std.specs.Option.{option_map, option_map_or, ok_or}
use Rattle.std.specs.Ordering.{int_eq}
use Rattle.std.proofs.lemmas.Bool.{or_cases, true≢false}
use Rattle.hfs_fields.specs.declared.key.CatKey.{CatKey}
use Rattle.hfs_fields.specs.declared.mdb.Mdb.{Mdb}
use Rattle.hfs_fields.specs.declared.file_record.FileRecord.{FileRecord}
use Rattle.hfs_fields.specs.Names.{is_item_name}
use Rattle.hfs_fields.specs.Records.{is_dir, is_file, is_item, item_id, is_bit_set, dir_record_of, file_record_of}
use Rattle.hfs_fields.specs.Members.{In}
use Rattle.hfs_fields.proofs.MemberLemmas.{each_in}
use Rattle.hfs_model.specs.declared.codes.TheConstants.{BAD_NAME, NOT_FOUND, HARDWARE_LOCKED, SOFTWARE_LOCKED, NOT_A_FOLDER, FILE_ID_NOT_FOUND, FILE_ID_EXISTS, NOT_A_FILE}
use Rattle.hfs_model.specs.Volume.{Volume, Entry}
use Rattle.hfs_model.specs.Children.{is_folder, is_folder_kind, child_named, entries_of}
use Rattle.hfs_model.specs.Choices.{and_then, child_to_change}
use Rattle.hfs_model.specs.Choices as model
use Rattle.hfs_model.specs.FileIds.{unless_has_thread, if_has_thread, file_of_id, to_create_file_id, to_delete_file_id}
use Rattle.hfs_model.specs.Replies as told
use Rattle.hfs_catalog.proofs.FileRecords.{not-dir}
use Rattle.hfs_catalog.specs.Records.{Record, Catalog, item_with, has_thread}
use Rattle.hfs_catalog.specs.Items.{Contents, folder_of, file_of, item_of, entry_of}
use Rattle.hfs_catalog.specs.Lookups.{thread_of}
use Rattle.hfs_catalog.specs.Sound.{IsRoot, IsGiven, HasRightId, HasPlace}
use Rattle.hfs_check.specs.Parts.{Blocks, mdb_in, catalog_in}
use Rattle.hfs_check.specs.Sound.{AreBlocksSound}
use Rattle.hfs_check.specs.VolumeOf.{contents_in, volume_in}
use Rattle.hfs_record_edits.proofs.PlaceLaws.{FileIsThreadless}
use Rattle.hfs_record_edits.specs.SettingLaws.{IsChoice}
use Rattle.hfs_record_edits.proofs.SettingLaws.{ChoiceStands}
use Rattle.hfs_items.proofs.FolderLemmas.{HasId, found_with}
use Rattle.hfs_items.specs.Queries.{AreEntries}
use Rattle.hfs_items.proofs.ReplyLemmas.{folder_kind}
use Rattle.hfs_call_patches.specs.Settings.{IsBody}
use Rattle.hfs_call_edits.specs.Choosing.{map_ok, unless_code, lock_code, file_part}
use Rattle.hfs_call_edits.specs.Choosing as records
use Rattle.hfs_call_edits.specs.Edits.{IsChosenFile, ChoosesFile}
use Rattle.hfs_call_patches.specs.FileIds.{IsThreadless}
use Rattle.hfs_call_edits.specs.ChoosingFileIds.{unless_threaded, if_threaded, file_without_id, file_with_id}
use Rattle.hfs_record_edits.proofs.Chosen.{same_ok}
use Rattle.hfs_model.proofs.KeepsCalls.{err_is_ok as err_ok}
use Rattle.hfs_call_edits.proofs.Chosen.{child_same, child_is, chosen_file}
use Rattle.hfs_call_patches.proofs.ChosenFileLemmas.{file_id_is}
use Rattle.hfs_call_edits.proofs.ChosenPlaces.{locked_code}

-- ---- a file that has a thread, or none

kinds_without : (e : Entry) (dir has : Bool) → is_folder_kind e.1.kind ≡ dir → (dir ≡ false → told.has_thread e.1.kind ≡ has) → unless_has_thread e ≡ cond dir (Err NOT_A_FILE) (cond has (Err FILE_ID_EXISTS) (Ok e))
kinds_without e true has k t = ap (λ (b : Bool). cond b (Err NOT_A_FILE) (cond (told.has_thread e.1.kind) (Err FILE_ID_EXISTS) (Ok e))) k
kinds_without e false has k t =
    ap (λ (b : Bool). cond b (Err NOT_A_FILE) (cond (told.has_thread e.1.kind) (Err FILE_ID_EXISTS) (Ok e))) k
    ∙ ap (λ (b : Bool). cond b (Err FILE_ID_EXISTS) (Ok e)) (t refl)

kinds_with : (e : Entry) (dir has : Bool) → is_folder_kind e.1.kind ≡ dir → (dir ≡ false → told.has_thread e.1.kind ≡ has) → if_has_thread e ≡ cond dir (Err NOT_A_FILE) (cond has (Ok e) (Err FILE_ID_NOT_FOUND))
kinds_with e true has k t = ap (λ (b : Bool). cond b (Err NOT_A_FILE) (cond (told.has_thread e.1.kind) (Ok e) (Err FILE_ID_NOT_FOUND))) k
kinds_with e false has k t =
    ap (λ (b : Bool). cond b (Err NOT_A_FILE) (cond (told.has_thread e.1.kind) (Ok e) (Err FILE_ID_NOT_FOUND))) k
    ∙ ap (λ (b : Bool). cond b (Ok e) (Err FILE_ID_NOT_FOUND)) (t refl)

-- ---- the choices of a volume with these locks, whose entries the records answer for

module _ (contents : Contents) (catalog : Catalog) (v : Volume) (h : AreEntries contents catalog (entries_of v)) (mdb : Mdb)
    (hard : v.hardware_locked ≡ is_bit_set 7 mdb.attributes.0) (soft : v.software_locked ≡ is_bit_set 15 mdb.attributes.0) where
  abbrev entry : Record → Entry
  entry r = entry_of contents catalog r

  has_kind : (r : Record) → is_dir r.1 ≡ false → told.has_thread (item_of contents catalog r).kind ≡ has_thread catalog (file_record_of r.1).id
  unfolding item_of folder_of file_of
  has_kind r = elim (is_dir r.1) as (λ (b : Bool). b ≡ false → told.has_thread (cond b (folder_of r.0 (dir_record_of r.1)) (file_of (has_thread catalog (file_record_of r.1).id) (contents (file_record_of r.1)) r.0 (file_record_of r.1))).kind
      ≡ has_thread catalog (file_record_of r.1).id) [ true ↦ λ e. absurd (true≢false e) | false ↦ λ e. refl ]

  without_same : (r : Record) → unless_has_thread (entry r) ≡ map_ok entry (unless_threaded catalog r)
  without_same r =
      kinds_without (entry r) (is_dir r.1) (has_thread catalog (file_record_of r.1).id) (folder_kind contents catalog (entries_of v) h r) (has_kind r)
      ∙ either (is_dir r.1) (has_thread catalog (file_record_of r.1).id)
    where
      either : (dir has : Bool) → cond dir (Err NOT_A_FILE) (cond has (Err FILE_ID_EXISTS) (Ok (entry r))) ≡ map_ok entry (cond dir (Err NOT_A_FILE) (cond has (Err FILE_ID_EXISTS) (Ok r)))
      either true has = refl
      either false true = refl
      either false false = refl

  with_same : (r : Record) → if_has_thread (entry r) ≡ map_ok entry (if_threaded catalog r)
  with_same r =
      kinds_with (entry r) (is_dir r.1) (has_thread catalog (file_record_of r.1).id) (folder_kind contents catalog (entries_of v) h r) (has_kind r)
      ∙ either (is_dir r.1) (has_thread catalog (file_record_of r.1).id)
    where
      either : (dir has : Bool) → cond dir (Err NOT_A_FILE) (cond has (Ok (entry r)) (Err FILE_ID_NOT_FOUND)) ≡ map_ok entry (cond dir (Err NOT_A_FILE) (cond has (Ok r) (Err FILE_ID_NOT_FOUND)))
      either true has = refl
      either false true = refl
      either false false = refl

  then_same : (chosen : Result Record ℤ) (f : Entry → Result Entry ℤ) (g : Record → Result Record ℤ) → ((r : Record) → f (entry r) ≡ map_ok entry (g r))
      → and_then (map_ok entry chosen) f ≡ map_ok entry (and_then chosen g)
  then_same (Ok r) f g same = same r
  then_same (Err code) f g same = refl

  pub create_same : (dir : ℕ) (name : List ℕ) → to_create_file_id v dir name ≡ map_ok entry (file_without_id mdb catalog dir name)
  unfolding to_create_file_id
  create_same dir name =
      ap (λ (c : Result Entry ℤ). and_then c unless_has_thread) (child_same contents catalog v h mdb hard soft dir name)
      ∙ then_same (records.child_to_change mdb catalog dir name) unless_has_thread (unless_threaded catalog) without_same

  by_lock : (a b : Bool) (x : Result Entry ℤ) (y : Result Record ℤ) → x ≡ map_ok entry y
      → cond (a || b) (Err (cond a HARDWARE_LOCKED SOFTWARE_LOCKED)) x ≡ map_ok entry (unless_code (cond a (Some HARDWARE_LOCKED) (cond b (Some SOFTWARE_LOCKED) None)) y)
  by_lock true b x y e = refl
  by_lock false true x y e = refl
  by_lock false false x y e = e

  found_same : (o : Option Record) → ok_or (option_map entry o) FILE_ID_NOT_FOUND ≡ map_ok entry (ok_or o FILE_ID_NOT_FOUND)
  found_same None = refl
  found_same (Some r) = refl

  id_same : (id : ℕ) → file_of_id (entries_of v) id ≡ map_ok entry (and_then (ok_or (item_with catalog id) FILE_ID_NOT_FOUND) (if_threaded catalog))
  unfolding file_of_id
  id_same id =
      ap (λ (o : Option Entry). and_then (ok_or o FILE_ID_NOT_FOUND) if_has_thread) (h.by_id id)
      ∙ ap (λ (c : Result Entry ℤ). and_then c if_has_thread) (found_same (item_with catalog id))
      ∙ then_same (ok_or (item_with catalog id) FILE_ID_NOT_FOUND) if_has_thread (if_threaded catalog) with_same

  pub delete_same : (id : ℕ) → to_delete_file_id v id ≡ map_ok entry (file_with_id mdb catalog id)
  unfolding to_delete_file_id
  delete_same id =
      (λ i. cond (hard i || soft i) (Err (cond (hard i) HARDWARE_LOCKED SOFTWARE_LOCKED)) (file_of_id (entries_of v) id))
      ∙ by_lock (is_bit_set 7 mdb.attributes.0) (is_bit_set 15 mdb.attributes.0) _ _ (id_same id)

-- ---- what was chosen is a file

module _ (catalog : Catalog) (p q : Record) where
  passed : (b : Bool) (code : ℤ) (x : Result Record ℤ) → cond b (Err code) x ≡ Ok q → (b ≡ false) × (x ≡ Ok q)
  passed true code x e = absurd (err_ok code q e)
  passed false code x e = (refl, e)

  without_is : unless_threaded catalog p ≡ Ok q → (p ≡ q) × (is_dir p.1 ≡ false)
  without_is e =
      let a = passed (is_dir p.1) NOT_A_FILE _ e in
      (same_ok p q (passed (has_thread catalog (file_record_of p.1).id) FILE_ID_EXISTS (Ok p) a.1).1, a.0)

  kept : (b : Bool) (code : ℤ) → cond b (Ok p) (Err code) ≡ Ok q → p ≡ q
  kept true code e = same_ok p q e
  kept false code e = absurd (err_ok code q e)

  with_is : if_threaded catalog p ≡ Ok q → (p ≡ q) × (is_dir p.1 ≡ false)
  with_is e =
      let a = passed (is_dir p.1) NOT_A_FILE _ e in
      (kept (has_thread catalog (file_record_of p.1).id) FILE_ID_NOT_FOUND a.1, a.0)

then_is : (chosen : Result Record ℤ) (g : Record → Result Record ℤ) (q : Record) → ((p : Record) → g p ≡ Ok q → (p ≡ q) × (is_dir p.1 ≡ false)) → and_then chosen g ≡ Ok q → (chosen ≡ Ok q) × (is_dir q.1 ≡ false)
then_is (Ok p) g q f e = let both = f p e in (ap Ok both.0, ap (λ (r : Record). is_dir r.1) (sym both.0) ∙ both.1)
then_is (Err code) g q f e = absurd (err_ok code q e)

some_is : (o : Option Record) (code : ℤ) (q : Record) → ok_or o code ≡ Ok q → o ≡ Some q
some_is None code q e = absurd (err_ok code q e)
some_is (Some p) code q e = ap Some (same_ok p q e)

pub unlocked_is : (o : Option ℤ) (x : Result Record ℤ) (q : Record) → unless_code o x ≡ Ok q → x ≡ Ok q
unlocked_is None x q e = e
unlocked_is (Some code) x q e = absurd (err_ok code q e)

-- ---- on the blocks of a sound volume

module _ (stands : ChoiceStands) (total : ℕ) (old : Blocks) (sound : AreBlocksSound total old) (chosen : Result Entry ℤ) (id : ℕ) (r : Record)
    (is : chosen ≡ Ok (entry_of (contents_in old) (catalog_in old) r)) (found : item_with (catalog_in old) id ≡ Some r) (no_dir : is_dir r.1 ≡ false) where
  with : HasId (catalog_in old) id r
  with = found_with (catalog_in old) id r found

  choice : IsChoice old chosen r
  choice = record { id = item_id r.1; is = is; was = ap (item_with (catalog_in old)) with.same ∙ found }

  file : is_file r.1 ≡ true
  file = ⊎_elim (λ (d : is_dir r.1 ≡ true). absurd (true≢false (sym d ∙ no_dir))) (λ f. f) (or_cases (is_dir r.1) (is_file r.1) with.item)

  chosen_by_id : IsChosenFile old chosen r.0 (file_record_of r.1)
  chosen_by_id = record {
    choice = record { of = r; choice = choice; own_key = refl; own_file = refl; is = file };
    name = each_in _ (catalog_in old) r sound.names.records.items with.there with.item;
    there = subst (IsBody is_file) (sym (stands total chosen r old sound choice)) file;
  }

module _ (stands : ChoiceStands) (total : ℕ) (old : Blocks) (sound : AreBlocksSound total old) (mdb : Mdb) (own : mdb ≡ mdb_in old) (catalog : Catalog) (content : catalog ≡ catalog_in old)
    (h : AreEntries (contents_in old) (catalog_in old) (entries_of (volume_in old))) where
  hard_is : (volume_in old).hardware_locked ≡ is_bit_set 7 (mdb_in old).attributes.0
  unfolding volume_in
  hard_is = refl

  soft_is : (volume_in old).software_locked ≡ is_bit_set 15 (mdb_in old).attributes.0
  unfolding volume_in
  soft_is = refl

  abbrev its : Record → Entry
  its = entry_of (contents_in old) (catalog_in old)

  chooses : (chosen : Result Entry ℤ) (r : Result Record ℤ) → chosen ≡ map_ok its r → ((q : Record) → r ≡ Ok q → chosen ≡ Ok (its q) → IsChosenFile old chosen q.0 (file_record_of q.1))
      → (result : Result (CatKey × FileRecord) ℤ) → result ≡ map_ok file_part r → ChoosesFile old chosen result
  chooses chosen (Ok q) same f result e = subst (ChoosesFile old chosen) (sym e) (f q refl same)
  chooses chosen (Err code) same f result e = subst (ChoosesFile old chosen) (sym e) same

  pub creates_id : (dir : ℕ) (name : List ℕ) (result : Result (CatKey × FileRecord) ℤ) → result ≡ map_ok file_part (file_without_id mdb catalog dir name)
      → ChoosesFile old (to_create_file_id (volume_in old) dir name) result
  creates_id dir name result e =
      chooses _ (file_without_id (mdb_in old) (catalog_in old) dir name) (create_same (contents_in old) (catalog_in old) (volume_in old) h (mdb_in old) hard_is soft_is dir name)
      (λ q is same.
      let both = then_is (records.child_to_change (mdb_in old) (catalog_in old) dir name) (unless_threaded (catalog_in old)) q (λ p. without_is (catalog_in old) p q) is in
      chosen_file stands total old sound _ dir name q same (child_is (mdb_in old) (catalog_in old) dir name q both.0) both.1)
      result (e ∙ (λ i. map_ok file_part (file_without_id (own i) (content i) dir name)))

  pub deletes_id : (id : ℕ) (result : Result (CatKey × FileRecord) ℤ) → result ≡ map_ok file_part (file_with_id mdb catalog id) → ChoosesFile old (to_delete_file_id (volume_in old) id) result
  deletes_id id result e =
      chooses _ (file_with_id (mdb_in old) (catalog_in old) id) (delete_same (contents_in old) (catalog_in old) (volume_in old) h (mdb_in old) hard_is soft_is id)
      (λ q is same.
      let both = then_is (ok_or (item_with (catalog_in old) id) FILE_ID_NOT_FOUND) (if_threaded (catalog_in old)) q (λ p. with_is (catalog_in old) p q) (unlocked_is (lock_code (mdb_in old)) _ q is) in
      chosen_by_id stands total old sound _ id q same (some_is (item_with (catalog_in old) id) FILE_ID_NOT_FOUND q both.0) both.1)
      result (e ∙ (λ i. map_ok file_part (file_with_id (own i) (content i) id)))

-- ---- the file that gets a thread

module _ (total : ℕ) (old : Blocks) (sound : AreBlocksSound total old) where
  id_least : (r : Record) → In r (catalog_in old) → is_item r.1 ≡ true → 2 ≤ item_id r.1
  id_least r there item = ⊎_elim
      (λ (root : IsRoot r). omega (arith, root.id))
      (λ (given : IsGiven (mdb_in old).next_id r). omega (arith, given.least))
      (each_in (λ (q : Record). IsTrue (is_item q.1) → HasRightId (mdb_in old).next_id q) (catalog_in old) r sound.ids.each there item)

  -- an item that isn't the root is in a folder
  parent_least : (r : Record) → In r (catalog_in old) → is_item r.1 ≡ true → is_dir r.1 ≡ false → 2 ≤ r.0.parent
  parent_least r there item no_dir = ⊎_elim
      (λ (second : item_id r.1 ≡ 2). absurd (⊎_elim
      (λ (root : IsRoot r). true≢false (sym root.folder ∙ no_dir))
      (λ (given : IsGiven (mdb_in old).next_id r). omega (arith, given.least, second))
      (each_in (λ (q : Record). IsTrue (is_item q.1) → HasRightId (mdb_in old).next_id q) (catalog_in old) r sound.ids.each there item)))
      (λ (place : HasPlace (catalog_in old) r). by_folder (item_with (catalog_in old) r.0.parent) refl place.parent)
      (each_in (λ (q : Record). IsTrue (is_item q.1) → (item_id q.1 ≡ 2) ⊎ HasPlace (catalog_in old) q) (catalog_in old) r sound.places.records.parents there item)
    where
      by_folder : (o : Option Record) → item_with (catalog_in old) r.0.parent ≡ o → option_map_or (λ (q : Record). is_dir q.1) o false ≡ true → 2 ≤ r.0.parent
      by_folder None e is = absurd (true≢false (sym is))
      by_folder (Some p) e is =
          let with = found_with (catalog_in old) r.0.parent p e in
          let least = id_least p with.there with.item in
          omega (arith, least, with.same)

  pub threadless_chosen : FileIsThreadless → (dir : ℕ) (name : List ℕ) (result : Result (CatKey × FileRecord) ℤ) → ChoosesFile old (to_create_file_id (volume_in old) dir name) result
      → IfOk result (λ f. IsThreadless (catalog_in old) f.0 f.1)
  threadless_chosen law dir name (Err code) is = tt
  threadless_chosen law dir name (Ok f) is =
      let c = is.choice in
      let with = found_with (catalog_in old) c.choice.id c.of c.choice.was in
      let same = file_id_is old _ f.0 f.1 c in
      let least = id_least c.of with.there with.item in
      record {
        folder = subst (λ (k : CatKey). 2 ≤ k.parent) c.own_key (parent_least c.of with.there with.item (not-dir c.of.1 c.is));
        id = omega (arith, same, least, with.same);
        unthreaded = ap (thread_of (catalog_in old)) same ∙ law total dir name c.of old sound c.choice;
      }

-- ---- the codes of refusals are not 0

abbrev Refuses : {A : Type 0} → Result A ℤ → Type 0
Refuses (Ok e) = Unit {0}
Refuses (Err code) = int_eq code (pos 0) ≡ false

module _ {A : Type 0} where
  refuses_if : (b : Bool) (code : ℤ) (x : Result A ℤ) → int_eq code (pos 0) ≡ false → Refuses x → Refuses (cond b (Err code) x)
  refuses_if true code x e f = e
  refuses_if false code x e f = f

  refuses_or : (o : Option A) (code : ℤ) → int_eq code (pos 0) ≡ false → Refuses (ok_or o code)
  refuses_or None code e = e
  refuses_or (Some x) code e = tt

  refuses_then : {B : Type 0} (chosen : Result A ℤ) (next : A → Result B ℤ) → Refuses chosen → ((x : A) → Refuses (next x)) → Refuses (and_then chosen next)
  refuses_then (Ok x) next e f = f x
  refuses_then (Err code) next e f = e

child_refuses : (v : Volume) (dir : ℕ) (name : List ℕ) → Refuses (child_to_change v dir name)
unfolding child_to_change
child_refuses v dir name =
    refuses_if (model.is_locked v) (model.lock_code v) _ (locked_code v.hardware_locked)
    (refuses_if (not (is_item_name name)) BAD_NAME _ refl
    (refuses_if (not (is_folder (entries_of v) dir)) NOT_A_FOLDER _ refl (refuses_or (child_named (entries_of v) dir name) NOT_FOUND refl)))

create_refuses : (v : Volume) (dir : ℕ) (name : List ℕ) → Refuses (to_create_file_id v dir name)
unfolding to_create_file_id
create_refuses v dir name =
    refuses_then (child_to_change v dir name) unless_has_thread (child_refuses v dir name)
    (λ e. refuses_if (is_folder_kind e.1.kind) NOT_A_FILE _ refl (refuses_if (told.has_thread e.1.kind) FILE_ID_EXISTS (Ok e) refl tt))

pub create_code : (v : Volume) (dir : ℕ) (name : List ℕ) (code : ℤ) → to_create_file_id v dir name ≡ Err code → int_eq code (pos 0) ≡ false
create_code v dir name code e = subst Refuses e (create_refuses v dir name)
