-- The records choose for Rename what the volume's entries do.
use Rattle.std.proofs.Common.{◌≡◌, ℕ, ◌≤◌, ℤ, pos, Bool, true, false, cond, eqb, eqb-true, List, refl, sym, ◌∙◌, ap, subst, Ok, Err, Result, Option, Some, None}
use Rattle.std.specs.Prelude.{not, is_some, ⊤}
use Rattle.std.specs.Ordering.{int_eq}
use Rattle.std.specs.Option.{option_map, option_map_or, option_and_then, ok_or}
use Rattle.std.proofs.lemmas.Bool.{true≢false, and_parts}
use Rattle.hfs_fields.specs.declared.mdb.Mdb.{Mdb}
use Rattle.hfs_fields.specs.Names.{is_item_name}
use Rattle.hfs_fields.specs.Order.{same_name}
use Rattle.hfs_fields.specs.Records.{is_dir, is_item, is_bit_set, item_id}
use Rattle.hfs_model.specs.declared.codes.TheConstants.{BAD_NAME, DUPLICATE, NOT_FOUND, NOT_A_FOLDER, FILE_LOCKED}
use Rattle.hfs_model.specs.Volume.{Volume, Entry}
use Rattle.hfs_model.specs.Children.{entries_of, is_folder, child_named}
use Rattle.hfs_model.specs.Choices.{and_then, child_to_change, to_rename, unless_locked_file, is_locked, lock_code, to_set_cat_info}
use Rattle.hfs_model.specs.Choices as model
use Rattle.hfs_model.specs.Lawful.{IsLawful}
use Rattle.hfs_catalog.specs.Records.{Record, Catalog, item_with, is_child_of}
use Rattle.hfs_catalog.specs.Items.{Contents, entry_of}
use Rattle.hfs_catalog.proofs.CatalogLawTypes.{SoundIsLawful}
use Rattle.hfs_catalog.specs.Lookups as lookups
use Rattle.hfs_check.proofs.LawTypes.{CatalogIsSound}
use Rattle.hfs_check.specs.Parts.{Blocks, mdb_in, catalog_in}
use Rattle.hfs_check.specs.Sound.{AreBlocksSound}
use Rattle.hfs_check.specs.VolumeOf.{contents_in, volume_in}
use Rattle.hfs_record_edits.specs.Changes.{IsFolderWith}
use Rattle.hfs_record_edits.proofs.OnceLemmas.{distinct_once, item_found}
use Rattle.hfs_record_edits.proofs.PlaceLaws.{FolderIdIs}
use Rattle.hfs_record_edits.proofs.SettingLaws.{ChoiceStands}
use Rattle.hfs_items.specs.Queries.{AreEntries}
use Rattle.hfs_items.specs.Told.{only_folder}
use Rattle.hfs_items.specs.Told as told
use Rattle.hfs_call_patches.specs.declared.rekeying.Rekeying.{Rekeying}
use Rattle.hfs_call_edits.proofs.FileIdsChosen.{unlocked_is}
use Rattle.hfs_call_edits.specs.Choosing.{map_ok, unless_code, unless_locked, item_to_set}
use Rattle.hfs_call_edits.specs.Choosing as records
use Rattle.hfs_call_edits.specs.ChoosingRenaming.{is_taken, unless_taken, item_to_rename, renaming, IsRenaming, ChoosesRenaming}
use Rattle.hfs_record_edits.proofs.Chosen.{same_ok}
use Rattle.hfs_model.proofs.KeepsCalls.{err_is_ok as err_ok}
use Rattle.hfs_call_edits.proofs.Chosen.{by_lock, by_test, next_same, item_same, here}
use Rattle.hfs_call_edits.proofs.Taken.{taken_is}
use Rattle.hfs_call_edits.proofs.ChosenPlaces.{locked_code}
use Rattle.hfs_model.proofs.Facts.{not_not, not_refused}

-- ---- the same choice

module _ (contents : Contents) (catalog : Catalog) (v : Volume) (h : AreEntries contents catalog (entries_of v)) (mdb : Mdb)
    (hard : v.hardware_locked ≡ is_bit_set 7 mdb.attributes.0) (soft : v.software_locked ≡ is_bit_set 15 mdb.attributes.0) (lawful : IsLawful v) (dir : ℕ) (name new_name : List ℕ) where
  abbrev entry : Record → Entry
  entry r = entry_of contents catalog r

  abbrev taken_by : ℕ → Option Entry → Bool
  taken_by id o = option_map_or (λ (e : Entry). not (eqb e.0 id)) o false

  taken_same : (id : ℕ) → model.is_taken (entries_of v) dir new_name id ≡ is_taken catalog dir new_name id
  taken_same id =
      taken_is v.items v.next_id lawful dir new_name id ∙ ap (taken_by id) (h.named dir new_name)
      ∙ elim (lookups.child_named catalog dir new_name) as (λ (o : Option Record). taken_by id (option_map entry o) ≡ option_map_or (λ (r : Record). not (eqb (item_id r.1) id)) o false) [ None ↦ refl | Some r ↦ refl ]

  abbrev untaken : Entry → Result Entry ℤ
  untaken e = cond (model.is_taken (entries_of v) dir new_name e.0) (Err DUPLICATE) (Ok e)

  untaken_same : (r : Record) → untaken (entry r) ≡ map_ok entry (unless_taken catalog dir new_name r)
  untaken_same r =
      ap (λ (b : Bool). cond b (Err DUPLICATE) (Ok (entry r))) (taken_same (item_id r.1))
      ∙ by_test contents catalog v h mdb hard soft dir name (is_taken catalog dir new_name (item_id r.1)) DUPLICATE (Ok (entry r)) (Ok r) refl

  pub rename_same : to_rename v dir name new_name ≡ map_ok entry (item_to_rename mdb catalog dir name new_name)
  unfolding to_rename to_set_cat_info
  rename_same =
      (λ i. cond (model.is_locked (record v { hardware_locked = hard i; software_locked = soft i })) (Err (model.lock_code (record v { hardware_locked = hard i; software_locked = soft i })))
      (cond (not (is_item_name new_name)) (Err BAD_NAME) (and_then (item_same contents catalog v h mdb hard soft dir name i) untaken)))
      ∙ by_lock contents catalog v h mdb hard soft dir name (is_bit_set 7 mdb.attributes.0) (is_bit_set 15 mdb.attributes.0) _ _
      (by_test contents catalog v h mdb hard soft dir name (not (is_item_name new_name)) BAD_NAME _ _
      (next_same contents catalog v h mdb hard soft dir name (item_to_set mdb catalog dir name) untaken (unless_taken catalog dir new_name) untaken_same))

-- ---- what was chosen

next : (x : Result Record ℤ) (f : Record → Result Record ℤ) (r : Record) → ((q : Record) → f q ≡ Ok r → q ≡ r) → and_then x f ≡ Ok r → x ≡ Ok r
next (Ok q) f r same e = ap Ok (same q e)
next (Err code) f r same e = absurd (err_ok code r e)

there : (o : Option Record) (r : Record) → ok_or o NOT_FOUND ≡ Ok r → o ≡ Some r
there None r e = absurd (err_ok NOT_FOUND r e)
there (Some q) r e = ap Some (same_ok q r e)

-- the child of the name, in a folder
pub record IsNamedChild (catalog : Catalog) (dir : ℕ) (name : List ℕ) (r : Record) : Type 0 where
  pub named : is_item_name name ≡ true
  pub folder : told.is_folder catalog dir ≡ true
  pub found : lookups.child_named catalog dir name ≡ Some r

pub child_parts : (mdb : Mdb) (catalog : Catalog) (dir : ℕ) (name : List ℕ) (r : Record) → records.child_to_change mdb catalog dir name ≡ Ok r → IsNamedChild catalog dir name r
child_parts mdb catalog dir name r e =
    let named = not_refused (not (is_item_name name)) BAD_NAME _ r (unlocked_is (records.lock_code mdb) _ r e) in
    let folder = not_refused (not (told.is_folder catalog dir)) NOT_A_FOLDER _ r named.1 in
    record { named = not_not (is_item_name name) named.0; folder = not_not (told.is_folder catalog dir) folder.0; found = there (lookups.child_named catalog dir name) r folder.1 }

rename_parts : (mdb : Mdb) (catalog : Catalog) (dir : ℕ) (name new_name : List ℕ) (r : Record) → item_to_rename mdb catalog dir name new_name ≡ Ok r
    → IsNamedChild catalog dir name r × (is_item_name new_name ≡ true)
rename_parts mdb catalog dir name new_name r e =
    let named = not_refused (not (is_item_name new_name)) BAD_NAME _ r (unlocked_is (records.lock_code mdb) _ r e) in
    let set = next (item_to_set mdb catalog dir name) (unless_taken catalog dir new_name) r (λ q f. same_ok q r (not_refused (is_taken catalog dir new_name (item_id q.1)) DUPLICATE (Ok q) r f).1) named.1 in
    let child = next (records.child_to_change mdb catalog dir name) unless_locked r (λ q f. same_ok q r (not_refused (records.is_locked q) FILE_LOCKED (Ok q) r f).1) set in
    (child_parts mdb catalog dir name r child, not_not (is_item_name new_name) named.0)

-- the folder of an ID
pub folder_found : (catalog : Catalog) (dir : ℕ) → told.is_folder catalog dir ≡ true → (q : Record) × IsFolderWith catalog dir q
folder_found catalog dir e = elim (item_with catalog dir) as (λ (o : Option Record). item_with catalog dir ≡ o → is_some (option_and_then only_folder o) ≡ true → (q : Record) × IsFolderWith catalog dir q) [
  | None ↦ λ is f. absurd (true≢false (sym f))
  | Some q ↦ λ is f. elim (is_dir q.1) as (λ (b : Bool). is_dir q.1 ≡ b → is_some (cond b (Some q) None) ≡ true → (p : Record) × IsFolderWith catalog dir p) [
    | true ↦ λ folder g. (q, record { was = is; folder = folder })
    | false ↦ λ file g. absurd (true≢false (sym g))
  ] refl f
] refl e

-- ---- codes are not 0

-- a refusal's code is not 0
abbrev pub IsCoded : {A : Type 0} → Result A ℤ → Type 0
IsCoded (Ok x) = ⊤
IsCoded (Err code) = int_eq code (pos 0) ≡ false

pub coded_test : {A : Type 0} (b : Bool) (code : ℤ) (x : Result A ℤ) → int_eq code (pos 0) ≡ false → IsCoded x → IsCoded (cond b (Err code) x)
coded_test true code x is rest = is
coded_test false code x is rest = rest

pub coded_then : {A B : Type 0} (x : Result A ℤ) (f : A → Result B ℤ) → IsCoded x → ((a : A) → IsCoded (f a)) → IsCoded (and_then x f)
coded_then (Ok a) f is rest = rest a
coded_then (Err code) f is rest = is

coded_or : {A : Type 0} (o : Option A) → IsCoded (ok_or o NOT_FOUND)
coded_or None = refl
coded_or (Some x) = tt

pub child_coded : (v : Volume) (dir : ℕ) (name : List ℕ) → IsCoded (child_to_change v dir name)
unfolding child_to_change
child_coded v dir name =
    coded_test (is_locked v) (lock_code v) _ (locked_code v.hardware_locked)
    (coded_test (not (is_item_name name)) BAD_NAME _ refl
    (coded_test (not (is_folder (entries_of v) dir)) NOT_A_FOLDER _ refl (coded_or (child_named (entries_of v) dir name))))

rename_coded : (v : Volume) (dir : ℕ) (name new_name : List ℕ) → IsCoded (to_rename v dir name new_name)
unfolding to_rename
rename_coded v dir name new_name =
    coded_test (is_locked v) (lock_code v) _ (locked_code v.hardware_locked)
    (coded_test (not (is_item_name new_name)) BAD_NAME _ refl
    (coded_then (and_then (child_to_change v dir name) unless_locked_file) _
    (coded_then (child_to_change v dir name) unless_locked_file (child_coded v dir name) (λ e. coded_test _ FILE_LOCKED (Ok e) refl tt))
    (λ e. coded_test _ DUPLICATE (Ok e) refl tt)))

pub code_of : {A : Type 0} (x : Result A ℤ) (code : ℤ) → IsCoded x → x ≡ Err code → int_eq code (pos 0) ≡ false
code_of x code is e = subst IsCoded e is

-- ---- on the blocks of a sound volume

module _ (stands : ChoiceStands) (lawful : SoundIsLawful) (catalogs : CatalogIsSound) (ids : FolderIdIs) (total : ℕ) (old : Blocks) (sound : AreBlocksSound total old) (mdb : Mdb) (own : mdb ≡ mdb_in old)
    (catalog : Catalog) (content : catalog ≡ catalog_in old) (h : AreEntries (contents_in old) (catalog_in old) (entries_of (volume_in old))) (dir : ℕ) (name new_name : List ℕ) where
  lawful_now : IsLawful (volume_in old)
  unfolding volume_in
  lawful_now = lawful (contents_in old) (mdb_in old).next_id (catalog_in old) sound.mdb.next_id (catalogs total old sound)

  abbrev chosen : Result Entry ℤ
  chosen = to_rename (volume_in old) dir name new_name

  hard : (volume_in old).hardware_locked ≡ is_bit_set 7 (mdb_in old).attributes.0
  unfolding volume_in
  hard = refl

  soft : (volume_in old).software_locked ≡ is_bit_set 15 (mdb_in old).attributes.0
  unfolding volume_in
  soft = refl

  named_item : (r : Record) → chosen ≡ map_ok (entry_of (contents_in old) (catalog_in old)) (Ok r) → item_to_rename (mdb_in old) (catalog_in old) dir name new_name ≡ Ok r → IsRenaming old dir name new_name (renaming new_name r)
  named_item r same is =
      let parts = rename_parts (mdb_in old) (catalog_in old) dir name new_name r is in
      let folder = folder_found (catalog_in old) dir parts.0.folder in
      let child = here stands total old sound chosen dir name r same parts.0.found in
      let two = and_parts (is_child_of dir r) (same_name r.0.name name) child.1 in
      let parent : r.0.parent ≡ dir = eqb-true r.0.parent dir (and_parts (is_item r.1) (eqb r.0.parent dir) two.0).1 in
      record {
        choice = record {
          of = r;
          choice = record { id = item_id r.1; is = same; was = item_found (catalog_in old) r (distinct_once (catalog_in old) sound.ids.distinct) child.0 (and_parts (is_item r.1) (eqb r.0.parent dir) two.0).0 };
          own_id = refl;
          own_key = refl;
          new_key = refl;
        };
        low = subst (λ (n : ℕ). 2 ≤ n) (sym parent) (ids total dir folder.0 old sound folder.1);
        alike = two.1;
        named = parts.1;
      }

  by_choice : (r : Result Record ℤ) → item_to_rename (mdb_in old) (catalog_in old) dir name new_name ≡ r → chosen ≡ map_ok (entry_of (contents_in old) (catalog_in old)) r → (result : Result Rekeying ℤ) → result ≡ map_ok (renaming new_name) r
      → ChoosesRenaming old dir name new_name result
  by_choice (Ok q) is same result e = subst (ChoosesRenaming old dir name new_name) (sym e) (named_item q same is)
  by_choice (Err code) is same result e =
      subst (ChoosesRenaming old dir name new_name) (sym e) (record { refused = same; other = code_of chosen code (rename_coded (volume_in old) dir name new_name) same })

  pub chooses_renaming : (result : Result Rekeying ℤ) → result ≡ map_ok (renaming new_name) (item_to_rename mdb catalog dir name new_name) → ChoosesRenaming old dir name new_name result
  chooses_renaming result e =
      by_choice (item_to_rename (mdb_in old) (catalog_in old) dir name new_name) refl
      (rename_same (contents_in old) (catalog_in old) (volume_in old) h (mdb_in old) hard soft lawful_now dir name new_name)
      result (e ∙ (λ i. map_ok (renaming new_name) (item_to_rename (own i) (content i) dir name new_name)))
