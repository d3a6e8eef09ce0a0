-- Where the records put a new item is where the volume does.
use Rattle.std.proofs.Common.{◌≡◌, ℕ, ℤ, pos, Bool, true, false, cond, eqb, List, refl, sym, ◌∙◌, ap, subst, Option, Some, None, Ok, Err, Result}
use Rattle.std.specs.Prelude.{not, ◌||◌, nat_lt, is_some}
use Rattle.std.specs.Option.{option_map_or, option_and_then}
use Rattle.std.specs.Ordering.{int_eq}
use Rattle.std.proofs.lemmas.Bool.{true≢false}
use Rattle.std.proofs.lemmas.Option.{none-some, same_Some}
use Rattle.hfs_fields.specs.declared.mdb.Mdb.{Mdb}
use Rattle.hfs_fields.specs.Names.{is_item_name}
use Rattle.hfs_fields.specs.Records.{is_dir, item_id, is_bit_set, dir_record_of, file_record_of}
use Rattle.hfs_fields.proofs.MemberLemmas.{each_in}
use Rattle.hfs_model.specs.declared.codes.TheConstants.{FOLDER_FULL, BAD_NAME, HARDWARE_LOCKED, SOFTWARE_LOCKED, DUPLICATE, NOT_A_FOLDER}
use Rattle.hfs_model.specs.declared.reply.Info.{Info}
use Rattle.hfs_model.specs.Volume.{Volume, Entry}
use Rattle.hfs_model.specs.Children.{entries_of, is_folder_kind}
use Rattle.hfs_model.specs.Children as children
use Rattle.hfs_model.specs.Choices.{is_locked, is_full, is_held, to_create}
use Rattle.hfs_model.specs.Choices as model
use Rattle.hfs_model.specs.Replies.{info_of}
use Rattle.hfs_catalog.specs.declared.item.ItemRecord.TheVariants.{Folder, File}
use Rattle.hfs_catalog.specs.Records.{Record, Catalog, item_with}
use Rattle.hfs_catalog.specs.Items.{item_of, entry_of}
use Rattle.hfs_catalog.specs.Lookups.{catalog_item, child_named}
use Rattle.hfs_check.specs.Parts.{Blocks, mdb_in, catalog_in}
use Rattle.hfs_check.specs.VolumeOf.{contents_in, volume_in}
use Rattle.hfs_record_edits.specs.Changes.{IsFolderWith}
use Rattle.hfs_items.proofs.FoundLemmas.{is_some-option_map}
use Rattle.hfs_items.proofs.FolderLemmas.{found_with}
use Rattle.hfs_items.specs.Queries.{AreEntries}
use Rattle.hfs_items.proofs.ReplyLemmas.{folder_kind, folder_same}
use Rattle.hfs_items.specs.Told.{folder_info, body_info, told, only_folder, folder_with}
use Rattle.hfs_call_edits.specs.Choosing.{unless_code}
use Rattle.hfs_call_patches.specs.declared.new_items.NewPlace.{NewPlace}
use Rattle.hfs_call_edits.specs.NewPlaces.{children_in, place_under, place_in, new_place, ChoosesPlace}
use Rattle.hfs_call_patches.specs.ReadyPlaces.{IsPlace}
use Rattle.hfs_call_edits.specs.NewPlaces as records

-- ---- a folder that was found by its ID

found_by : (o : Option Record) (r : Record) → option_and_then only_folder o ≡ Some r → (o ≡ Some r) × (is_dir r.1 ≡ true)
found_by None r e = absurd (none-some r e)
found_by (Some q) r e = by (is_dir q.1) refl e
  where
    by : (b : Bool) → is_dir q.1 ≡ b → cond b (Some q) None ≡ Some r → (Some q ≡ Some r) × (is_dir r.1 ≡ true)
    by true folder e = (e, sym (ap (λ (p : Record). is_dir p.1) (same_Some q r e)) ∙ folder)
    by false file e = absurd (none-some r e)

found_folder : (catalog : Catalog) (dir : ℕ) (r : Record) → folder_with catalog dir ≡ Some r → IsFolderWith catalog dir r
found_folder catalog dir r e = let both = found_by (item_with catalog dir) r e in record { was = both.0; folder = both.1 }

own_body : (r : Record) → is_dir r.1 ≡ true → children_in (catalog_item r).body ≡ (dir_record_of r.1).valence
unfolding catalog_item
own_body r folder = ap (λ (b : Bool). children_in (cond b (Folder (dir_record_of r.1)) (File (file_record_of r.1)))) folder

own_key : (r : Record) → r.0 ≡ (catalog_item r).key
unfolding catalog_item
own_key r = refl

-- ---- the tests, one after the other

module _ (old : Blocks) (dir : ℕ) (name : List ℕ) where
  abbrev Chooses : Result ℕ ℤ → Result NewPlace ℤ → Type 0
  Chooses x y = ChoosesPlace old x dir name y

  by_test : (b : Bool) (code : ℤ) (x : Result ℕ ℤ) (y : Result NewPlace ℤ) → (b ≡ false → Chooses x y) → Chooses (cond b (Err code) x) (cond b (Err code) y)
  by_test true code x y next = refl
  by_test false code x y next = next refl

  by_lock : (a b : Bool) (x : Result ℕ ℤ) (y : Result NewPlace ℤ) → Chooses x y
      → Chooses (cond (a || b) (Err (cond a HARDWARE_LOCKED SOFTWARE_LOCKED)) x) (unless_code (cond a (Some HARDWARE_LOCKED) (cond b (Some SOFTWARE_LOCKED) None)) y)
  by_lock true b x y next = refl
  by_lock false true x y next = refl
  by_lock false false x y next = next

  module _ (h : AreEntries (contents_in old) (catalog_in old) (entries_of (volume_in old))) where
    abbrev catalog : Catalog
    catalog = catalog_in old

    abbrev es : List Entry
    es = entries_of (volume_in old)

    held_same : is_held es dir name ≡ is_some (child_named catalog dir name)
    unfolding is_held
    held_same = ap is_some (h.named dir name) ∙ is_some-option_map (entry_of (contents_in old) catalog) (child_named catalog dir name)

    -- a folder's record counts its children
    counted_info : (r : Record) → info_of es (entry_of (contents_in old) catalog r) ≡ told catalog r
        → cond (is_folder_kind (item_of (contents_in old) catalog r).kind) (children.valence es (item_id r.1)) 0 ≡ (told catalog r).valence
    unfolding info_of
    counted_info r e = ap (λ (i : Info). i.valence) e

    told_valence : (r : Record) → is_dir r.1 ≡ true → (told catalog r).valence ≡ (dir_record_of r.1).valence
    unfolding catalog_item folder_info
    told_valence r folder = ap (λ (b : Bool). (body_info catalog r.0 (cond b (Folder (dir_record_of r.1)) (File (file_record_of r.1)))).valence) folder

    children_are : (r : Record) → IsFolderWith catalog dir r → children.valence es dir ≡ (dir_record_of r.1).valence
    children_are r f =
        let found = found_with catalog dir r f.was in
        ap (children.valence es) (sym found.same)
        ∙ sym (ap (λ (b : Bool). cond b (children.valence es (item_id r.1)) 0) (folder_kind (contents_in old) catalog es h r ∙ f.folder))
        ∙ counted_info r (each_in _ catalog r h.told found.there found.item)
        ∙ told_valence r f.folder

    full_same : (r : Record) → IsFolderWith catalog dir r → (is_full es dir || eqb (volume_in old).next_id 4294967295) ≡ records.is_full (mdb_in old) (catalog_item r)
    unfolding is_full volume_in
    full_same r f = ap (λ (n : ℕ). not (nat_lt n 65535) || eqb (mdb_in old).next_id 4294967295) (children_are r f ∙ sym (own_body r f.folder))

    -- ---- the tests of the folder

    abbrev of_place : Result ℕ ℤ
    of_place = cond (is_held es dir name) (Err DUPLICATE) (cond (is_full es dir || eqb (volume_in old).next_id 4294967295) (Err FOLDER_FULL) (Ok (volume_in old).next_id))

    placed : (r : Record) → is_item_name name ≡ true → IsFolderWith catalog dir r → IsPlace old (Ok (volume_in old).next_id) dir name (place_under name (catalog_item r))
    unfolding volume_in
    placed r named f = record {
      is = refl;
      of = r;
      parent = f;
      own_key = own_key r;
      own_children = own_body r f.folder;
      own_name = refl;
      named = named;
    }

    in_folder : (r : Record) → is_item_name name ≡ true → IsFolderWith catalog dir r → Chooses of_place (place_in (mdb_in old) catalog dir name r)
    in_folder r named f =
        subst (λ (a : Bool). Chooses (cond a (Err DUPLICATE) (cond (is_full es dir || eqb (volume_in old).next_id 4294967295) (Err FOLDER_FULL) (Ok (volume_in old).next_id))) (place_in (mdb_in old) catalog dir name r)) (sym held_same)
        (by_test (is_some (child_named catalog dir name)) DUPLICATE _ _ (λ free.
        subst (λ (a : Bool). Chooses (cond a (Err FOLDER_FULL) (Ok (volume_in old).next_id)) (cond (records.is_full (mdb_in old) (catalog_item r)) (Err FOLDER_FULL) (Ok (place_under name (catalog_item r))))) (sym (full_same r f))
        (by_test (records.is_full (mdb_in old) (catalog_item r)) FOLDER_FULL (Ok (volume_in old).next_id) (Ok (place_under name (catalog_item r))) (λ room. placed r named f))))

    of_folder : is_item_name name ≡ true → Chooses (cond (not (children.is_folder es dir)) (Err NOT_A_FOLDER) of_place) (option_map_or (place_in (mdb_in old) catalog dir name) (folder_with catalog dir) (Err NOT_A_FOLDER))
    of_folder named = by (folder_with catalog dir) refl
      where
        same : (o : Option Record) → folder_with catalog dir ≡ o → is_some o ≡ children.is_folder es dir
        same o e = ap is_some (sym e) ∙ sym (folder_same (contents_in old) catalog es h dir)

        by : (o : Option Record) → folder_with catalog dir ≡ o → Chooses (cond (not (children.is_folder es dir)) (Err NOT_A_FOLDER) of_place) (option_map_or (place_in (mdb_in old) catalog dir name) o (Err NOT_A_FOLDER))
        by None e = subst (λ (b : Bool). Chooses (cond (not b) (Err NOT_A_FOLDER) of_place) (Err NOT_A_FOLDER)) (same None e) refl
        by (Some r) e = subst (λ (b : Bool). Chooses (cond (not b) (Err NOT_A_FOLDER) of_place) (place_in (mdb_in old) catalog dir name r)) (same (Some r) e) (in_folder r named (found_folder catalog dir r e))

    -- ---- all of them

    hard_is : (volume_in old).hardware_locked ≡ is_bit_set 7 (mdb_in old).attributes.0
    unfolding volume_in
    hard_is = refl

    soft_is : (volume_in old).software_locked ≡ is_bit_set 15 (mdb_in old).attributes.0
    unfolding volume_in
    soft_is = refl

    open_named : (b : Bool) → not b ≡ false → b ≡ true
    open_named true e = refl
    open_named false e = absurd (true≢false e)

    chooses : Chooses (to_create (volume_in old) dir name) (new_place (mdb_in old) catalog dir name)
    unfolding to_create
    chooses =
        subst (λ (a : Bool). Chooses (cond (a || (volume_in old).software_locked) (Err (cond a HARDWARE_LOCKED SOFTWARE_LOCKED)) inner) (new_place (mdb_in old) catalog dir name)) (sym hard_is)
        (subst (λ (b : Bool). Chooses (cond (is_bit_set 7 (mdb_in old).attributes.0 || b) (Err (cond (is_bit_set 7 (mdb_in old).attributes.0) HARDWARE_LOCKED SOFTWARE_LOCKED)) inner) (new_place (mdb_in old) catalog dir name)) (sym soft_is)
        (by_lock (is_bit_set 7 (mdb_in old).attributes.0) (is_bit_set 15 (mdb_in old).attributes.0) inner _
        (by_test (not (is_item_name name)) BAD_NAME _ _ (λ named. of_folder (open_named (is_item_name name) named)))))
      where
        inner : Result ℕ ℤ
        inner = cond (not (is_item_name name)) (Err BAD_NAME) (cond (not (children.is_folder es dir)) (Err NOT_A_FOLDER) of_place)

    pub place_chosen : (mdb : Mdb) (cat : Catalog) (result : Result NewPlace ℤ) → mdb ≡ mdb_in old → cat ≡ catalog → result ≡ new_place mdb cat dir name → Chooses (to_create (volume_in old) dir name) result
    place_chosen mdb cat result own content is = subst (Chooses (to_create (volume_in old) dir name)) (sym (is ∙ (λ i. new_place (own i) (content i) dir name))) chooses

-- ---- a creation that is refused is refused with a code other than 0

abbrev IsCode : Result ℕ ℤ → Type 0
IsCode r = (code : ℤ) → r ≡ Err code → int_eq code (pos 0) ≡ false

same_err : (a b : ℤ) → ◌≡◌ {A = Result ℕ ℤ} (Err a) (Err b) → a ≡ b
same_err a b e = cc

ok_err : (n : ℕ) (code : ℤ) → ◌≡◌ {A = Result ℕ ℤ} (Ok n) (Err code) → ⊥
ok_err n code e = cc

code_or : (b : Bool) (code : ℤ) (x : Result ℕ ℤ) → int_eq code (pos 0) ≡ false → IsCode x → IsCode (cond b (Err code) x)
code_or true code x other rest found e = subst (λ (c : ℤ). int_eq c (pos 0) ≡ false) (same_err code found e) other
code_or false code x other rest found e = rest found e

pub locked_code : (b : Bool) → int_eq (cond b HARDWARE_LOCKED SOFTWARE_LOCKED) (pos 0) ≡ false
locked_code true = refl
locked_code false = refl

pub creation_code : (v : Volume) (dir : ℕ) (name : List ℕ) (code : ℤ) → to_create v dir name ≡ Err code → int_eq code (pos 0) ≡ false
unfolding to_create
creation_code v dir name code e =
    code_or (is_locked v) (model.lock_code v) _ (locked_code v.hardware_locked)
    (code_or (not (is_item_name name)) BAD_NAME _ refl
    (code_or (not (children.is_folder (entries_of v) dir)) NOT_A_FOLDER _ refl
    (code_or (is_held (entries_of v) dir name) DUPLICATE _ refl
    (code_or (is_full (entries_of v) dir || eqb v.next_id 4294967295) FOLDER_FULL _ refl
    (λ found e'. absurd (ok_err v.next_id found e')))))) code e
