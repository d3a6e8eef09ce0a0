-- The records choose for CatMove what the volume's entries do.
use Rattle.std.proofs.Common.{◌≡◌, inl, ℕ, ℤ, pos, Bool, true, false, cond, eqb, eqb-true, List, refl, sym, ◌∙◌, ap, subst, arith, Ok, Err, Result, Option, Some, None}
use Rattle.std.specs.Prelude.{not, ◌&&◌, is_some, nat_lt}
use Rattle.std.specs.Ordering.{int_eq}
use Rattle.std.specs.Option.{option_map, option_and_then, ok_or}
use Rattle.std.proofs.lemmas.Bool.{and_parts, true≢false}
use Rattle.hfs_fields.specs.declared.mdb.Mdb.{Mdb}
use Rattle.hfs_fields.specs.Names.{is_item_name}
use Rattle.hfs_fields.specs.Order.{same_name}
use Rattle.hfs_fields.specs.Records.{is_dir, is_item, is_bit_set, item_id, dir_record_of, file_record_of}
use Rattle.hfs_fields.proofs.MemberLemmas.{each_in}
use Rattle.hfs_model.specs.declared.codes.TheConstants.{BAD_NAME, DUPLICATE, NOT_A_FOLDER, BAD_MOVE, FOLDER_FULL}
use Rattle.hfs_model.specs.Volume.{Entry}
use Rattle.hfs_model.specs.Children.{entries_of}
use Rattle.hfs_model.specs.Children as model
use Rattle.hfs_model.specs.Choices.{and_then, child_to_change, to_move, is_bad_move, is_held, is_full}
use Rattle.hfs_catalog.specs.declared.item.ItemRecord.TheVariants.{Folder, File}
use Rattle.hfs_catalog.specs.Records.{Record, Catalog, is_child_of, valence_of}
use Rattle.hfs_catalog.specs.Items.{entry_of}
use Rattle.hfs_catalog.proofs.CatalogLawTypes.{ValencesAreCounted}
use Rattle.hfs_catalog.specs.Lookups.{catalog_item, child_named}
use Rattle.hfs_check.proofs.LawTypes.{CatalogIsSound}
use Rattle.hfs_check.specs.Parts.{Blocks, mdb_in, catalog_in}
use Rattle.hfs_check.specs.Sound.{AreBlocksSound}
use Rattle.hfs_check.specs.VolumeOf.{contents_in, volume_in}
use Rattle.hfs_record_edits.specs.Changes.{IsFolderWith}
use Rattle.hfs_record_edits.proofs.OffspringLaws.{OffspringByParents}
use Rattle.hfs_record_edits.proofs.OnceLemmas.{distinct_once, item_found}
use Rattle.hfs_record_edits.proofs.SettingLaws.{ChoiceStands}
use Rattle.hfs_items.proofs.FolderLemmas.{found_with}
use Rattle.hfs_items.proofs.FoundLemmas.{is_some-option_map}
use Rattle.hfs_items.specs.Queries.{AreEntries}
use Rattle.hfs_items.proofs.ReplyLemmas.{folder_kind, folder_same}
use Rattle.hfs_items.specs.Told.{only_folder, folder_with}
use Rattle.hfs_call_patches.specs.declared.moving.Moving.{Moving}
use Rattle.hfs_call_edits.specs.Choosing.{map_ok}
use Rattle.hfs_call_edits.specs.Choosing as records
use Rattle.hfs_call_edits.specs.ChoosingMoving.{most_steps, up_by_folders, place_of, folder_place, is_folder_body, is_folder_item, moving, moving_into, moving_to, item_to_move, ChoosesMoving}
use Rattle.hfs_call_patches.specs.Moving.{IsMoving}
use Rattle.hfs_call_edits.specs.ChoosingRenaming.{own_id}
use Rattle.hfs_call_edits.proofs.Chosen.{child_same, here}
use Rattle.hfs_call_edits.proofs.RenameChoice.{own_is}
use Rattle.hfs_call_edits.proofs.RenameModel.{IsNamedChild, child_parts, folder_found, child_coded, code_of}
use Rattle.hfs_call_edits.proofs.UpFolders.{same_way}

kind_is : (r : Record) → is_dir r.1 ≡ is_folder_item (catalog_item r)
unfolding catalog_item
kind_is r = elim (is_dir r.1) as (λ (b : Bool). b ≡ is_folder_body (cond b (Folder (dir_record_of r.1)) (File (file_record_of r.1)))) [ true ↦ refl | false ↦ refl ]

folder_is : (catalog : Catalog) (dir : ℕ) (q : Record) → IsFolderWith catalog dir q → folder_with catalog dir ≡ Some q
folder_is catalog dir q f = ap (option_and_then only_folder) f.was ∙ ap (λ (b : Bool). cond b (Some q) None) f.folder

module _ (stands : ChoiceStands) (offspring : OffspringByParents) (counted : ValencesAreCounted) (catalogs : CatalogIsSound) (total : ℕ) (old : Blocks) (sound : AreBlocksSound total old)
    (h : AreEntries (contents_in old) (catalog_in old) (entries_of (volume_in old))) (dir : ℕ) (name : List ℕ) (new_dir : ℕ) where
  abbrev catalog : Catalog
  catalog = catalog_in old

  abbrev es : List Entry
  es = entries_of (volume_in old)

  abbrev entry : Record → Entry
  entry r = entry_of (contents_in old) catalog r

  abbrev chosen : Result Entry ℤ
  chosen = to_move (volume_in old) dir name new_dir

  abbrev steps : ℕ
  steps = most_steps (mdb_in old)

  -- ---- the tests

  bad_same : (r q : Record) → IsFolderWith catalog new_dir q → is_bad_move es (entry r) new_dir ≡ (is_folder_item (catalog_item r) && up_by_folders catalog steps new_dir (own_id (catalog_item r)))
  unfolding is_bad_move
  bad_same r q f =
      let way = offspring total steps new_dir (item_id r.1) old sound (omega arith) ∙ same_way (mdb_in old).next_id catalog (catalogs total old sound) steps new_dir (item_id r.1) (inl (q, f)) in
      λ i. (folder_kind (contents_in old) catalog es h r ∙ kind_is r) i && (way ∙ ap (up_by_folders catalog steps new_dir) (sym (own_is (catalog_item r) r refl))) i

  held_same : is_held es new_dir name ≡ is_some (child_named catalog new_dir name)
  unfolding is_held
  held_same = ap is_some (h.named new_dir name) ∙ is_some-option_map entry (child_named catalog new_dir name)

  full_same : (q : Record) → IsFolderWith catalog new_dir q → is_full es new_dir ≡ not (nat_lt (dir_record_of q.1).valence 65535)
  unfolding is_full volume_in
  full_same q f =
      let found = found_with catalog new_dir q f.was in
      let own : (dir_record_of q.1).valence ≡ valence_of catalog new_dir = (each_in _ catalog q (catalogs total old sound).valences found.there f.folder).counted ∙ ap (valence_of catalog) found.same in
      ap (λ (n : ℕ). not (nat_lt n 65535)) (counted (contents_in old) (mdb_in old).next_id catalog sound.mdb.next_id (catalogs total old sound) new_dir ∙ sym own)

  -- ---- the choice

  refuse : (code : ℤ) → chosen ≡ Err code → int_eq code (pos 0) ≡ false → (result : Result Moving ℤ) → result ≡ Err code → ChoosesMoving old dir name new_dir result
  refuse code is other result e = subst (ChoosesMoving old dir name new_dir) (sym e) (record { refused = is; other = other })

  three : (m : Moving) (x : Entry) (a b c : Bool) → chosen ≡ cond a (Err BAD_MOVE) (cond b (Err DUPLICATE) (cond c (Err FOLDER_FULL) (Ok x)))
      → (result : Result Moving ℤ) → result ≡ cond a (Err BAD_MOVE) (cond b (Err DUPLICATE) (cond c (Err FOLDER_FULL) (Ok m))) → (chosen ≡ Ok x → IsMoving old dir name new_dir m)
      → ChoosesMoving old dir name new_dir result
  three m x true b c is result e made = refuse BAD_MOVE is refl result e
  three m x false true c is result e made = refuse DUPLICATE is refl result e
  three m x false false true is result e made = refuse FOLDER_FULL is refl result e
  three m x false false false is result e made = subst (ChoosesMoving old dir name new_dir) (sym e) (made is)

  module _ (r : Record) (child : records.child_to_change (mdb_in old) catalog dir name ≡ Ok r) where
    parts : IsNamedChild catalog dir name r
    parts = child_parts (mdb_in old) catalog dir name r child

    made : (q1 q2 : Record) → IsFolderWith catalog dir q1 → IsFolderWith catalog new_dir q2 → chosen ≡ Ok (entry r) → IsMoving old dir name new_dir (moving (catalog_item r) (place_of q1) (place_of q2) new_dir)
    unfolding catalog_item
    made q1 q2 f1 f2 is =
        let found = here stands total old sound (Ok (entry r)) dir name r refl parts.found in
        let two = and_parts (is_child_of dir r) (same_name r.0.name name) found.1 in
        let both = and_parts (is_item r.1) (eqb r.0.parent dir) two.0 in
        record {
          choice = record {
            of = r;
            choice = record { id = item_id r.1; is = is; was = item_found catalog r (distinct_once catalog sound.ids.distinct) found.0 both.0 };
            own_id = sym (own_is (catalog_item r) r refl);
            own_key = refl;
            new_key = refl;
          };
          kind = kind_is r;
          first = q1;
          left = record { folder = f1; key = refl; valence = refl };
          second = q2;
          entered = record { folder = f2; key = refl; valence = refl };
          from_is = eqb-true r.0.parent dir both.1;
          to_is = refl;
        }

    abbrev tests : Bool → Result Entry ℤ
    tests b = cond (not b) (Err NOT_A_FOLDER) (cond (is_bad_move es (entry r) new_dir) (Err BAD_MOVE) (cond (is_held es new_dir name) (Err DUPLICATE) (cond (is_full es new_dir) (Err FOLDER_FULL) (Ok (entry r)))))

    by_folder : (q1 : Record) → IsFolderWith catalog dir q1 → (b : Bool) → is_some (folder_with catalog new_dir) ≡ b → chosen ≡ tests b
        → (result : Result Moving ℤ) → result ≡ moving_to catalog steps (catalog_item r) name (place_of q1) new_dir → ChoosesMoving old dir name new_dir result
    by_folder q1 f1 true some is result e =
        let second = folder_found catalog new_dir some in
        let q2 = second.0 in
        three (moving (catalog_item r) (place_of q1) (place_of q2) new_dir) (entry r)
        (is_folder_item (catalog_item r) && up_by_folders catalog steps new_dir (own_id (catalog_item r))) (is_some (child_named catalog new_dir name)) (not (nat_lt (dir_record_of q2.1).valence 65535))
        (is ∙ (λ i. cond (bad_same r q2 second.1 i) (Err BAD_MOVE) (cond (held_same i) (Err DUPLICATE) (cond (full_same q2 second.1 i) (Err FOLDER_FULL) (Ok (entry r))))))
        result (e ∙ ap (λ (o : Option Record). and_then (ok_or (option_map place_of o) NOT_A_FOLDER) (moving_into catalog steps (catalog_item r) name (place_of q1) new_dir)) (folder_is catalog new_dir q2 second.1))
        (made q1 q2 f1 second.1)
    by_folder q1 f1 false none is result e =
        refuse NOT_A_FOLDER is refl result
        (e ∙ ap (λ (o : Option Record). and_then (ok_or (option_map place_of o) NOT_A_FOLDER) (moving_into catalog steps (catalog_item r) name (place_of q1) new_dir)) (nothing (folder_with catalog new_dir) none))
      where
        nothing : (o : Option Record) → is_some o ≡ false → o ≡ None
        nothing None e = refl
        nothing (Some x) e = absurd (true≢false e)

  hard : (volume_in old).hardware_locked ≡ is_bit_set 7 (mdb_in old).attributes.0
  unfolding volume_in
  hard = refl

  soft : (volume_in old).software_locked ≡ is_bit_set 15 (mdb_in old).attributes.0
  unfolding volume_in
  soft = refl

  same_child : child_to_change (volume_in old) dir name ≡ map_ok entry (records.child_to_change (mdb_in old) catalog dir name)
  same_child = child_same (contents_in old) catalog (volume_in old) h (mdb_in old) hard soft dir name

  abbrev rest : Entry → Result Entry ℤ
  rest e =
      cond (not (model.is_folder es new_dir)) (Err NOT_A_FOLDER) (cond (is_bad_move es e new_dir) (Err BAD_MOVE) (cond (is_held es new_dir name) (Err DUPLICATE) (cond (is_full es new_dir) (Err FOLDER_FULL) (Ok e))))

  move_is : chosen ≡ and_then (child_to_change (volume_in old) dir name) rest
  unfolding to_move
  move_is = refl

  abbrev from_child : Result Record ℤ → Result Moving ℤ
  from_child x = and_then (map_ok catalog_item x) (λ item.
      cond (not (is_item_name name)) (Err BAD_NAME) (and_then (ok_or (folder_place catalog dir) NOT_A_FOLDER) (λ left. moving_to catalog steps item name left new_dir)))

  by_child : (x : Result Record ℤ) → records.child_to_change (mdb_in old) catalog dir name ≡ x → (result : Result Moving ℤ) → result ≡ from_child x → ChoosesMoving old dir name new_dir result
  by_child (Err code) is result e =
      let refused = same_child ∙ ap (map_ok entry) is in
      refuse code (move_is ∙ ap (λ (c : Result Entry ℤ). and_then c rest) refused) (code_of (child_to_change (volume_in old) dir name) code (child_coded (volume_in old) dir name) refused) result e
  by_child (Ok r) is result e =
      let its = parts r is in
      let first = folder_found catalog dir its.folder in
      by_folder r is first.0 first.1 (is_some (folder_with catalog new_dir)) refl
      (move_is ∙ ap (λ (c : Result Entry ℤ). and_then c rest) (same_child ∙ ap (map_ok entry) is)
      ∙ (λ i. cond (not (folder_same (contents_in old) catalog es h new_dir i)) (Err NOT_A_FOLDER) (cond (is_bad_move es (entry r) new_dir) (Err BAD_MOVE) (cond (is_held es new_dir name) (Err DUPLICATE) (cond (is_full es new_dir) (Err FOLDER_FULL) (Ok (entry r)))))))
      result
      (e ∙ (λ i. cond (not (its.named i)) (Err BAD_NAME) (and_then (ok_or (option_map place_of (folder_is catalog dir first.0 first.1 i)) NOT_A_FOLDER) (λ left. moving_to catalog steps (catalog_item r) name left new_dir))))

  pub chooses_moving : (mdb : Mdb) → mdb ≡ mdb_in old → (rs : Catalog) → rs ≡ catalog → (result : Result Moving ℤ) → result ≡ item_to_move mdb rs dir name new_dir → ChoosesMoving old dir name new_dir result
  chooses_moving mdb own rs content result e = by_child (records.child_to_change (mdb_in old) catalog dir name) refl result (e ∙ (λ i. item_to_move (own i) (content i) dir name new_dir))
