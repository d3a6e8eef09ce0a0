-- The files that calls on file IDs choose by the records of a catalog.
use Rattle.std.proofs.Common.{◌≡◌, ℕ, ℤ, Bool, true, false, cond, refl, sym, ◌∙◌, ap, Option, Some, None, Ok, Err, Result}
use Rattle.std.specs.Option.{option_map, ok_or}
use Rattle.std.proofs.lemmas.Bool.{true≢false}
use Rattle.std.proofs.lemmas.Option.{none-some, same_Some}
use Rattle.hfs_fields.specs.declared.key.CatKey.{CatKey}
use Rattle.hfs_fields.specs.declared.dir_record.DirRecord.{DirRecord}
use Rattle.hfs_fields.specs.declared.file_record.FileRecord.{FileRecord}
use Rattle.hfs_fields.specs.declared.mdb.Mdb.{Mdb}
use Rattle.hfs_fields.specs.Records.{is_dir, item_id, dir_record_of, file_record_of}
use Rattle.hfs_fields.proofs.MemberLemmas.{each_in}
use Rattle.hfs_model.specs.declared.codes.TheConstants.{FILE_ID_NOT_FOUND, FILE_ID_EXISTS, NOT_A_FILE}
use Rattle.hfs_model.specs.Choices.{and_then}
use Rattle.hfs_catalog.specs.declared.item.ItemRecord.TheVariants.{Folder, File}
use Rattle.hfs_catalog.specs.declared.item.CatalogItem.{CatalogItem}
use Rattle.hfs_catalog.specs.Records.{Record, Catalog, item_with, has_thread}
use Rattle.hfs_catalog.specs.Lookups.{catalog_item}
use Rattle.hfs_catalog.specs.Sound.{IsSoundCatalog}
use Rattle.hfs_items.proofs.FolderLemmas.{found_with, folder_not_file}
use Rattle.hfs_call_edits.specs.Choosing.{map_ok, lock_code, unless_code, file_part}
use Rattle.hfs_call_edits.specs.ChoosingFileIds.{unless_threaded, if_threaded, file_with_id}
use Rattle.hfs_record_edits.proofs.Chosen.{same_ok}
use Rattle.hfs_model.proofs.KeepsCalls.{err_is_ok as err_ok}
use Rattle.hfs_items.proofs.Files.{same_file}

-- what was chosen is a file's record
pub record IsFileOf (chosen : Result Record ℤ) (key : CatKey) (file : FileRecord) : Type 0 where
  pub of : Record
  pub is : chosen ≡ Ok of
  pub no_dir : is_dir of.1 ≡ false
  pub own_key : of.0 ≡ key
  pub own_file : file_record_of of.1 ≡ file

-- or a folder's
pub record IsFolderOf (chosen : Result Record ℤ) : Type 0 where
  pub of : Record
  pub is : chosen ≡ Ok of
  pub dir : is_dir of.1 ≡ true

-- ---- the item of what was chosen

module _ (chosen : Result Record ℤ) (item : CatalogItem) (is : Ok item ≡ map_ok catalog_item chosen) where
  folder_chosen : (d : DirRecord) → item.body ≡ Folder d → IsFolderOf chosen
  unfolding catalog_item
  folder_chosen d body = elim chosen as (λ (c : Result Record ℤ). Ok item ≡ map_ok catalog_item c → IsFolderOf c) [
    | Ok r ↦ λ e. record {
      of = r;
      is = refl;
      dir = elim (is_dir r.1) as (λ (b : Bool). cond b (Folder (dir_record_of r.1)) (File (file_record_of r.1)) ≡ Folder d → b ≡ true) [
        | true ↦ λ e'. refl
        | false ↦ λ e'. absurd (folder_not_file d _ (sym e'))
      ] (ap (λ (i : CatalogItem). i.body) (sym (same_ok item (catalog_item r) e)) ∙ body);
    }
    | Err code ↦ λ e. absurd (err_ok code item (sym e))
  ] is

  by_kind : (r : Record) (f : FileRecord) (b : Bool) → is_dir r.1 ≡ b → cond b (Folder (dir_record_of r.1)) (File (file_record_of r.1)) ≡ File f → (is_dir r.1 ≡ false) × (file_record_of r.1 ≡ f)
  by_kind r f true d e = absurd (folder_not_file _ f e)
  by_kind r f false d e = (d, same_file _ f e)

  file_chosen : (f : FileRecord) → item.body ≡ File f → IsFileOf chosen item.key f
  unfolding catalog_item
  file_chosen f body = elim chosen as (λ (c : Result Record ℤ). Ok item ≡ map_ok catalog_item c → IsFileOf c item.key f) [
    | Ok r ↦ λ e.
        let same = same_ok item (catalog_item r) e in
        let both = by_kind r f (is_dir r.1) refl (ap (λ (i : CatalogItem). i.body) (sym same) ∙ body) in
        record { of = r; is = refl; no_dir = both.0; own_key = ap (λ (i : CatalogItem). i.key) (sym same); own_file = both.1 }
    | Err code ↦ λ e. absurd (err_ok code item (sym e))
  ] is

  -- a folder is refused, whatever is asked of a file
  pub folder_refused : (next : Record → Result Record ℤ) (d : DirRecord) → item.body ≡ Folder d → Err NOT_A_FILE ≡ map_ok file_part (and_then chosen (λ r. cond (is_dir r.1) (Err NOT_A_FILE) (next r)))
  folder_refused next d body =
      let f = folder_chosen d body in
      sym (ap (λ (c : Result Record ℤ). map_ok file_part (and_then c (λ r. cond (is_dir r.1) (Err NOT_A_FILE) (next r)))) f.is
      ∙ ap (λ (b : Bool). map_ok file_part (cond b (Err NOT_A_FILE) (next f.of))) f.dir)

  -- a file is asked
  file_asked : (next : Record → Result Record ℤ) (f : FileRecord) (c : IsFileOf chosen item.key f) → map_ok file_part (and_then chosen (λ r. cond (is_dir r.1) (Err NOT_A_FILE) (next r))) ≡ map_ok file_part (next c.of)
  file_asked next f c =
      ap (λ (c : Result Record ℤ). map_ok file_part (and_then c (λ r. cond (is_dir r.1) (Err NOT_A_FILE) (next r)))) c.is
      ∙ ap (λ (b : Bool). map_ok file_part (cond b (Err NOT_A_FILE) (next c.of))) c.no_dir

  part_is : (f : FileRecord) (c : IsFileOf chosen item.key f) → ◌≡◌ {A = Result (CatKey × FileRecord) ℤ} (Ok (file_part c.of)) (Ok (item.key, f))
  part_is f c = λ i. Ok (c.own_key i, c.own_file i)

  module _ (catalog : Catalog) (f : FileRecord) (body : item.body ≡ File f) where
    pub unless_asked : (has : Bool) → has_thread catalog f.id ≡ has → cond has (Err FILE_ID_EXISTS) (Ok (item.key, f)) ≡ map_ok file_part (and_then chosen (unless_threaded catalog))
    unless_asked has known =
        let c = file_chosen f body in
        sym (file_asked (λ r. cond (has_thread catalog (file_record_of r.1).id) (Err FILE_ID_EXISTS) (Ok r)) f c
        ∙ ap (λ (b : Bool). map_ok file_part (cond b (Err FILE_ID_EXISTS) (Ok c.of))) (ap (λ (g : FileRecord). has_thread catalog g.id) c.own_file ∙ known)
        ∙ either c has)
      where
        either : (c : IsFileOf chosen item.key f) (b : Bool) → map_ok file_part (cond b (Err FILE_ID_EXISTS) (Ok c.of)) ≡ cond b (Err FILE_ID_EXISTS) (Ok (item.key, f))
        either c true = refl
        either c false = part_is f c

    pub if_asked : has_thread catalog f.id ≡ true → Ok (item.key, f) ≡ map_ok file_part (and_then chosen (if_threaded catalog))
    if_asked known =
        let c = file_chosen f body in
        sym (file_asked (λ r. cond (has_thread catalog (file_record_of r.1).id) (Ok r) (Err FILE_ID_NOT_FOUND)) f c
        ∙ ap (λ (b : Bool). map_ok file_part (cond b (Ok c.of) (Err FILE_ID_NOT_FOUND))) (ap (λ (g : FileRecord). has_thread catalog g.id) c.own_file ∙ known)
        ∙ part_is f c)

-- ---- by its ID

module _ (mdb : Mdb) (catalog : Catalog) (id : ℕ) (unlocked : lock_code mdb ≡ None) where
  abbrev chosen : Result Record ℤ
  chosen = ok_or (item_with catalog id) FILE_ID_NOT_FOUND

  open_lock : (x : Result (CatKey × FileRecord) ℤ) → x ≡ map_ok file_part (and_then chosen (if_threaded catalog)) → x ≡ map_ok file_part (file_with_id mdb catalog id)
  open_lock x is = is ∙ sym (ap (λ (o : Option ℤ). map_ok file_part (unless_code o (and_then chosen (if_threaded catalog)))) unlocked)

  own_id : (r : Record) → item_id r.1 ≡ id → is_dir r.1 ≡ false → (file_record_of r.1).id ≡ id
  own_id r same file = sym (ap (λ b. cond b (dir_record_of r.1).id (file_record_of r.1).id) file) ∙ same

  -- what has no thread is no folder, and no file that is chosen
  pub none_chosen : (next : ℕ) → IsSoundCatalog next catalog → has_thread catalog id ≡ false → Err FILE_ID_NOT_FOUND ≡ map_ok file_part (file_with_id mdb catalog id)
  none_chosen next sound none = open_lock _ (sym (elim (item_with catalog id) as (λ (o : Option Record). item_with catalog id ≡ o → map_ok file_part (and_then (ok_or o FILE_ID_NOT_FOUND) (if_threaded catalog)) ≡ Err FILE_ID_NOT_FOUND) [
    | None ↦ λ e. refl
    | Some r ↦ λ e.
        let with = found_with catalog id r e in
        by r with.same (λ folder. true≢false (sym (each_in _ catalog r sound.places.threaded with.there folder) ∙ ap (has_thread catalog) with.same ∙ none)) (is_dir r.1) refl
  ] refl))
    where
      by : (r : Record) → item_id r.1 ≡ id → (is_dir r.1 ≡ true → ⊥) → (b : Bool) → is_dir r.1 ≡ b
          → map_ok file_part (cond b (Err NOT_A_FILE) (cond (has_thread catalog (file_record_of r.1).id) (Ok r) (Err FILE_ID_NOT_FOUND))) ≡ Err FILE_ID_NOT_FOUND
      by r same never true e = absurd (never e)
      by r same never false e = ap (λ (b : Bool). map_ok file_part (cond b (Ok r) (Err FILE_ID_NOT_FOUND))) (ap (has_thread catalog) (own_id r same e) ∙ none)

  module _ (item : CatalogItem) (is : Some item ≡ option_map catalog_item (item_with catalog id)) where
    item_is : Ok item ≡ map_ok catalog_item chosen
    item_is = elim (item_with catalog id) as (λ (o : Option Record). Some item ≡ option_map catalog_item o → Ok item ≡ map_ok catalog_item (ok_or o FILE_ID_NOT_FOUND)) [
      | None ↦ λ e. absurd (none-some item (sym e))
      | Some r ↦ λ e. ap Ok (same_Some item (catalog_item r) e)
    ] is

    pub folder_of_id : (d : DirRecord) → item.body ≡ Folder d → Err NOT_A_FILE ≡ map_ok file_part (file_with_id mdb catalog id)
    folder_of_id d body = open_lock _ (folder_refused chosen item item_is (λ r. cond (has_thread catalog (file_record_of r.1).id) (Ok r) (Err FILE_ID_NOT_FOUND)) d body)

    file_id_is : (f : FileRecord) → item.body ≡ File f → f.id ≡ id
    file_id_is f body = elim (item_with catalog id) as (λ (o : Option Record). item_with catalog id ≡ o → Some item ≡ option_map catalog_item o → f.id ≡ id) [
      | None ↦ λ found e. absurd (none-some item (sym e))
      | Some r ↦ λ found e.
          let c = file_chosen (Ok r) item (ap Ok (same_Some item (catalog_item r) e)) f body in
          let same : c.of ≡ r = sym (same_ok r c.of c.is) in
          ap (λ (g : FileRecord). g.id) (sym c.own_file ∙ ap (λ (q : Record). file_record_of q.1) same) ∙ own_id r (found_with catalog id r found).same (ap (λ (q : Record). is_dir q.1) (sym same) ∙ c.no_dir)
    ] refl is

    pub file_of_id : (f : FileRecord) → item.body ≡ File f → has_thread catalog id ≡ true → Ok (item.key, f) ≡ map_ok file_part (file_with_id mdb catalog id)
    file_of_id f body has = open_lock _ (if_asked chosen item item_is catalog f body (ap (has_thread catalog) (file_id_is f body) ∙ has))
