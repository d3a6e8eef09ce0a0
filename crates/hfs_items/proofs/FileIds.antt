-- The file of an ID, found by its thread.
use Rattle.std.proofs.Common.{◌≡◌, ℕ, Bool, true, false, cond, refl, sym, ◌∙◌, ap, Option, Some, None}
use Rattle.std.specs.Prelude.{is_some}
use Rattle.std.specs.Option.{option_map, option_map_or}
use Rattle.std.proofs.lemmas.Bool.{true≢false}
use Rattle.std.proofs.lemmas.Option.{none-some, same_Some}
use Rattle.hfs_fields.specs.Records.{is_dir, item_id, dir_record_of, file_record_of, thread_record_of}
use Rattle.hfs_fields.specs.declared.dir_record.DirRecord.{DirRecord}
use Rattle.hfs_fields.specs.declared.file_record.FileRecord.{FileRecord}
use Rattle.hfs_fields.specs.declared.thread_record.ThreadRecord.{ThreadRecord}
use Rattle.hfs_model.specs.declared.codes.TheConstants.{FILE_ID_NOT_FOUND, NOT_A_FILE}
use Rattle.hfs_model.specs.declared.reply.Value.TheVariants as value
use Rattle.hfs_model.specs.declared.reply.Reply.{Reply}
use Rattle.hfs_model.specs.Replies.{refusal, success}
use Rattle.hfs_catalog.specs.declared.item.ItemRecord.TheVariants.{Folder, File}
use Rattle.hfs_catalog.specs.declared.item.CatalogItem.{CatalogItem}
use Rattle.hfs_catalog.specs.Records.{Record, Catalog, item_with, has_thread, is_thread_of}
use Rattle.hfs_catalog.specs.Sound.{IsSoundCatalog}
use Rattle.hfs_catalog.specs.Lookups.{catalog_item, thread_of}
use Rattle.hfs_fields.proofs.MemberLemmas.{each_in}
use Rattle.hfs_items.specs.Told.{placed, resolved}
use Rattle.hfs_items.proofs.FoundLemmas.{is_some-find, is_some-option_map}
use Rattle.hfs_items.proofs.FolderLemmas.{found_with, folder_not_file}

-- whether the ID has a thread, by the look-up of it
pub thread_there : (catalog : Catalog) (id : ℕ) (found : Option ThreadRecord) → found ≡ option_map (λ (r : Record). thread_record_of r.1) (thread_of catalog id) → has_thread catalog id ≡ is_some found
thread_there catalog id found is = sym (is_some-find (is_thread_of id) catalog) ∙ sym (is_some-option_map (λ (r : Record). thread_record_of r.1) (thread_of catalog id)) ∙ ap is_some (sym is)

module _ (catalog : Catalog) (id : ℕ) where
  abbrev by_record : Option Record → Reply
  by_record o = option_map_or (placed catalog) o (refusal FILE_ID_NOT_FOUND)

  own_id : (r : Record) → item_id r.1 ≡ id → is_dir r.1 ≡ false → (file_record_of r.1).id ≡ id
  own_id r same file = sym (ap (λ b. cond b (dir_record_of r.1).id (file_record_of r.1).id) file) ∙ same

  abbrev file_placed : Record → Bool → Reply
  file_placed r has = cond has (success (value.Place r.0.parent r.0.name)) (refusal FILE_ID_NOT_FOUND)

  -- what has no thread is no folder, and no file that is found
  pub none_resolved : (next : ℕ) → IsSoundCatalog next catalog → has_thread catalog id ≡ false → resolved catalog id ≡ refusal FILE_ID_NOT_FOUND
  none_resolved next sound none = elim (item_with catalog id) as (λ (o : Option Record). item_with catalog id ≡ o → by_record o ≡ refusal FILE_ID_NOT_FOUND) [
    | None ↦ λ e. refl
    | Some r ↦ λ e.
        let with = found_with catalog id r e in
        elim (is_dir r.1) as (λ (b : Bool). is_dir r.1 ≡ b → cond b (refusal NOT_A_FILE) (file_placed r (has_thread catalog (file_record_of r.1).id)) ≡ refusal FILE_ID_NOT_FOUND) [
          | true ↦ λ folder.
              let has : has_thread catalog (item_id r.1) ≡ true = each_in _ catalog r sound.places.threaded with.there folder in
              absurd (true≢false (sym has ∙ ap (has_thread catalog) with.same ∙ none))
          | false ↦ λ file. ap (file_placed r) (ap (has_thread catalog) (own_id r with.same file) ∙ none)
        ] refl
  ] refl

  module _ (item : CatalogItem) (is : Some item ≡ option_map catalog_item (item_with catalog id)) where
    pub folder_resolved : (d : DirRecord) → item.body ≡ Folder d → resolved catalog id ≡ refusal NOT_A_FILE
    unfolding catalog_item
    folder_resolved d body = elim (item_with catalog id) as (λ (o : Option Record). Some item ≡ option_map catalog_item o → by_record o ≡ refusal NOT_A_FILE) [
      | None ↦ λ e. absurd (none-some item (sym e))
      | Some r ↦ λ e.
          let same = same_Some item (catalog_item r) e in
          elim (is_dir r.1) as (λ (b : Bool). cond b (Folder (dir_record_of r.1)) (File (file_record_of r.1)) ≡ Folder d → cond b (refusal NOT_A_FILE) (file_placed r (has_thread catalog (file_record_of r.1).id)) ≡ refusal NOT_A_FILE) [
            | true ↦ λ e'. refl
            | false ↦ λ e'. absurd (folder_not_file d _ (sym e'))
          ] (ap (λ (i : CatalogItem). i.body) (sym same) ∙ body)
    ] is

    pub file_resolved : (f : FileRecord) → item.body ≡ File f → has_thread catalog id ≡ true → resolved catalog id ≡ success (value.Place item.key.parent item.key.name)
    unfolding catalog_item
    file_resolved f body has = elim (item_with catalog id) as (λ (o : Option Record). item_with catalog id ≡ o → Some item ≡ option_map catalog_item o → by_record o ≡ success (value.Place item.key.parent item.key.name)) [
      | None ↦ λ found e. absurd (none-some item (sym e))
      | Some r ↦ λ found e.
          let same = same_Some item (catalog_item r) e in
          let with = found_with catalog id r found in
          elim (is_dir r.1) as (λ (b : Bool). is_dir r.1 ≡ b → cond b (Folder (dir_record_of r.1)) (File (file_record_of r.1)) ≡ File f → cond b (refusal NOT_A_FILE) (file_placed r (has_thread catalog (file_record_of r.1).id)) ≡ success (value.Place item.key.parent item.key.name)) [
            | true ↦ λ folder e'. absurd (folder_not_file _ f e')
            | false ↦ λ file e'.
                ap (file_placed r) (ap (has_thread catalog) (own_id r with.same file) ∙ has)
                ∙ ap (λ (i : CatalogItem). success (value.Place i.key.parent i.key.name)) (sym same)
          ] refl (ap (λ (i : CatalogItem). i.body) (sym same) ∙ body)
    ] refl is
