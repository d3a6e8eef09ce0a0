-- What is told of a folder's children, by the items that are found.
use Rattle.std.proofs.Common.{◌≡◌, ℕ, ◌-◌, ◌≤◌, Bool, true, false, cond, List, [], ◌∷◌, length, map, take, refl, sym, ◌∙◌, ap, Option, Some, None}
use Rattle.std.specs.Prelude.{slice_get, not}
use Rattle.std.specs.Option.{option_map, option_map_or}
use Rattle.std.proofs.lemmas.Bool.{ne_eqb}
use Rattle.std.proofs.lemmas.List.{take_all}
use Rattle.std.proofs.lemmas.Option.{slice_get-map}
use Rattle.hfs_model.specs.declared.reply.Info.{Info}
use Rattle.hfs_model.specs.declared.reply.Value.TheVariants as value
use Rattle.hfs_model.specs.declared.reply.Reply.{Reply}
use Rattle.hfs_model.specs.declared.codes.TheConstants.{NOT_FOUND, NOT_A_FOLDER, PARAMETER}
use Rattle.hfs_model.specs.Replies.{refusal, success}
use Rattle.hfs_catalog.specs.declared.item.CatalogItem.{CatalogItem}
use Rattle.hfs_catalog.specs.Records.{Record, Catalog}
use Rattle.hfs_catalog.specs.Lookups.{catalog_item, children_of}
use Rattle.hfs_fields.specs.declared.key.CatKey.{CatKey}
use Rattle.hfs_fields.specs.declared.dir_record.DirRecord.{DirRecord}
use Rattle.hfs_fields.specs.declared.file_record.FileRecord.{FileRecord}
use Rattle.hfs_items.specs.Told.{folder_info, file_info, item_info, told, child_infos, is_folder, indexed}
use Rattle.hfs_items.proofs.ToldLemmas.{listed}
use Rattle.hfs_items.specs.declared.reply.Detail.{Detail}
use Rattle.hfs_items.specs.declared.reply.Detail.TheVariants as detail
use Rattle.hfs_items.specs.Brief.{without_id, without_ids, in_detail, listed_in}

map-told : (detail : Detail) (catalog : Catalog) (rs : List Record) → map (λ (item : CatalogItem). in_detail detail (item_info catalog item)) (map catalog_item rs) ≡ map (in_detail detail) (map (told catalog) rs)
map-told detail catalog [] = refl
map-told detail catalog (r ∷ rs) = ap (λ (l : List Info). in_detail detail (told catalog r) ∷ l) (map-told detail catalog rs)

-- what is told in brief tells of no thread
pub folder-brief : (key : CatKey) (folder : DirRecord) → folder_info key folder ≡ without_id (folder_info key folder)
unfolding folder_info
folder-brief key folder = refl

pub file-brief : (has_thread : Bool) (key : CatKey) (file : FileRecord) → file_info false key file ≡ without_id (file_info has_thread key file)
unfolding file_info
file-brief has_thread key file = refl

pub folder-in_detail : (detail : Detail) (key : CatKey) (folder : DirRecord) → folder_info key folder ≡ in_detail detail (folder_info key folder)
folder-in_detail detail.Full key folder = refl
folder-in_detail detail.Brief key folder = folder-brief key folder

map-full : (infos : List Info) → map (in_detail detail.Full) infos ≡ infos
map-full [] = refl
map-full (info ∷ infos) = ap (λ (l : List Info). info ∷ l) (map-full infos)

module _ (catalog : Catalog) (dir : ℕ) (items : List CatalogItem) (are : items ≡ map catalog_item (children_of catalog dir)) where
  -- of all items, the first of which are all
  pub all_infos : (detail : Detail) (n : ℕ) → length items ≤ n → map (λ (item : CatalogItem). in_detail detail (item_info catalog item)) (take n items) ≡ map (in_detail detail) (child_infos catalog dir)
  all_infos detail n all = ap (map (λ (item : CatalogItem). in_detail detail (item_info catalog item))) (take_all n items all ∙ are) ∙ map-told detail catalog (children_of catalog dir)

  infos_are : map (item_info catalog) items ≡ child_infos catalog dir
  infos_are = ap (map (item_info catalog)) are ∙ map-told detail.Full catalog (children_of catalog dir) ∙ map-full (child_infos catalog dir)

  abbrev reply_at : ℕ → Reply
  reply_at i = option_map_or (λ (info : Info). success (value.One info)) (slice_get (child_infos catalog dir) i) (refusal NOT_FOUND)

  module _ (index : ℕ) (some : index ≡ 0 → ⊥) (folder : is_folder catalog dir ≡ true) where
    indexed_is : indexed catalog dir index ≡ reply_at (index - 1)
    indexed_is =
        ap (λ b. cond b (refusal PARAMETER) (cond (not (is_folder catalog dir)) (refusal NOT_A_FOLDER) (reply_at (index - 1)))) (ne_eqb index 0 some)
        ∙ ap (λ b. cond (not b) (refusal NOT_A_FOLDER) (reply_at (index - 1))) folder

    pub indexed_at : (found : Option CatalogItem) → found ≡ slice_get items (index - 1)
        → indexed catalog dir index ≡ option_map_or (λ (item : CatalogItem). success (value.One (item_info catalog item))) found (refusal NOT_FOUND)
    indexed_at found is =
        indexed_is
        ∙ ap (λ o. option_map_or (λ (info : Info). success (value.One info)) o (refusal NOT_FOUND))
        (ap (λ l. slice_get l (index - 1)) (sym infos_are) ∙ slice_get-map (item_info catalog) items (index - 1) ∙ ap (option_map (item_info catalog)) (sym is))
        ∙ both found
      where
        both : (o : Option CatalogItem) → option_map_or (λ (info : Info). success (value.One info)) (option_map (item_info catalog) o) (refusal NOT_FOUND)
            ≡ option_map_or (λ (item : CatalogItem). success (value.One (item_info catalog item))) o (refusal NOT_FOUND)
        both None = refl
        both (Some item) = refl

-- all that is told of a folder's children
pub listed_in-full : (catalog : Catalog) (dir : ℕ) → listed_in detail.Full catalog dir ≡ listed catalog dir
listed_in-full catalog dir = ap (λ (infos : List Info). cond (not (is_folder catalog dir)) (refusal NOT_A_FOLDER) (success (value.Many infos))) (map-full (child_infos catalog dir))

-- and what their own records tell
pub listed_in-brief : (catalog : Catalog) (dir : ℕ) → listed_in detail.Brief catalog dir ≡ without_ids (listed catalog dir)
listed_in-brief catalog dir = elim (is_folder catalog dir) as (λ (b : Bool). cond (not b) (refusal NOT_A_FOLDER) (success (value.Many (map without_id (child_infos catalog dir))))
    ≡ without_ids (cond (not b) (refusal NOT_A_FOLDER) (success (value.Many (child_infos catalog dir))))) [ true ↦ refl | false ↦ refl ]
