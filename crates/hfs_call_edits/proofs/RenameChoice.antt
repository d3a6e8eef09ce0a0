-- The item that Rename chooses, by the records of the catalog's nodes.
use Rattle.std.proofs.Common.{◌≡◌, ℕ, ℤ, Bool, true, false, cond, eqb, List, refl, sym, ◌∙◌, ap, Ok, Err, Result, Option, Some, None}
use Rattle.std.specs.Prelude.{not, IsTrue}
use Rattle.std.specs.Option.{option_map, option_map_or}
use Rattle.std.proofs.lemmas.Bool.{true≢false}
use Rattle.std.proofs.lemmas.Option.{none-some, same_Some}
use Rattle.hfs_fields.specs.Records.{is_dir, item_id, dir_record_of, file_record_of}
use Rattle.hfs_model.specs.declared.codes.TheConstants.{BAD_NAME, DUPLICATE}
use Rattle.hfs_model.specs.Choices.{and_then}
use Rattle.hfs_catalog.specs.declared.item.ItemRecord.TheVariants.{Folder, File}
use Rattle.hfs_catalog.specs.declared.item.CatalogItem.{CatalogItem}
use Rattle.hfs_catalog.specs.Records.{Record, Catalog}
use Rattle.hfs_catalog.specs.Lookups.{catalog_item}
use Rattle.hfs_call_patches.specs.declared.rekeying.Rekeying.{Rekeying}
use Rattle.hfs_call_edits.specs.Choosing.{map_ok, unless_code}
use Rattle.hfs_call_edits.specs.ChoosingRenaming.{own_body_id, own_id, is_taken, unless_taken, renaming}
use Rattle.hfs_record_edits.proofs.Chosen.{same_ok}
use Rattle.hfs_model.proofs.KeepsCalls.{err_is_ok as err_ok}

-- the item of a record has its ID
pub own_is : (item : CatalogItem) (r : Record) → item ≡ catalog_item r → own_id item ≡ item_id r.1
unfolding catalog_item
own_is item r same = ap own_id same ∙ elim (is_dir r.1) as (λ (b : Bool). own_body_id (cond b (Folder (dir_record_of r.1)) (File (file_record_of r.1))) ≡ cond b (dir_record_of r.1).id (file_record_of r.1).id) [
  | true ↦ refl
  | false ↦ refl
]

pub taken_some : (o : Option Record) (item : CatalogItem) (own id : ℕ) → Some item ≡ option_map catalog_item o → own ≡ own_id item
    → not (eqb own id) ≡ option_map_or (λ (r : Record). not (eqb (item_id r.1) id)) o false
taken_some None item own id is e = absurd (none-some item (sym is))
taken_some (Some r) item own id is e = ap (λ (n : ℕ). not (eqb n id)) (e ∙ own_is item r (same_Some item (catalog_item r) is))

opened : (lock : Option ℤ) → None ≡ lock → (named : Bool) → IsTrue named → (x : Result Record ℤ) → unless_code lock (cond (not named) (Err BAD_NAME) x) ≡ x
opened None e true is x = refl
opened None e false is x = absurd (true≢false (sym is))
opened (Some code) e named is x = absurd (none-some code e)

pub key_is : (item : CatalogItem) (r : Record) → item ≡ catalog_item r → item.key ≡ r.0
unfolding catalog_item
key_is item r same = ap (λ (x : CatalogItem). x.key) same

-- what is chosen of the item that may be set
module _ (catalog : Catalog) (dir : ℕ) (new new_name : List ℕ) (new_is : new ≡ new_name) (item : CatalogItem) (id : ℕ) (id_is : id ≡ own_id item) where
  abbrev one : Rekeying
  one = record { id = id; from = item.key; to = record { parent = item.key.parent; name = new } }

  one_is : (r : Record) → item ≡ catalog_item r → one ≡ renaming new_name r
  one_is r same =
      let key = key_is item r same in
      let own = id_is ∙ own_is item r same in
      λ i. record { id = own i; from = key i; to = record { parent = (key i).parent; name = new_is i } }

  renamed_one : (r : Record) → item ≡ catalog_item r → (b : Bool) → cond b (Err DUPLICATE) (Ok one) ≡ map_ok (renaming new_name) (cond b (Err DUPLICATE) (Ok r))
  renamed_one r same true = refl
  renamed_one r same false = ap Ok (one_is r same)

  pub renamed : (lock : Option ℤ) → None ≡ lock → (named : Bool) → IsTrue named → (chosen : Result Record ℤ) → Ok item ≡ map_ok catalog_item chosen → (taken : Bool) → is_taken catalog dir new id ≡ taken
      → cond taken (Err DUPLICATE) (Ok one) ≡ map_ok (renaming new_name) (unless_code lock (cond (not named) (Err BAD_NAME) (and_then chosen (unless_taken catalog dir new_name))))
  renamed lock free named is (Ok r) chosen taken taken_is =
      let same = same_ok item (catalog_item r) chosen in
      let own = id_is ∙ own_is item r same in
      let path : taken ≡ is_taken catalog dir new_name (item_id r.1) = sym taken_is ∙ (λ i. is_taken catalog dir (new_is i) (own i)) in
      ap (λ (b : Bool). cond b (Err DUPLICATE) (Ok one)) path ∙ renamed_one r same (is_taken catalog dir new_name (item_id r.1))
      ∙ sym (ap (map_ok (renaming new_name)) (opened lock free named is (unless_taken catalog dir new_name r)))
  renamed lock free named is (Err code) chosen taken taken_is = absurd (err_ok code item (sym chosen))
