-- An item that comes under another key: what the edit says of the records.
use Rattle.std.proofs.Common.{◌≡◌, ℕ, [], ◌∷◌, refl, sym, ◌∙◌, ap, subst, inl, inr, Option, Some}
use Rattle.std.specs.Prelude.{IsTrue}
use Rattle.std.specs.Option.{option_map}
use Rattle.hfs_fields.specs.declared.key.CatKey.{CatKey}
use Rattle.hfs_fields.specs.Names.{is_item_name}
use Rattle.hfs_fields.specs.RecordForms.{IsThreadRecordValue}
use Rattle.hfs_btree.specs.Tree.{Store}
use Rattle.hfs_catalog.specs.Records.{Record, item_with}
use Rattle.hfs_catalog.specs.Lookups.{first_key, thread_of}
use Rattle.hfs_catalog.specs.Sound.{IsSoundCatalog}
use Rattle.hfs_catalog.specs.Tree.{catalog_of}
use Rattle.hfs_record_edits.specs.Bodies.{turned_record, turned}
use Rattle.hfs_record_edits.specs.Finds.{record_at}
use Rattle.hfs_record_edits.proofs.FindLemmas.{own_record}
use Rattle.hfs_record_edits.specs.ItemEdits.{Rekeyed, with_key}
use Rattle.hfs_record_edits.specs.ItemEdits as edits
use Rattle.hfs_record_edits.specs.Swaps.{Swaps}
use Rattle.hfs_check.specs.Parts.{Blocks, catalog_nodes, catalog_in}
use Rattle.hfs_record_edits.proofs.ChangesLaws.{led_to, IsLedValue, ItemRekeyed}
use Rattle.hfs_call_patches.specs.CatalogPatch.{KeepsNamed}
use Rattle.hfs_call_patches.specs.declared.rekeying.Rekeying.{Rekeying}
use Rattle.hfs_items.proofs.FolderLemmas.{found_with}

-- the keys that it gives have names that an index may have
pub rekeyed_named : (item : Rekeying) (old new : Store) → IsTrue (is_item_name item.to.name) → edits.ItemRekeyed item.id item.from item.to old new → KeepsNamed old new
rekeyed_named item old new named h = record { given = first_key item.id ∷ item.to ∷ []; keeps = h.keeps; named = (inl refl, (inr named, tt)) }

-- ---- the records of a sound catalog

module _ (old : Blocks) (next : ℕ) (sound : IsSoundCatalog next (catalog_in old)) (r : Record) (id : ℕ) (was : item_with (catalog_in old) id ≡ Some r) (from to : CatKey) (own_key : r.0 ≡ from) where
  record_is : record_at from (catalog_in old) ≡ Some r
  record_is =
      ap (λ (key : CatKey). record_at key (catalog_in old)) (sym own_key)
      ∙ own_record (catalog_in old) r sound.places.rises (found_with (catalog_in old) id r was).there

  module _ (item_id : ℕ) (own_id : id ≡ item_id) (key : CatKey) (new_key : key ≡ to) (new : Store) (h : edits.ItemRekeyed item_id from to (catalog_nodes old) new) where
    pub item_moved : ItemRekeyed r (key, r.1) (catalog_in old) h.between
    unfolding catalog_in
    item_moved = subst (λ (p : Option Record × CatKey). Rekeyed p.0 (option_map (with_key p.1) p.0) (catalog_of (catalog_nodes old)) h.between) (λ i. (record_is i, sym new_key i)) h.item_moved

    pub thread_set : Swaps (thread_of (catalog_in old) id) (led_to id key (thread_of (catalog_in old) id)) h.between (catalog_of new)
    unfolding catalog_in
    thread_set =
        let its = thread_of (catalog_of (catalog_nodes old)) in
        subst (λ (p : ℕ × CatKey). Swaps (its p.0) (option_map (turned_record p.0 p.1) (its p.0)) h.between (catalog_of new)) (λ i. (sym own_id i, sym new_key i)) h.thread_set

    pub thread_value : IsLedValue key (thread_of (catalog_in old) id)
    unfolding catalog_in
    thread_value =
        let its = thread_of (catalog_of (catalog_nodes old)) in
        subst (λ (p : ℕ × CatKey). (t : Record) → its p.0 ≡ Some t → IsThreadRecordValue (turned p.1 t)) (λ i. (sym own_id i, sym new_key i)) h.value
