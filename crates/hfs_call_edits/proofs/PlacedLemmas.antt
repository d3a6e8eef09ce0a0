-- What stands at the place of a key in a catalog's nodes is the item of that name, if it is an item's record.
use Rattle.std.proofs.Common.{◌≡◌, Bool, true, false, cond, ◌∷◌, inl, refl, sym, ap, subst, Some, None}
use Rattle.std.specs.Option.{option_map}
use Rattle.std.proofs.lemmas.Option.{none-some, same_Some}
use Rattle.hfs_fields.proofs.MemberLemmas.{in-right}
use Rattle.hfs_fields.specs.declared.key.CatKey.{CatKey}
use Rattle.hfs_fields.specs.Keys.{cat_cmp_total}
use Rattle.hfs_fields.specs.Records.{is_item}
use Rattle.hfs_fields.specs.Members.{In}
use Rattle.hfs_btree.specs.Tree.{Store, pair_of}
use Rattle.hfs_btree.specs.Header.{body_at}
use Rattle.hfs_btree_edits.specs.Entries.{IsPlaceOf}
use Rattle.hfs_btree_edits.specs.Entries as entries
use Rattle.hfs_btree_edits.specs.declared.seeking.RecordPlace.{RecordPlace}
use Rattle.hfs_btree_edits.proofs.PlaceLemmas.{own-place, content-between}
use Rattle.hfs_catalog.specs.declared.item.CatalogItem.{CatalogItem}
use Rattle.hfs_catalog.specs.Records.{Record, Catalog}
use Rattle.hfs_catalog.specs.Lookups.{catalog_item, item_at, item_named}
use Rattle.hfs_catalog.specs.Tree.{IsCatalogTree, cat_keys, catalog_of}
use Rattle.hfs_record_edits.proofs.NamedLemmas.{record_at-child, other-child, no-child}

module _ (nodes : Store) (tree : IsCatalogTree nodes) (key : CatKey) where
  pub none-named : body_at cat_keys nodes key ≡ None → None ≡ item_named (catalog_of nodes) key.parent key.name
  none-named none = sym (ap (option_map catalog_item) (no-child (catalog_of nodes) tree.ordered.rises key none))

  module _ (place : RecordPlace) (h : IsPlaceOf cat_keys nodes key place) where
    abbrev pub r : Record
    r = pair_of cat_keys (entries.record_at place.bytes place.at)

    there : In r (catalog_of nodes)
    there =
        let between = content-between cat_keys cat_cmp_total nodes key place h tree in
        subst (λ (c : Catalog). In r c) (sym between.split) (in-right r between.before (r ∷ between.behind) (inl refl))

    pub item-named : item_at (Some r) ≡ item_named (catalog_of nodes) key.parent key.name
    item-named = elim (is_item r.1) as (λ (b : Bool). is_item r.1 ≡ b → cond b (Some (catalog_item r)) None ≡ item_named (catalog_of nodes) key.parent key.name) [
      | true ↦ λ e. sym (ap (option_map catalog_item) (record_at-child (catalog_of nodes) tree.ordered.rises key r there h.equal e))
      | false ↦ λ e. sym (ap (option_map catalog_item) (other-child (catalog_of nodes) tree.ordered.rises key r there h.equal e))
    ] refl

    pub item-placed : (item : CatalogItem) → item_at (Some r) ≡ Some item → IsPlaceOf cat_keys nodes item.key place
    unfolding catalog_item
    item-placed item is =
        subst (λ (k : CatKey). IsPlaceOf cat_keys nodes k place) (by (is_item r.1) is) (own-place cat_keys cat_cmp_total nodes key place h)
      where
        by : (b : Bool) → cond b (Some (catalog_item r)) None ≡ Some item → r.0 ≡ item.key
        by true e = ap (λ (i : CatalogItem). i.key) (same_Some (catalog_item r) item e)
        by false e = absurd (none-some item e)
