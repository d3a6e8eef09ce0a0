-- The record under a key, and the item of its parent and name.
use Rattle.std.proofs.Common.{◌≡◌, true, false, eqb, eqb-true, [], refl, sym, ap, ◌∙◌, eq-eqb, Option, Some, None}
use Rattle.std.specs.Ordering.{is_eq, nat_cmp, ordering_reverse}
use Rattle.std.specs.FinMap.{nat_cmp-IsAntisymmetric}
use Rattle.std.specs.declared.cmp.Ordering.TheVariants.{Equal}
use Rattle.std.proofs.lemmas.Bool.{true≢false, and_parts, and_from}
use Rattle.std.proofs.lemmas.Option.{none-some, same_Some}
use Rattle.hfs_fields.specs.declared.key.CatKey.{CatKey}
use Rattle.hfs_fields.specs.Keys.{cat_cmp, cat_cmp_total}
use Rattle.hfs_fields.specs.Order.{name_cmp, same_name}
use Rattle.hfs_fields.specs.Records.{is_item}
use Rattle.hfs_fields.proofs.KeyOrder.{both}
use Rattle.hfs_fields.specs.Members.{In}
use Rattle.hfs_fields.proofs.MemberLemmas.{found_in}
use Rattle.hfs_btree.specs.Pairs.{Rises, lookup}
use Rattle.hfs_catalog.specs.Records.{Record, Catalog, is_child_of}
use Rattle.hfs_catalog.specs.Lookups.{is_child_named, child_named}
use Rattle.hfs_catalog.proofs.Found.{only}
use Rattle.hfs_catalog.proofs.Lawful.{same_keys}
use Rattle.hfs_record_edits.specs.Finds.{record_at}
use Rattle.hfs_record_edits.proofs.EditedLemmas.{at_equal_key}
use Rattle.hfs_record_edits.proofs.FoundBodies.{no_record}

module _ (catalog : Catalog) (rises : Rises cat_cmp catalog) (key : CatKey) where
  tie : (r : Record) → is_child_named key.parent key.name r ≡ true → cat_cmp key r.0 ≡ Equal
  tie r named =
      let parts = and_parts (is_child_of key.parent r) (same_name r.0.name key.name) named in
      let parent = eqb-true r.0.parent key.parent (and_parts (is_item r.1) (eqb r.0.parent key.parent) parts.0).1 in
      cat_cmp_total.antisymm key r.0 ∙ ap ordering_reverse (same_keys r (key, []) parent parts.1)

  -- the item of the name is the record under the key
  pub child-record_at : (r : Record) → child_named catalog key.parent key.name ≡ Some r → (record_at key catalog ≡ Some r) × (is_item r.1 ≡ true)
  child-record_at r is =
      let found = found_in (is_child_named key.parent key.name) catalog r is in (
        at_equal_key cat_cmp cat_cmp_total key catalog r rises found.0 (tie r found.1),
        (and_parts (is_item r.1) (eqb r.0.parent key.parent) (and_parts (is_child_of key.parent r) (same_name r.0.name key.name) found.1).0).0,
      )

  -- the record under the key is the item of the name, where it is an item's
  pub record_at-child : (r : Record) → In r catalog → cat_cmp key r.0 ≡ Equal → is_item r.1 ≡ true → child_named catalog key.parent key.name ≡ Some r
  record_at-child r there equal item =
      let back : cat_cmp r.0 key ≡ Equal = cat_cmp_total.antisymm r.0 key ∙ ap ordering_reverse equal in
      let parts = both (nat_cmp r.0.parent key.parent) (name_cmp r.0.name key.name) back in
      let parent = eq-eqb r.0.parent key.parent (nat_cmp-IsAntisymmetric r.0.parent key.parent parts.0) in
      only catalog key.parent key.name r rises there (and_from (is_child_of key.parent r) (same_name r.0.name key.name) (and_from (is_item r.1) (eqb r.0.parent key.parent) item parent) (ap is_eq parts.1))

  -- there is no such item where another record stands under the key
  pub other-child : (r : Record) → In r catalog → cat_cmp key r.0 ≡ Equal → is_item r.1 ≡ false → child_named catalog key.parent key.name ≡ None
  other-child r there equal other = by (child_named catalog key.parent key.name) refl
    where
      by : (o : Option Record) → child_named catalog key.parent key.name ≡ o → o ≡ None
      by None e = refl
      by (Some q) e =
          let own = child-record_at q e in
          let same : q ≡ r = same_Some q r (sym own.0 ∙ at_equal_key cat_cmp cat_cmp_total key catalog r rises there equal) in
          absurd (true≢false (sym own.1 ∙ ap (λ (p : Record). is_item p.1) same ∙ other))

  -- and where none does
  pub no-child : lookup cat_cmp key catalog ≡ None → child_named catalog key.parent key.name ≡ None
  no-child none = by (child_named catalog key.parent key.name) refl
    where
      by : (o : Option Record) → child_named catalog key.parent key.name ≡ o → o ≡ None
      by None e = refl
      by (Some q) e = absurd (none-some q (sym (no_record key catalog none) ∙ (child-record_at q e).0))
