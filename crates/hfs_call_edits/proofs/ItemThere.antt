-- An item of a sound catalog stands under its key.
use Rattle.std.proofs.Common.{◌≡◌, ◌∙◌, ℕ, true, sym, subst, Some}
use Rattle.hfs_fields.specs.declared.key.CatKey.{CatKey}
use Rattle.hfs_fields.specs.Keys.{cat_cmp}
use Rattle.hfs_fields.specs.Records.{is_item, item_id}
use Rattle.hfs_btree.specs.Pairs.{lookup}
use Rattle.hfs_catalog.specs.Records.{Record, item_with}
use Rattle.hfs_catalog.specs.Sound.{IsSoundCatalog}
use Rattle.hfs_catalog.specs.Tree.{catalog_of}
use Rattle.hfs_record_edits.specs.Bodies.{IfBody}
use Rattle.hfs_check.specs.Parts.{Blocks, catalog_nodes, catalog_in}
use Rattle.hfs_items.proofs.FolderLemmas.{found_with}

module _ (old : Blocks) (next : ℕ) (sound : IsSoundCatalog next (catalog_in old)) (r : Record) (id : ℕ) (was : item_with (catalog_in old) id ≡ Some r) (from to : CatKey) (own_key : r.0 ≡ from) where
  -- the item's body stands under its key
  pub item_there : lookup cat_cmp r.0 (catalog_in old) ≡ Some r.1 → IfBody (λ body. is_item body ≡ true) (lookup cat_cmp from (catalog_of (catalog_nodes old)))
  unfolding catalog_in
  item_there stands =
      subst (λ (key : CatKey). IfBody (λ body. is_item body ≡ true) (lookup cat_cmp key (catalog_of (catalog_nodes old)))) own_key
      (subst (IfBody (λ body. is_item body ≡ true)) (sym stands) (found_with (catalog_of (catalog_nodes old)) id r was).item)

  -- and has its ID
  pub own_there : (own : ℕ) → id ≡ own → lookup cat_cmp r.0 (catalog_in old) ≡ Some r.1 → IfBody (λ body. item_id body ≡ own) (lookup cat_cmp from (catalog_of (catalog_nodes old)))
  unfolding catalog_in
  own_there own is stands =
      subst (λ (key : CatKey). IfBody (λ body. item_id body ≡ own) (lookup cat_cmp key (catalog_of (catalog_nodes old)))) own_key
      (subst (IfBody (λ body. item_id body ≡ own)) (sym stands) ((found_with (catalog_of (catalog_nodes old)) id r was).same ∙ is))
