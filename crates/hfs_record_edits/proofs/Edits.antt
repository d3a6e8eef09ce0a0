-- What the three edits of a tree are of the catalog's records.
use Rattle.std.proofs.Common.{◌≡◌, ℕ, List, [], ◌∷◌, sym, ap, ◌∙◌, subst, refl, Option, Some, None}
use Rattle.std.specs.Option.{option_map}
use Rattle.hfs_fields.specs.declared.key.CatKey.{CatKey}
use Rattle.hfs_fields.specs.Keys.{cat_cmp}
use Rattle.hfs_btree.specs.Tree.{Store}
use Rattle.hfs_btree.specs.Pairs.{lookup}
use Rattle.hfs_btree_edits.specs.Conditions.{IsThere}
use Rattle.hfs_btree_edits.specs.Edits.{without_pair, with_replaced, HasInserted, HasRemoved, HasReplaced}
use Rattle.hfs_btree_edits.proofs.FreeAfterLemmas.{free-after, free-same_depth}
use Rattle.hfs_catalog.specs.Records.{Record, Catalog}
use Rattle.hfs_catalog.specs.Tree.{cat_keys, IsCatalogTree, catalog_of}
use Rattle.hfs_record_edits.specs.Swaps.{Swaps}
use Rattle.hfs_record_edits.proofs.EditedLemmas.{with_pair-swaps, without_pair-swaps, with_replaced-swaps}
use Rattle.hfs_record_edits.proofs.KeepLemmas.{keeps_tree, key_given}
use Rattle.hfs_record_edits.specs.Finds.{record_at}
use Rattle.hfs_record_edits.proofs.FindLemmas.{body_at}
use Rattle.hfs_record_edits.specs.RecordEdits.{RecordCame, RecordWent, RecordSet}

-- the record whose body is there
found_record : (key : CatKey) (catalog : Catalog) → IsThere (lookup cat_cmp key catalog) → (r : Record) × (record_at key catalog ≡ Some r)
found_record key catalog there = by (record_at key catalog) refl
  where
    by : (o : Option Record) → record_at key catalog ≡ o → (r : Record) × (record_at key catalog ≡ Some r)
    by None e = absurd (subst IsThere (sym (body_at key catalog) ∙ ap (λ (o : Option Record). option_map (λ (r : Record). r.1) o) e) there)
    by (Some r) e = (r, e)

module _ (old new : Store) (sound : IsCatalogTree old) where
  pub came : (key : CatKey) (body : List ℕ) → HasInserted cat_keys key body old new → RecordCame (key, body) old new
  came key body h = record {
    keeps = keeps_tree (key ∷ []) old new sound h.keeps (key_given old new key h.keys);
    swap = subst (Swaps None (Some (key, body)) (catalog_of old)) (sym h.content) (with_pair-swaps cat_cmp key body (catalog_of old));
    took = record {
      most = free-after cat_keys old new key body h;
      same = free-same_depth cat_keys old new key body h;
      least_depth = h.depth.least;
      most_depth = h.depth.most;
    };
  }

  pub went : (key : CatKey) → IsThere (lookup cat_cmp key (catalog_of old)) → HasRemoved cat_keys key old new → RecordWent (record_at key (catalog_of old)) old new
  went key there h = record {
    keeps = keeps_tree [] old new sound h.keeps h.keys;
    swap = subst (Swaps (record_at key (catalog_of old)) None (catalog_of old)) (sym h.content) swaps;
    took = record { free = h.free; depth = h.depth };
  }
    where
      swaps : Swaps (record_at key (catalog_of old)) None (catalog_of old) (without_pair cat_cmp key (catalog_of old))
      swaps =
          let found = found_record key (catalog_of old) there in
          subst (λ (o : Option Record). Swaps o None (catalog_of old) (without_pair cat_cmp key (catalog_of old))) (sym found.1) (without_pair-swaps cat_cmp key [] (catalog_of old) found.0 found.1)

  pub set : (key : CatKey) (body : List ℕ) → IsThere (lookup cat_cmp key (catalog_of old)) → HasReplaced cat_keys key body old new → RecordSet (key, body) old new
  set key body there h = record {
    keeps = keeps_tree (key ∷ []) old new sound h.keeps (key_given old new key h.keys);
    swap = subst (Swaps (record_at key (catalog_of old)) (Some (key, body)) (catalog_of old)) (sym h.content) swaps;
    content = h.content;
    free = h.free;
    depth = h.depth;
  }
    where
      swaps : Swaps (record_at key (catalog_of old)) (Some (key, body)) (catalog_of old) (with_replaced cat_cmp key body (catalog_of old))
      swaps =
          let found = found_record key (catalog_of old) there in
          subst (λ (o : Option Record). Swaps o (Some (key, body)) (catalog_of old) (with_replaced cat_cmp key body (catalog_of old))) (sym found.1) (with_replaced-swaps cat_cmp key body (catalog_of old) found.0 found.1)
