-- The names in the keys of a catalog's index nodes, after edits of its records.
use Rattle.std.proofs.Common.{◌≡◌, ⊎_elim, ℕ, zero, suc, List, [], ◌∷◌, ◌++◌, map, inl, inr, sym, subst, ap, arith, Bool, cond}
use Rattle.std.proofs.lemmas.Bool.{ne_eqb}
use Rattle.std.specs.List.{flat_map}
use Rattle.hfs_btree.specs.declared.key.Key.{Ghosts}
use Rattle.hfs_btree.specs.Header.{depth_of, root_level, tree_content, tree_turn}
use Rattle.hfs_btree.specs.Tree.{Store, Spot, records_in, children, pair_of, pairs, first_of, spots, turn, last_level, key_at}
use Rattle.hfs_btree_checks.specs.Order.{index_keys, index_keys_at}
use Rattle.hfs_btree_edits.specs.KeptKeys.{EachKey}
use Rattle.hfs_fields.specs.Each.{Each}
use Rattle.hfs_fields.proofs.ElementLemmas.{each-append, each-left, each-right, each-map, each-unmap, each-mono, each-both}
use Rattle.hfs_catalog.specs.Records.{Record, Catalog}
use Rattle.hfs_catalog.specs.Sound.{IsRecord, IsIndexKeyName, AreNamesSound}
use Rattle.hfs_catalog.specs.Tree.{cat_keys, catalog_of}
use Rattle.hfs_record_edits.proofs.KeepLemmas.{given_keys_hold}
use Rattle.hfs_call_patches.specs.CatalogPatch.{KeepsNamed}

module _ {K : Type 0} (g : Ghosts K) (nodes : Store) (P : K → Type 0) where
  abbrev AtSpot : Spot → Type 0
  AtSpot spot = Each (λ entry. P (key_at g spot.above entry)) (records_in nodes spot.n)

  -- ---- keys of all nodes are those of index nodes and of leaves

  leaf_spots : (left : ℕ) (ns : List ℕ) → Each (λ (p : K × List ℕ). P p.0) (flat_map (pairs g nodes) ns) → Each AtSpot (spots zero left ns)
  leaf_spots left [] h = tt
  leaf_spots left (n ∷ ns) h = (
    each-unmap (λ (p : K × List ℕ). P p.0) (pair_of g) (records_in nodes n) (each-left (λ (p : K × List ℕ). P p.0) (pairs g nodes n) (flat_map (pairs g nodes) ns) h),
    leaf_spots n ns (each-right (λ (p : K × List ℕ). P p.0) (pairs g nodes n) (flat_map (pairs g nodes) ns) h),
  )

  keys_above : (k left n right : ℕ) → index_keys_at g nodes (record { left = left; n = n; right = right; above = suc k }) ≡ map g.index_key (records_in nodes n)
  keys_above k left n right = ap (λ (b : Bool). cond b [] (map g.index_key (records_in nodes n))) (ne_eqb (suc k) 0 (λ e. omega (arith, e)))

  index_spots : (ss : List Spot) (k left : ℕ) (ns : List ℕ) → Each P (flat_map (index_keys_at g nodes) (spots (suc k) left ns ++ ss)) → Each AtSpot (spots (suc k) left ns) × Each P (flat_map (index_keys_at g nodes) ss)
  index_spots ss k left [] h = (tt, h)
  index_spots ss k left (n ∷ ns) h =
      let behind = flat_map (index_keys_at g nodes) (spots (suc k) n ns ++ ss) in
      let split : Each P (map g.index_key (records_in nodes n) ++ behind) = subst (λ (l : List K). Each P (l ++ behind)) (keys_above k left n (first_of ns)) h in
      let rest = index_spots ss k n ns (each-right P (map g.index_key (records_in nodes n)) behind split) in
      ((each-unmap P g.index_key (records_in nodes n) (each-left P (map g.index_key (records_in nodes n)) behind split), rest.0), rest.1)

  turn_keys : (d : ℕ) (ns : List ℕ) → Each P (flat_map (index_keys_at g nodes) (turn g nodes d ns)) → Each (λ (p : K × List ℕ). P p.0) (flat_map (pairs g nodes) (last_level g nodes d ns)) → Each AtSpot (turn g nodes d ns)
  turn_keys zero ns h l = tt
  turn_keys (suc zero) ns h l = each-append AtSpot (spots zero 0 ns) [] (leaf_spots 0 ns l) tt
  turn_keys (suc (suc k)) ns h l =
      let both = index_spots (turn g nodes (suc k) (flat_map (children g nodes) ns)) k 0 ns h in
      each-append AtSpot (spots (suc k) 0 ns) (turn g nodes (suc k) (flat_map (children g nodes) ns)) both.0 (turn_keys (suc k) (flat_map (children g nodes) ns) both.1 l)

  pub each_key : Each P (index_keys g nodes) → Each (λ (p : K × List ℕ). P p.0) (tree_content g nodes) → EachKey g P nodes
  unfolding index_keys
  each_key h l = turn_keys (depth_of nodes) (root_level nodes) h l

  -- ---- and so of index nodes

  at_spot : (left n right above : ℕ) → AtSpot (record { left = left; n = n; right = right; above = above }) → Each P (index_keys_at g nodes (record { left = left; n = n; right = right; above = above }))
  at_spot left n right zero e = tt
  at_spot left n right (suc k) e = subst (λ (l : List K). Each P l) (sym (keys_above k left n right)) (each-map P g.index_key (records_in nodes n) e)

  at_spots : (ss : List Spot) → Each AtSpot ss → Each P (flat_map (index_keys_at g nodes) ss)
  at_spots [] h = tt
  at_spots (s ∷ ss) h = each-append P (index_keys_at g nodes s) (flat_map (index_keys_at g nodes) ss) (at_spot s.left s.n s.right s.above h.0) (at_spots ss h.1)

  pub index_each : EachKey g P nodes → Each P (index_keys g nodes)
  unfolding index_keys
  index_each h = at_spots (tree_turn g nodes) h

-- ---- names

leaf_names : (catalog : Catalog) → Each IsRecord catalog → AreNamesSound catalog → Each (λ (p : Record). IsIndexKeyName p.0) catalog
leaf_names catalog records names =
    each-mono _ _ catalog
    (λ r both. ⊎_elim (λ item. inr (both.1 item.0)) (λ thread. inl thread.1) both.0)
    (each-both IsRecord _ catalog records names.items)

-- records came, went, or were put in place of others
pub kept_names : (old new : Store) → KeepsNamed old new → Each IsRecord (catalog_of old) → AreNamesSound (catalog_of old)
    → Each IsIndexKeyName (index_keys cat_keys old) → Each IsIndexKeyName (index_keys cat_keys new)
kept_names old new keeps records names index =
    index_each cat_keys new IsIndexKeyName
    (given_keys_hold keeps.given old new keeps.keeps IsIndexKeyName keeps.named (each_key cat_keys old IsIndexKeyName index (leaf_names (catalog_of old) records names)))
