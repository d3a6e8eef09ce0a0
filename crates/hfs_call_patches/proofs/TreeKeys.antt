-- What holds of each key of a tree holds of the keys of its records.
use Rattle.std.proofs.Common.{ℕ, zero, suc, List, [], ◌∷◌}
use Rattle.std.specs.List.{flat_map}
use Rattle.hfs_btree.specs.declared.key.Key.{Ghosts}
use Rattle.hfs_btree.specs.Header.{depth_of, root_level, tree_content}
use Rattle.hfs_btree.specs.Tree.{Store, Spot, records_in, children, pair_of, pairs, spots, turn, last_level, key_at}
use Rattle.hfs_btree_edits.specs.KeptKeys.{EachKey}
use Rattle.hfs_fields.specs.Each.{Each}
use Rattle.hfs_fields.proofs.ElementLemmas.{each-append, each-left, each-right, each-map}

module _ {K : Type 0} (g : Ghosts K) (nodes : Store) (P : K → Type 0) where
  abbrev AtSpot : Spot → Type 0
  AtSpot spot = Each (λ entry. P (key_at g spot.above entry)) (records_in nodes spot.n)

  abbrev OfPair : K × List ℕ → Type 0
  OfPair p = P p.0

  spots_pairs : (left : ℕ) (ns : List ℕ) → Each AtSpot (spots zero left ns) → Each OfPair (flat_map (pairs g nodes) ns)
  spots_pairs left [] h = tt
  spots_pairs left (n ∷ ns) h = each-append OfPair (pairs g nodes n) (flat_map (pairs g nodes) ns) (each-map OfPair (pair_of g) (records_in nodes n) h.0) (spots_pairs n ns h.1)

  turn_pairs : (d : ℕ) (ns : List ℕ) → Each AtSpot (turn g nodes d ns) → Each OfPair (flat_map (pairs g nodes) (last_level g nodes d ns))
  turn_pairs zero ns h = tt
  turn_pairs (suc zero) ns h = spots_pairs 0 ns (each-left AtSpot (spots zero 0 ns) [] h)
  turn_pairs (suc (suc k)) ns h =
      turn_pairs (suc k) (flat_map (children g nodes) ns) (each-right AtSpot (spots (suc k) 0 ns) (turn g nodes (suc k) (flat_map (children g nodes) ns)) h)

  pub content_keys : EachKey g P nodes → Each OfPair (tree_content g nodes)
  content_keys h = turn_pairs (depth_of nodes) (root_level nodes) h
