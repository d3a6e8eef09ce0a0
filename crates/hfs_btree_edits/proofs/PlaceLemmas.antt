-- Lemmas about the definition IsPlaceOf of specs/Entries.antt.
use Rattle.std.proofs.Common.{◌≡◌, ℕ, suc, List, [], ◌∷◌, ◌++◌, map, take, drop, refl, sym, ap, ◌∙◌, subst, arith, Some, append_assoc}
use Rattle.std.specs.Prelude.{◌-◌, ◌<◌, Bool, Option, cond, not, slice_index_or, zero}
use Rattle.std.specs.List.{flat_map, prefix_len}
use Rattle.std.specs.declared.cmp.Ordering.TheVariants.{Equal}
use Rattle.std.specs.Ordering.{is_eq, is_gt, ordering_reverse}
use Rattle.std.specs.Cmp.{IsTotalOrder}
use Rattle.hfs_btree.specs.Node.{node_of}
use Rattle.hfs_btree.specs.declared.key.Key.{Ghosts}
use Rattle.hfs_btree.specs.Pairs.{Order, Pairs, lookup}
use Rattle.hfs_btree.specs.Tree.{Store, pair_of, pairs, records_in, records_of}
use Rattle.hfs_btree.specs.Header.{header_in, depth_of, tree_content}
use Rattle.hfs_btree.specs.Search.{is_not_above, child_for, leaf_under}
use Rattle.hfs_btree.specs.Sound.{IsSound}
use Rattle.hfs_btree.proofs.FoundLemmas.{found, about}
use Rattle.hfs_btree.proofs.LevelLemmas.{map-split}
use Rattle.hfs_btree_edits.specs.Conditions.{IsNoLonger}
use Rattle.hfs_btree_edits.specs.Entries.{IsPlaceOf, record_at}
use Rattle.hfs_btree_edits.specs.declared.seeking.RecordPlace.{RecordPlace}
use Rattle.hfs_btree_edits.proofs.ReplacedLemmas.{none-there}

-- ---- of keys that are equal in the order

module _ {K : Type 0} (cmp : Order K) (total : IsTotalOrder cmp) (k l : K) (same : cmp k l ≡ Equal) where
  pub right-equal : (x : K) → cmp x k ≡ cmp x l
  right-equal x = total.antisymm x k ∙ ap ordering_reverse (total.congr k l x same) ∙ sym (total.antisymm x l)

  pub lookup-equal : (ps : Pairs K) → lookup cmp k ps ≡ lookup cmp l ps
  lookup-equal [] = refl
  lookup-equal (p ∷ ps) = λ i. cond (is_eq (total.congr k l p.0 same i)) (Some p.1) (lookup-equal ps i)

module _ {K : Type 0} (g : Ghosts K) (total : IsTotalOrder g.compare) (nodes : Store) (k l : K) (same : g.compare k l ≡ Equal) where
  above-equal : is_not_above g k ≡ is_not_above g l
  above-equal = λ i e. not (is_gt (right-equal g.compare total k l same (g.index_key e) i))

  leaf_under-equal : (d n : ℕ) → leaf_under g nodes k d n ≡ leaf_under g nodes l d n
  leaf_under-equal zero n = refl
  leaf_under-equal (suc d) n =
      ap (λ (f : List ℕ → Bool). leaf_under g nodes k d (g.child (slice_index_or (records_in nodes n) (prefix_len f (records_in nodes n) - 1) []))) above-equal
      ∙ leaf_under-equal d (child_for g l (records_in nodes n))

  pub place-equal : (place : RecordPlace) → IsPlaceOf g nodes k place → IsPlaceOf g nodes l place
  place-equal place h = record {
    leaf = h.leaf ∙ leaf_under-equal (depth_of nodes - 1) (header_in nodes).root;
    read = h.read;
    within = h.within;
    equal = sym (total.congr k l (g.leaf_key (record_at place.bytes place.at)) same) ∙ h.equal;
    body = sym (lookup-equal g.compare total k l same _) ∙ h.body;
    is_leaf = h.is_leaf;
    found = sym (lookup-equal g.compare total k l same _) ∙ h.found;
  }

-- ---- of the record that stands there

-- the content is one pair between others
pub record IsBetween {K : Type 0} (content : Pairs K) (p : K × List ℕ) : Type 0 where
  pub before : Pairs K
  pub behind : Pairs K
  pub split : content ≡ before ++ p ∷ behind

module _ {K : Type 0} (g : Ghosts K) (total : IsTotalOrder g.compare) (nodes : Store) (key : K) (place : RecordPlace) (h : IsPlaceOf g nodes key place) where
  abbrev entry : List ℕ
  entry = record_at place.bytes place.at

  -- its key has the place
  pub own-place : IsPlaceOf g nodes (g.leaf_key entry) place
  own-place = place-equal g total nodes key (g.leaf_key entry) h.equal place h

  some-levels : 0 < depth_of nodes
  some-levels = none-there g nodes key [] (subst (λ (o : Option (List ℕ)). IsNoLonger [] o) (sym h.found) (omega arith))

  -- its pair is one of the tree's
  pub content-between : IsSound g nodes → IsBetween (tree_content g nodes) (pair_of g entry)
  content-between sound =
      let es = records_of (node_of place.bytes) in
      let leaf = found g total nodes key sound some-levels place.leaf h.leaf place.bytes h.read in
      let front = flat_map (pairs g nodes) leaf.before in
      let back = flat_map (pairs g nodes) leaf.behind in
      let ps = map (pair_of g) (take place.at es) in
      let qs = map (pair_of g) (drop (suc place.at) es) in
      let shift : front ++ ((ps ++ pair_of g entry ∷ qs) ++ back) ≡ (front ++ ps) ++ pair_of g entry ∷ (qs ++ back) = simp append_assoc in
      record {
        before = front ++ ps;
        behind = qs ++ back;
        split =
            about g total nodes key sound some-levels place.leaf h.leaf place.bytes h.read
            ∙ ap (λ (xs : Pairs K). front ++ (xs ++ back)) (map-split (pair_of g) es place.at [] h.within)
            ∙ shift;
      }
