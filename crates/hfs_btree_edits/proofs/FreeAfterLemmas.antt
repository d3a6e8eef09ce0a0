-- How many free nodes an insertion takes at most.
use Rattle.std.proofs.Common.{◌≡◌, ℕ, zero, suc, ◌+◌, ◌-◌, ◌<◌, ◌≤◌, List, [], ◌∷◌, length, refl, ap, ◌∙◌, arith, inl, inr, length-append}
use Rattle.std.specs.List.{flat_map}
use Rattle.std.proofs.lemmas.Bool.{cases_eq}
use Rattle.std.proofs.lemmas.List.{length-map}
use Rattle.hfs_btree.specs.declared.key.Key.{Ghosts}
use Rattle.hfs_btree.specs.Tree.{Store, Spot, children, level_below, spots, turn}
use Rattle.hfs_btree.specs.Header.{depth_of, root_level, free_nodes, tree_turn, tree_nodes}
use Rattle.hfs_btree_edits.specs.Edits.{HasInserted, level_above}

spots-length : (k left : ℕ) (ns : List ℕ) → length (spots k left ns) ≡ length ns
spots-length k left [] = refl
spots-length k left (n ∷ ns) = ap (λ (m : ℕ). suc m) (spots-length k n ns)

turn-length : {K : Type 0} (g : Ghosts K) (nodes : Store) (k : ℕ) (ns : List ℕ) → length (turn g nodes (suc k) ns) ≡ length ns + length (turn g nodes k (flat_map (children g nodes) ns))
turn-length g nodes k ns =
    length-append (spots k 0 ns) (turn g nodes k (flat_map (children g nodes) ns)) ∙ ap (λ (m : ℕ). m + length (turn g nodes k (flat_map (children g nodes) ns))) (spots-length k 0 ns)

module _ {K : Type 0} (g : Ghosts K) (old new : Store) where
  -- levels of which each has at most one node more
  turn-more : (d : ℕ) (ns ms : List ℕ) → ((j : ℕ) → j < d → length (level_below g new j ms) ≤ length (level_below g old j ns) + 1) → length (turn g new d ms) ≤ length (turn g old d ns) + d
  turn-more zero ns ms h = (let none : 0 ≤ 0 + 0 = omega arith in none)
  turn-more (suc k) ns ms h =
      let head : length ms ≤ length ns + 1 = h 0 (omega arith) in
      let rest = turn-more k (flat_map (children g old) ns) (flat_map (children g new) ms) (λ j lt. h (suc j) (omega (arith, lt))) in
      let was = turn-length g old k ns in
      let is = turn-length g new k ms in
      omega (arith, head, rest, was, is)

  module _ (key : K) (body : List ℕ) (h : HasInserted g key body old new) where
    level-was : (j : ℕ) → j < depth_of old → level_above g old (depth_of old - 1 - j) ≡ level_below g old j (root_level old)
    level-was j lt = let same : depth_of old - 1 - (depth_of old - 1 - j) ≡ j = omega (arith, lt) in ap (λ (i : ℕ). level_below g old i (root_level old)) same

    level-is : (j i : ℕ) → j < depth_of old → depth_of new - 1 - (depth_of old - 1 - j) ≡ i → level_above g new (depth_of old - 1 - j) ≡ level_below g new i (root_level new)
    level-is j i lt e = ap (λ (x : ℕ). level_below g new x (root_level new)) e

    level-more : (j i : ℕ) → j < depth_of old → depth_of new - 1 - (depth_of old - 1 - j) ≡ i → length (level_below g new i (root_level new)) ≤ length (level_below g old j (root_level old)) + 1
    level-more j i lt e =
        let most = (h.levels (depth_of old - 1 - j) (omega (arith, lt))).most in
        let was = ap (λ (ns : List ℕ). length ns) (level-was j lt) in
        let is = ap (λ (ns : List ℕ). length ns) (level-is j i lt e) in
        omega (arith, most, was, is)

    nodes-count : (nodes : Store) → length (tree_nodes g nodes) ≡ length (turn g nodes (depth_of nodes) (root_level nodes))
    nodes-count nodes = length-map (tree_turn g nodes) (λ (s : Spot). s.n)

    same-turn : depth_of new ≡ depth_of old → length (turn g new (depth_of new) (root_level new)) ≤ length (turn g old (depth_of old) (root_level old)) + depth_of old
    same-turn e =
        let depth = ap (λ (d : ℕ). length (turn g new d (root_level new))) e in
        let more = turn-more (depth_of old) (root_level old) (root_level new) (λ j lt. level-more j j lt (omega (arith, lt, e))) in
        omega (arith, depth, more)

    risen-turn : depth_of new ≡ suc (depth_of old) → length (turn g new (depth_of new) (root_level new)) ≤ length (turn g old (depth_of old) (root_level old)) + depth_of old + 1
    risen-turn e =
        let depth = ap (λ (d : ℕ). length (turn g new d (root_level new))) e in
        let one = turn-length g new (depth_of old) (root_level new) in
        let more = turn-more (depth_of old) (root_level old) (flat_map (children g new) (root_level new)) (λ j lt. level-more j (suc j) lt (omega (arith, lt, e))) in
        omega (arith, depth, one, more)

    -- at most one node in each level, where the tree has got none
    pub free-same_depth : depth_of new ≡ depth_of old → free_nodes old ≤ free_nodes new + depth_of old
    free-same_depth e =
        let more = same-turn e in
        let free = h.keeps.free in
        let was = nodes-count old in
        let is = nodes-count new in
        omega (arith, more, free, was, is)

    free-risen : depth_of new ≡ suc (depth_of old) → free_nodes old ≤ free_nodes new + depth_of old + 1
    free-risen e =
        let more = risen-turn e in
        let free = h.keeps.free in
        let was = nodes-count old in
        let is = nodes-count new in
        omega (arith, more, free, was, is)

    -- and a root
    pub free-after : free_nodes old ≤ free_nodes new + depth_of old + 1
    free-after =
        let least = h.depth.least in
        let most = h.depth.most in
        elim (cases_eq (depth_of new) (depth_of old)) [
          | inl e ↦ let same = free-same_depth e in omega (arith, same)
          | inr d ↦ free-risen (omega (arith, least, most, d))
        ]
