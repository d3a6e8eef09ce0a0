-- The chain of map nodes.
use Rattle.std.proofs.Common.{◌≡◌, ℕ, ◌<◌, ◌≤◌, Bool, true, false, List, [], ◌∷◌, ◌++◌, length, get_or, set, Option, Result, Ok, refl, sym, ap, ◌∙◌, append_assoc}
use Rattle.std.specs.Prelude.{◌&&◌, ◌||◌, ◌==◌, not}
use Rattle.std.specs.List.{list_any}
use Rattle.std.proofs.lemmas.Bool.{and_left, and_right, and_from, and_parts, cond-true, lt-ltb, le-leb, ltb-true}
use Rattle.hfs_btree.specs.declared.fault.NodeFault.{NodeFault}
use Rattle.hfs_btree.specs.declared.node.Node.{Node}
use Rattle.hfs_btree.specs.Tree.{Store, node_in, records_of, forward_of}
use Rattle.hfs_btree.specs.Header.{header_in, record_in}
use Rattle.hfs_btree_checks.specs.Shape.{is_within, is_map_value, is_map_result, is_map_node, first_fault}
use Rattle.hfs_btree_checks.specs.ShapeSteps.{is_met}
use Rattle.hfs_btree_checks.proofs.ShapeTurn.{met-more}

module _ (nodes : Store) (n : ℕ) where
  pub wrong-map : (r : Result Node NodeFault) (b : Bool) → node_in nodes n ≡ r → is_map_result r ≡ false → (is_map_node nodes n && b) ≡ false
  unfolding is_map_node
  wrong-map r b is wrong = and_left _ b (and_right (is_within nodes n) _ (ap is_map_result is ∙ wrong))

  pub map-from : (v : Node) (met : Bool) → 1 ≤ n → n < (header_in nodes).nodes → node_in nodes n ≡ Ok v → is_map_value v ≡ true → met ≡ false → (is_map_node nodes n && not met) ≡ true
  unfolding is_map_node
  map-from v met low high is right new = and_from _ _ (and_from _ _ (and_from _ _ (le-leb _ _ low) (lt-ltb _ _ high)) (ap is_map_result is ∙ right)) (ap not new)

  -- a map node is one of the tree's
  pub map-within : (b : Bool) → (is_map_node nodes n && b) ≡ true → n < (header_in nodes).nodes
  unfolding is_map_node
  map-within b right = ltb-true _ _ (and_parts _ _ (and_parts (is_within nodes n) (is_map_result (node_in nodes n)) (and_parts _ b right).0).0).1

  pub forward-of : (v : Node) → node_in nodes n ≡ Ok v → v.forward ≡ forward_of (node_in nodes n)
  forward-of v is = sym (ap forward_of is)

  pub part-of : (v : Node) → node_in nodes n ≡ Ok v → get_or v.records 0 [] ≡ record_in nodes n 0
  part-of v is = sym (ap (λ (r : Result Node NodeFault). get_or (records_of r) 0 []) is)

swapped : (a b c : Bool) → ((a || b) || c) ≡ (b || (a || c))
swapped true true c = refl
swapped true false c = refl
swapped false true c = refl
swapped false false c = refl

module _ (nodes : Store) (met : List Bool) (n : ℕ) (rest : List ℕ) where
  abbrev fault : (ℕ → Bool) → List ℕ → Option ℕ
  fault f ns = first_fault (is_map_node nodes) (λ m. m) f ns

  pub chain-goes-on : (is_map_node nodes n && not (is_met met n)) ≡ true → n < length met → fault (is_met met) (n ∷ rest) ≡ fault (is_met (set met n true)) rest
  chain-goes-on right within = cond-true _ _ _ right ∙ ap (λ (f : ℕ → Bool). fault f rest) (met-more met n within)

  -- who was met, once this one is
  pub chain-met : n < length met → (k : ℕ) → (list_any (λ m. k == m) (n ∷ rest) || is_met met k) ≡ (list_any (λ m. k == m) rest || is_met (set met n true) k)
  chain-met within k = swapped (k == n) (list_any (λ m. k == m) rest) (is_met met k) ∙ ap (λ (f : ℕ → Bool). list_any (λ m. k == m) rest || f k) (met-more met n within)

-- what stands before, then one element, then the others
pub pushed : (before rest : List ℕ) (n : ℕ) → before ++ n ∷ rest ≡ (before ++ n ∷ []) ++ rest
pushed before rest n = sym (append_assoc before (n ∷ []) rest)
