-- The tests of a node at its place.
use Rattle.std.proofs.Common.{◌≡◌, ℕ, zero, suc, ◌+◌, ◌<◌, ◌≤◌, Bool, true, false, List, [], length, map, get_or, Result, Ok, sym, ap, ◌∙◌, arith}
use Rattle.std.specs.Prelude.{◌&&◌, ◌==◌, not, nat_lt, nat_le}
use Rattle.std.specs.List.{list_all}
use Rattle.std.proofs.lemmas.Bool.{and_left, and_right, and_from, and_parts, lt-ltb, le-leb, ltb-true}
use Rattle.hfs_btree.specs.declared.fault.NodeFault.{NodeFault}
use Rattle.hfs_btree.specs.declared.node.Node.{Node}
use Rattle.hfs_btree.specs.Node.{node_of}
use Rattle.hfs_btree.specs.declared.key.Key.{Ghosts}
use Rattle.hfs_btree.specs.Tree.{Store, node_in, records_of, records_in, children, reads_at, Spot}
use Rattle.hfs_btree.specs.Header.{header_in, is_marked}
use Rattle.hfs_btree_checks.specs.Shape.{is_within, is_kind_at, is_node_at, is_result_at, is_right}

pub decodes : (nodes : Store) (n : ℕ) (bytes : List ℕ) (r : Result Node NodeFault) → bytes ≡ get_or nodes n [] → r ≡ node_of bytes → node_in nodes n ≡ r
unfolding node_in
decodes nodes n bytes r read view = ap node_of (sym read) ∙ sym view

module _ {K : Type 0} (g : Ghosts K) (nodes : Store) (spot : Spot) where
  pub wrong-result : (r : Result Node NodeFault) (b : Bool) → node_in nodes spot.n ≡ r → is_result_at g spot r ≡ false → (is_right g nodes spot && b) ≡ false
  unfolding is_right
  wrong-result r b is wrong = and_left _ b (and_left _ _ (and_right (is_within nodes spot.n) _ (ap (is_result_at g spot) is ∙ wrong)))

  pub right-from : (v : Node) (met : Bool) → 1 ≤ spot.n → spot.n < (header_in nodes).nodes → node_in nodes spot.n ≡ Ok v → is_node_at g spot v ≡ true → is_marked nodes spot.n ≡ true
      → met ≡ false → (is_right g nodes spot && not met) ≡ true
  unfolding is_right
  right-from v met low high is right mark new =
      and_from _ _ (and_from _ _ (and_from _ _ (and_from _ _ (le-leb _ _ low) (lt-ltb _ _ high)) (ap (is_result_at g spot) is ∙ right)) mark) (ap not new)

  -- a node that is right is one of the tree's
  pub right-within : (b : Bool) → (is_right g nodes spot && b) ≡ true → spot.n < (header_in nodes).nodes
  unfolding is_right
  right-within b right =
      let both = (and_parts (is_within nodes spot.n && is_result_at g spot (node_in nodes spot.n)) (is_marked nodes spot.n) (and_parts _ b right).0).0 in
      ltb-true _ _ (and_parts (nat_le 1 spot.n) (nat_lt spot.n (header_in nodes).nodes) (and_parts (is_within nodes spot.n) _ both).0).1

pub reads-above : {K : Type 0} (g : Ghosts K) (above : ℕ) (es : List (List ℕ)) → 0 < above → list_all (reads_at g above) es ≡ true → list_all g.is_index es ≡ true
reads-above g zero es some h = absurd (omega arith)
reads-above g (suc k) es some h = h

pub index-records : {K : Type 0} (g : Ghosts K) (spot : Spot) (v : Node) → is_node_at g spot v ≡ true → 0 < spot.above → list_all g.is_index v.records ≡ true
unfolding is_node_at
index-records g spot v h some =
    reads-above g spot.above v.records some
    (and_parts (is_kind_at spot.above v.kind && (v.height == spot.above + 1) && nat_le 1 (length v.records) && (v.backward == spot.left) && (v.forward == spot.right)) (list_all (reads_at g spot.above) v.records) h).1

pub children-of : {K : Type 0} (g : Ghosts K) (nodes : Store) (n : ℕ) (v : Node) → node_in nodes n ≡ Ok v → map g.child v.records ≡ children g nodes n
children-of g nodes n v is = sym (ap (λ (r : Result Node NodeFault). map g.child (records_of r)) is)

pub count-of : (nodes : Store) (n : ℕ) (v : Node) → node_in nodes n ≡ Ok v → length v.records ≡ length (records_in nodes n)
count-of nodes n v is = sym (ap (λ (r : Result Node NodeFault). length (records_of r)) is)
