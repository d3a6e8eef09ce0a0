-- The node map of a tree, and the nodes that it marks.
use Rattle.std.proofs.Common.{◌≡◌, ℕ, zero, suc, ◌*◌, ◌<◌, ◌≤◌, Bool, true, false, List, [], ◌++◌, length, get_or, set, replicate, Option, None, Result, Ok, refl, sym, ap, ◌∙◌}
use Rattle.std.specs.Prelude.{◌||◌, ◌==◌}
use Rattle.std.specs.List.{flat_map, list_all, list_any}
use Rattle.std.specs.Option.{is_none}
use Rattle.std.proofs.lemmas.Bool.{and_left, and_right, and_from, le-leb, lt-leb}
use Rattle.hfs_btree.specs.declared.fault.NodeFault.{NodeFault}
use Rattle.hfs_btree.specs.declared.node.Node.{Node}
use Rattle.hfs_btree_checks.specs.declared.fault.TreeFault.{TreeFault}
use Rattle.hfs_btree_checks.specs.declared.fault.TreeFault.TheVariants.{At, Memory}
use Rattle.hfs_btree.specs.Tree.{Store, node_in, records_of}
use Rattle.hfs_btree.specs.Header.{header_in, record_in, chain_from, map_nodes, map_bytes, own_nodes, is_marked}
use Rattle.hfs_btree_checks.specs.Shape.{is_map_node, is_own, first_fault, chain_fault, has_map}
use Rattle.hfs_btree_checks.specs.ShapeSteps.{is_met, IsWrongAt}
use Rattle.hfs_btree_checks.proofs.ShapeTurn.{met-one}
use Rattle.hfs_btree_checks.proofs.ShapeChain.{forward-of}

pub wrong-on : (test other : Bool) (n : ℕ) (e : TreeFault) → (test ≡ false → other ≡ false) → IsWrongAt test n e → IsWrongAt other n e
wrong-on test other n (At m) f wrong = (wrong.0, f wrong.1)
wrong-on test other n Memory f wrong = tt

never-met : (n k : ℕ) → get_or (replicate n false) k false ≡ false
never-met zero k = refl
never-met (suc n) zero = refl
never-met (suc n) (suc k) = never-met n k

pub unmet : (met : List Bool) (n : ℕ) → met ≡ replicate n false → (k : ℕ) → is_met met k ≡ false
unmet met n e k = ap (λ (ms : List Bool). is_met ms k) e ∙ never-met n k

or-false : (b c : Bool) → c ≡ false → (b || c) ≡ b
or-false true c h = refl
or-false false c h = h

module _ (nodes : Store) where
  pub chain-is : (count first : ℕ) (v : Node) → node_in nodes 0 ≡ Ok v → count ≡ (header_in nodes).nodes → first ≡ v.forward → chain_from nodes count first ≡ map_nodes nodes
  unfolding map_nodes
  chain-is count first v is counted next =
      ap (λ (k : ℕ). chain_from nodes k first) counted ∙ ap (λ (n : ℕ). chain_from nodes (header_in nodes).nodes n) (next ∙ forward-of nodes 0 v is)

  pub bytes-are : (v : Node) (before after : List ℕ) (ns : List ℕ) → node_in nodes 0 ≡ Ok v → before ≡ get_or v.records 2 [] → ns ≡ map_nodes nodes → after ≡ before ++ flat_map (λ n. record_in nodes n 0) ns
      → after ≡ map_bytes nodes
  bytes-are v before after ns is start e joined =
      joined ∙ ap (λ (bytes : List ℕ). bytes ++ flat_map (λ n. record_in nodes n 0) ns) (start ∙ sym (ap (λ (r : Result Node NodeFault). get_or (records_of r) 2 []) is))
      ∙ ap (λ (ms : List ℕ). record_in nodes 0 2 ++ flat_map (λ n. record_in nodes n 0) ms) e

  pub chain-fault-is : (met : List Bool) (count : ℕ) (ns : List ℕ) → met ≡ replicate count false → ns ≡ map_nodes nodes
      → first_fault (is_map_node nodes) (λ n. n) (is_met met) ns ≡ chain_fault nodes (map_nodes nodes)
  chain-fault-is met count ns unmarked e =
      let none : is_met met ≡ (λ (k : ℕ). false) = (λ j k. unmet met count unmarked k j) in
      ap (λ (f : ℕ → Bool). first_fault (is_map_node nodes) (λ n. n) f ns) none ∙ ap (chain_fault nodes) e

  pub wrong-chain : (fault : Option ℕ) → fault ≡ chain_fault nodes (map_nodes nodes) → is_none fault ≡ false → has_map nodes ≡ false
  unfolding has_map
  wrong-chain fault e h = and_left _ _ (and_left _ _ (sym (ap is_none e) ∙ h))

  pub no-bits : 8 * length (map_bytes nodes) < (header_in nodes).nodes → has_map nodes ≡ false
  unfolding has_map
  no-bits h = and_left _ _ (and_right (is_none (chain_fault nodes (map_nodes nodes))) _ (lt-leb _ _ h))

  pub wrong-marks : list_all (is_marked nodes) (own_nodes nodes) ≡ false → has_map nodes ≡ false
  unfolding has_map
  wrong-marks h = and_right _ _ h

  pub has_map-from : (fault : Option ℕ) → fault ≡ chain_fault nodes (map_nodes nodes) → fault ≡ None → (header_in nodes).nodes ≤ 8 * length (map_bytes nodes)
      → list_all (is_marked nodes) (own_nodes nodes) ≡ true → has_map nodes ≡ true
  unfolding has_map
  has_map-from fault e none bits marks = and_from _ _ (and_from _ _ (sym (ap is_none e) ∙ ap is_none none) (le-leb _ _ bits)) marks

  pub own-are : (old met : List Bool) (count : ℕ) (ns : List ℕ) → old ≡ replicate count false → ns ≡ map_nodes nodes → 0 < length met
      → ((k : ℕ) → is_met met k ≡ (list_any (λ m. k == m) ns || is_met old k)) → (k : ℕ) → is_met (set met 0 true) k ≡ is_own nodes k
  own-are old met count ns unmarked e some marked k =
      met-one met 0 some k
      ∙ ap (λ (b : Bool). (k == 0) || b) (marked k ∙ or-false _ _ (unmet old count unmarked k) ∙ ap (λ (ms : List ℕ). list_any (λ m. k == m) ms) e)
