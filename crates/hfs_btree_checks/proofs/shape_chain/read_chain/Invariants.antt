use Rattle.std.proofs.Common.{◌≡◌, ℕ, ◌++◌}
use Rattle.std.specs.Prelude.{◌||◌, ◌==◌}
use Rattle.std.specs.List.{flat_map, list_any}
use Rattle.std.specs.Vec.{vec_len}
use Rattle.hfs_btree.specs.Header.{record_in, chain_from}
use Rattle.hfs_btree_checks.specs.Shape.{is_map_node, first_fault}
use Rattle.hfs_btree_checks.specs.ShapeSteps.{is_met}
use Rattle.hfs_btree_checks.proofs.shape_chain.read_chain.Given as goal

abbrev pub invariant-loop-most : goal.invariant-loop-most
invariant-loop-most g l = record {
  same : first_fault (is_map_node (g.N.Nodes.nodes l.nodes)) (λ n. n) (is_met l.initial.met.items) (chain_from (g.N.Nodes.nodes l.nodes) l.count l.first)
      ≡ first_fault (is_map_node (g.N.Nodes.nodes l.nodes)) (λ n. n) (is_met l.met.items) (chain_from (g.N.Nodes.nodes l.nodes) l.most l.n);
  parts : l.initial.map.items ++ flat_map (λ n. record_in (g.N.Nodes.nodes l.nodes) n 0) (chain_from (g.N.Nodes.nodes l.nodes) l.count l.first)
      ≡ l.map.items ++ flat_map (λ n. record_in (g.N.Nodes.nodes l.nodes) n 0) (chain_from (g.N.Nodes.nodes l.nodes) l.most l.n);
  numbers : l.initial.own.items ++ chain_from (g.N.Nodes.nodes l.nodes) l.count l.first ≡ l.own.items ++ chain_from (g.N.Nodes.nodes l.nodes) l.most l.n;
  marked : (k : ℕ) → (list_any (λ m. k == m) (chain_from (g.N.Nodes.nodes l.nodes) l.count l.first) || is_met l.initial.met.items k)
      ≡ (list_any (λ m. k == m) (chain_from (g.N.Nodes.nodes l.nodes) l.most l.n) || is_met l.met.items k);
  len : vec_len l.met ≡ l.count;
}

abbrev pub decreases-loop-most : goal.decreases-loop-most
decreases-loop-most g l = l.most
