use Rattle.std.proofs.Common.{◌≡◌, Bool, subst}
use Rattle.std.specs.Prelude.{IfOk}
use Rattle.hfs_space.specs.TreeKeys.{ext_keys}
use Rattle.hfs_repair.proofs.Openings.{some-node, headed-bytes, in-order}
use Rattle.hfs_repair.proofs.extents_tree.are_in_order.Goals as goal

pub invariant_of-headed : goal.invariant_of-headed
invariant_of-headed g c = record { some = some-node ext_keys c.args.size (g.N.Nodes.nodes c.args.nodes.now) c.args.counts.now c.requires }

pub check_extents_tree-requires : goal.check_extents_tree-requires
check_extents_tree-requires g c = headed-bytes ext_keys c.args.size (g.N.Nodes.nodes c.args.nodes.now) c.args.counts.now c.requires

pub returns : goal.returns
returns g c =
    subst (λ (b : Bool). IfOk c.is_right.result (λ right. right ≡ b)) (in-order c.args.size (g.N.Nodes.nodes c.args.nodes.now) c.args.counts.now c.requires)
    (c.is_right.ensures _ c.check_extents_tree.ensures)
