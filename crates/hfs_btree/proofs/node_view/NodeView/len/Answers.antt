use Rattle.std.proofs.Common.{arith, ap, length, sym, ◌∙◌}
use Rattle.hfs_btree.specs.declared.node.Node.{Node}
use Rattle.hfs_btree.proofs.DecodingLemmas.{length-records, count-inside}
use Rattle.hfs_btree.proofs.node_view.NodeView.len.Goals as goal

pub returns-clause-count : goal.returns-clause-count
returns-clause-count c =
    c.count_at.ensures ∙ sym (length-records c.self.inside.kind c.self.inside.bytes.now) ∙ ap (λ (n : Node). length n.records) c.self.view_is

pub returns-clause-few : goal.returns-clause-few
returns-clause-few c = omega (arith, count-inside c.self.inside.bytes.now c.self.invariant.inside, c.count_at.ensures)
