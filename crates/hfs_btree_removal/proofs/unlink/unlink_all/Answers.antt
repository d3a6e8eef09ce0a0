use Rattle.std.proofs.Common.{refl, ◌∙◌}
use Rattle.hfs_btree_removal.proofs.StepsUnlinked.{done-none, next-can, done-more, all-linked, all-left, all-right}
use Rattle.hfs_btree_removal.proofs.unlink.unlink_all.Goals as goal

pub loop-i-init : goal.loop-i-init
loop-i-init g c = record { done = done-none (g.S.Nodes.nodes c.args.nodes.now) c.args.chain.now c.requires; kept = refl }

pub unlink-requires-clause-node : goal.unlink-requires-clause-node
unlink-requires-clause-node g c = (next-can (g.S.Nodes.nodes c.args.nodes.now) c.args.chain.now c.loop-i.i c.loop-i.last.left c.loop-i.last.right (g.S.Nodes.nodes c.loop-i.nodes) c.loop-i.invariant.done c.loop-i-test.true).node

pub unlink-requires-clause-left : goal.unlink-requires-clause-left
unlink-requires-clause-left g c = (next-can (g.S.Nodes.nodes c.args.nodes.now) c.args.chain.now c.loop-i.i c.loop-i.last.left c.loop-i.last.right (g.S.Nodes.nodes c.loop-i.nodes) c.loop-i.invariant.done c.loop-i-test.true).left

pub unlink-requires-clause-right : goal.unlink-requires-clause-right
unlink-requires-clause-right g c = (next-can (g.S.Nodes.nodes c.args.nodes.now) c.args.chain.now c.loop-i.i c.loop-i.last.left c.loop-i.last.right (g.S.Nodes.nodes c.loop-i.nodes) c.loop-i.invariant.done c.loop-i-test.true).right

pub unlink-requires-clause-apart : goal.unlink-requires-clause-apart
unlink-requires-clause-apart g c = (next-can (g.S.Nodes.nodes c.args.nodes.now) c.args.chain.now c.loop-i.i c.loop-i.last.left c.loop-i.last.right (g.S.Nodes.nodes c.loop-i.nodes) c.loop-i.invariant.done c.loop-i-test.true).apart

pub loop-i-preserved : goal.loop-i-preserved
loop-i-preserved g c = record {
  done = done-more (g.S.Nodes.nodes c.args.nodes.now) c.args.chain.now c.loop-i.i c.loop-i.last.left c.loop-i.last.right (g.S.Nodes.nodes c.loop-i.nodes) c.loop-i.invariant.done c.loop-i-test.true
      (g.S.Nodes.nodes c.unlink.new.nodes) c.in_ok-last.last.left c.in_ok-last.last.right c.in_ok-last.ensures.left c.in_ok-last.ensures.right c.in_ok-last.ensures.linked;
  kept = c.in_ok-last.ensures.kept ∙ c.loop-i.invariant.kept;
}

pub returns-clause-linked : goal.returns-clause-linked
returns-clause-linked g c = all-linked (g.S.Nodes.nodes c.args.nodes.now) c.args.chain.now c.loop-i.i c.loop-i.last.left c.loop-i.last.right (g.S.Nodes.nodes c.loop-i.nodes) c.loop-i.invariant.done c.loop-i-test.false

pub returns-clause-left : goal.returns-clause-left
returns-clause-left g c = all-left (g.S.Nodes.nodes c.args.nodes.now) c.args.chain.now c.loop-i.i c.loop-i.last.left c.loop-i.last.right (g.S.Nodes.nodes c.loop-i.nodes) c.loop-i.invariant.done c.loop-i-test.false

pub returns-clause-right : goal.returns-clause-right
returns-clause-right g c = all-right (g.S.Nodes.nodes c.args.nodes.now) c.args.chain.now c.loop-i.i c.loop-i.last.left c.loop-i.last.right (g.S.Nodes.nodes c.loop-i.nodes) c.loop-i.invariant.done c.loop-i-test.false
