use Rattle.std.proofs.Common.{refl, ◌∙◌}
use Rattle.hfs_btree_removal.proofs.KeysSet.{passing-none, can-within, can-place, can-index, passing-more, passed-here, passed-all}
use Rattle.hfs_btree_removal.proofs.pass_up.pass_up.Goals as goal

pub loop-i-init : goal.loop-i-init
loop-i-init g c = record { passing = passing-none g.K.Key c.args.key.now c.args.steps.now (g.S.Nodes.nodes c.args.nodes.now) c.requires; kept = refl }

pub set_key-requires-clause-node : goal.set_key-requires-clause-node
set_key-requires-clause-node g c = can-within g.K.Key c.args.key.now c.args.steps.now (g.S.Nodes.nodes c.args.nodes.now) c.requires c.loop-i.i (g.S.Nodes.nodes c.loop-i.nodes) c.loop-i.invariant.passing c.loop-i-test.true

pub set_key-requires-clause-place : goal.set_key-requires-clause-place
set_key-requires-clause-place g c = can-place g.K.Key c.args.key.now c.args.steps.now (g.S.Nodes.nodes c.args.nodes.now) c.requires c.loop-i.i (g.S.Nodes.nodes c.loop-i.nodes) c.loop-i.invariant.passing c.loop-i-test.true

pub set_key-requires-clause-index : goal.set_key-requires-clause-index
set_key-requires-clause-index g c = can-index g.K.Key c.args.key.now c.args.steps.now (g.S.Nodes.nodes c.args.nodes.now) c.requires c.loop-i.i (g.S.Nodes.nodes c.loop-i.nodes) c.loop-i.invariant.passing c.loop-i-test.true

pub returns-then-step-gt0-clause-passed : goal.returns-then-step-gt0-clause-passed
returns-then-step-gt0-clause-passed g c =
    passed-here g.K.Key c.args.key.now c.args.steps.now (g.S.Nodes.nodes c.args.nodes.now) c.requires c.loop-i.i (g.S.Nodes.nodes c.loop-i.nodes) c.loop-i.invariant.passing c.loop-i-test.true (g.S.Nodes.nodes c.set_key.new.nodes)
    c.in_ok-set_key.ensures.set c.if-step-gt0.true

pub loop-i-preserved : goal.loop-i-preserved
loop-i-preserved g c = record {
  passing = passing-more g.K.Key c.args.key.now c.args.steps.now (g.S.Nodes.nodes c.args.nodes.now) c.requires c.loop-i.i (g.S.Nodes.nodes c.loop-i.nodes) c.loop-i.invariant.passing c.loop-i-test.true (g.S.Nodes.nodes c.set_key.new.nodes)
      c.in_ok-set_key.ensures.set c.if-step-gt0.false;
  kept = c.in_ok-set_key.ensures.kept ∙ c.loop-i.invariant.kept;
}

pub returns-clause-passed : goal.returns-clause-passed
returns-clause-passed g c = passed-all g.K.Key c.args.key.now c.args.steps.now (g.S.Nodes.nodes c.args.nodes.now) c.requires c.loop-i.i (g.S.Nodes.nodes c.loop-i.nodes) c.loop-i.invariant.passing c.loop-i-test.false
