use Rattle.std.proofs.Common.{refl, ◌∙◌}
use Rattle.hfs_btree_removal.proofs.ReleasedSteps.{given-none, next-stray, next-within, given-more, given-all}
use Rattle.hfs_btree_removal.proofs.detach.release_all.Goals as goal

pub loop-i-init : goal.loop-i-init
loop-i-init g c = record { given = given-none g.K.Key (g.S.Nodes.nodes c.args.nodes.now) c.args.chain.now c.requires.sound c.requires.strays; kept = refl }

pub release-requires-clause-sound : goal.release-requires-clause-sound
release-requires-clause-sound g c = c.loop-i.invariant.given.sound

pub release-requires-clause-stray : goal.release-requires-clause-stray
release-requires-clause-stray g c = next-stray g.K.Key (g.S.Nodes.nodes c.args.nodes.now) c.args.chain.now c.loop-i.i (g.S.Nodes.nodes c.loop-i.nodes) c.loop-i.invariant.given c.loop-i-test.true

pub release-requires-clause-within : goal.release-requires-clause-within
release-requires-clause-within g c = next-within g.K.Key (g.S.Nodes.nodes c.args.nodes.now) c.args.chain.now c.loop-i.i (g.S.Nodes.nodes c.loop-i.nodes) c.loop-i.invariant.given c.loop-i-test.true

pub loop-i-preserved : goal.loop-i-preserved
loop-i-preserved g c = record {
  given = given-more g.K.Key (g.S.Nodes.nodes c.args.nodes.now) c.args.chain.now c.loop-i.i (g.S.Nodes.nodes c.loop-i.nodes) c.loop-i.invariant.given c.loop-i-test.true (g.S.Nodes.nodes c.release.new.nodes)
      c.in_ok-release.ensures.released;
  kept = c.in_ok-release.ensures.kept ∙ c.loop-i.invariant.kept;
}

pub returns-clause-released : goal.returns-clause-released
returns-clause-released g c = given-all g.K.Key (g.S.Nodes.nodes c.args.nodes.now) c.args.chain.now c.loop-i.i (g.S.Nodes.nodes c.loop-i.nodes) c.loop-i.invariant.given c.loop-i-test.false
