use Rattle.std.proofs.Common.{◌≡◌, ◌∙◌, refl, []}
use Rattle.std.specs.Prelude.{true}
use Rattle.hfs_fields.proofs.ElementLemmas.{each-at}
use Rattle.hfs_btree.proofs.DescentLemmas.{way-some, index-entries}
use Rattle.hfs_btree_insertion.proofs.WayTo.{at-within, read-some, read-index}
use Rattle.hfs_btree_insertion.proofs.LowerSteps.{lower-init, lower-step, at-step}
use Rattle.hfs_btree_insertion.proofs.lowering.lower_keys.Goals as goal

pub loop-here-init : goal.loop-here-init
loop-here-init g c =
    let nodes = g.S.Nodes.nodes c.args.nodes.now in
    let both = lower-init g.K.Key c.args.key.now nodes c.read_header-header.result c.saturating_sub-here.result c.requires.sound c.requires.above c.read_header-header.ensures c.saturating_sub-here.ensures in
    record { at = both.0; lowered = both.1; kept = refl }

pub read-requires : goal.read-requires
read-requires g c = at-within g.K.Key (g.S.Nodes.nodes c.loop-here.nodes) c.args.key.now c.loop-here.here c.loop-here.n c.loop-here.invariant.at

pub child_in-next-requires-clause-some : goal.child_in-next-requires-clause-some
child_in-next-requires-clause-some g c = read-some g.K.Key (g.S.Nodes.nodes c.loop-here.nodes) c.args.key.now c.loop-here.here c.loop-here.n c.read.new.into c.loop-here.invariant.at c.read.ensures

pub child_in-next-requires-clause-whole : goal.child_in-next-requires-clause-whole
child_in-next-requires-clause-whole g c =
    read-index g.K.Key (g.S.Nodes.nodes c.loop-here.nodes) c.args.key.now c.loop-here.here c.loop-here.n c.read.new.into c.loop-here-test.true c.loop-here.invariant.at c.read.ensures

pub lower_first-requires-clause-some : goal.lower_first-requires-clause-some
lower_first-requires-clause-some g c = way-some g.K.Key (g.S.Nodes.nodes c.loop-here.nodes) c.loop-here.here c.loop-here.n c.loop-here.invariant.at.way

pub lower_first-requires-clause-index : goal.lower_first-requires-clause-index
lower_first-requires-clause-index g c =
    let nodes = g.S.Nodes.nodes c.loop-here.nodes in
    let way = c.loop-here.invariant.at.way in
    each-at (λ e. g.K.Key.is_index e ≡ true) (Rattle.hfs_btree.specs.Tree.records_in nodes c.loop-here.n) 0 [] (index-entries g.K.Key nodes c.loop-here.here c.loop-here.n c.loop-here-test.true way)
    (way-some g.K.Key nodes c.loop-here.here c.loop-here.n way)

pub loop-here-preserved : goal.loop-here-preserved
loop-here-preserved g c =
    let old = g.S.Nodes.nodes c.args.nodes.now in
    let mid = g.S.Nodes.nodes c.loop-here.nodes in
    let new = g.S.Nodes.nodes c.lower_first.new.nodes in
    let inv = c.loop-here.invariant in
    record {
      at = at-step g.K.Key g.met.K.Key.total c.args.key.now old mid g.met.K.Key.index_len c.requires.above c.loop-here.here c.loop-here.n c.child_in-next.result c.read.new.into c.loop-here-test.true inv.lowered inv.at
          c.read.ensures c.child_in-next.ensures new c.in_ok-lower_first.ensures.low;
      lowered = lower-step g.K.Key g.met.K.Key.total c.args.key.now old mid g.met.K.Key.index_len c.requires.above c.loop-here.here c.loop-here.n c.loop-here-test.true inv.lowered inv.at new c.in_ok-lower_first.ensures.low;
      kept = c.in_ok-lower_first.ensures.kept ∙ inv.kept;
    }
