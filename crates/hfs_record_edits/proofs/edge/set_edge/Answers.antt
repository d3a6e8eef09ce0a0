use Rattle.std.proofs.Common.{◌∙◌, refl, arith}
use Rattle.hfs_record_edits.proofs.SetEdge.{edge-init, edge-step, edge-end, set-some, set-within, set-index}
use Rattle.hfs_record_edits.proofs.edge.set_edge.Goals as goal

pub loop-here-init : goal.loop-here-init
loop-here-init g c =
    let first = edge-init g.K.Key c.args.key.now (g.S.Nodes.nodes c.args.nodes.now) c.requires.sound.structure c.args.header.now _ c.requires.some c.requires.header refl in
    record { within = first.0; at = first.1; set = first.2; kept = refl }

pub set_first-requires-clause-within : goal.set_first-requires-clause-within
set_first-requires-clause-within g c =
    let i = c.loop-here.invariant in
    set-within g.K.Key c.args.key.now (g.S.Nodes.nodes c.args.nodes.now) c.requires.sound.structure (g.S.Nodes.nodes c.loop-here.nodes) c.loop-here.here c.loop-here.n c.loop-here-test.true i.within i.at i.set

pub set_first-requires-clause-some : goal.set_first-requires-clause-some
set_first-requires-clause-some g c =
    let i = c.loop-here.invariant in
    set-some g.K.Key c.args.key.now (g.S.Nodes.nodes c.args.nodes.now) c.requires.sound.structure (g.S.Nodes.nodes c.loop-here.nodes) c.loop-here.here c.loop-here.n c.loop-here-test.true i.within i.at i.set

pub set_first-requires-clause-index : goal.set_first-requires-clause-index
set_first-requires-clause-index g c =
    let i = c.loop-here.invariant in
    set-index g.K.Key c.args.key.now (g.S.Nodes.nodes c.args.nodes.now) c.requires.sound.structure (g.S.Nodes.nodes c.loop-here.nodes) c.loop-here.here c.loop-here.n c.loop-here-test.true i.within i.at i.set

pub loop-here-preserved : goal.loop-here-preserved
loop-here-preserved g c =
    let i = c.loop-here.invariant in
    let next = edge-step g.K.Key c.args.key.now (g.S.Nodes.nodes c.args.nodes.now) c.requires.sound.structure (g.S.Nodes.nodes c.loop-here.nodes) c.loop-here.here c.loop-here.n c.loop-here-test.true i.within i.at i.set
    (g.S.Nodes.nodes c.set_first.new.nodes) _ c.in_ok-n.ensures.set in
    record { within = next.0; at = next.1; set = next.2; kept = c.in_ok-n.ensures.kept ∙ i.kept }

pub returns-clause-leaf : goal.returns-clause-leaf
returns-clause-leaf g c =
    let i = c.loop-here.invariant in
    let none = c.loop-here-test.false in
    (edge-end g.K.Key c.args.key.now (g.S.Nodes.nodes c.args.nodes.now) c.requires.sound.structure (g.S.Nodes.nodes c.loop-here.nodes) c.loop-here.here c.loop-here.n (omega (arith, none)) i.at i.set).0

pub returns-clause-set : goal.returns-clause-set
returns-clause-set g c =
    let i = c.loop-here.invariant in
    let none = c.loop-here-test.false in
    (edge-end g.K.Key c.args.key.now (g.S.Nodes.nodes c.args.nodes.now) c.requires.sound.structure (g.S.Nodes.nodes c.loop-here.nodes) c.loop-here.here c.loop-here.n (omega (arith, none)) i.at i.set).1
