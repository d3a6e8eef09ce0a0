use Rattle.hfs_btree_edits.proofs.StoreLemmas.{on-ok}
use Rattle.hfs_btree_insertion.proofs.MadeRoom.{made-cut, made-raised, raised-low, less-full, all-full, can-cut, can-cut_raised, least-full}
use Rattle.hfs_btree_insertion.proofs.LowerSteps.{some-levels_above}
use Rattle.hfs_btree_insertion.proofs.insertion.make_room.Goals as goal

pub cut_levels-requires-clause-full : goal.cut_levels-requires-clause-full
cut_levels-requires-clause-full g c =
    can-cut g.K.Key c.args.key.now c.args.len (g.S.Nodes.nodes c.args.nodes.now) c.requires.sound g.met.K.Key.index_len g.met.K.Key.index_small c.requires.short c.full_levels-full.result c.full_levels-full.ensures
    c.read_header-header.result c.read_header-header.ensures c.if-full-header.true

pub cut_levels-requires-2-clause-full : goal.cut_levels-requires-2-clause-full
cut_levels-requires-2-clause-full g c =
    let nodes = g.S.Nodes.nodes c.args.nodes.now in
    can-cut_raised g.K.Key c.args.key.now c.args.len nodes c.requires.sound g.met.K.Key.index_len g.met.K.Key.index_small c.requires.short c.full_levels-full.result c.full_levels-full.ensures
    c.read_header-header.result c.read_header-header.ensures c.if-full-header.false (some-levels_above g.K.Key c.args.key.now nodes c.requires.above) (g.S.Nodes.nodes c.raise.new.nodes) c.in_ok-raise.ensures.raised

pub cut_levels-requires-2-clause-low : goal.cut_levels-requires-2-clause-low
cut_levels-requires-2-clause-low g c =
    let nodes = g.S.Nodes.nodes c.args.nodes.now in
    let all =
    all-full g.K.Key c.args.key.now c.args.len nodes c.requires.sound g.met.K.Key.index_len g.met.K.Key.index_small c.requires.short c.full_levels-full.result c.full_levels-full.ensures c.read_header-header.result
    c.read_header-header.ensures c.if-full-header.false in
    raised-low g.K.Key g.met.K.Key.total c.args.key.now c.args.len nodes c.requires.sound c.requires.above c.requires.short c.requires.low c.full_levels-full.result c.full_levels-full.ensures all (g.S.Nodes.nodes c.raise.new.nodes)
    c.in_ok-raise.ensures.raised

pub returns-clause-room : goal.returns-clause-room
returns-clause-room g c =
    let nodes = g.S.Nodes.nodes c.args.nodes.now in
    let all =
    all-full g.K.Key c.args.key.now c.args.len nodes c.requires.sound g.met.K.Key.index_len g.met.K.Key.index_small c.requires.short c.full_levels-full.result c.full_levels-full.ensures c.read_header-header.result
    c.read_header-header.ensures c.if-full-header.false in
    let least =
    least-full g.K.Key c.args.key.now c.args.len nodes c.full_levels-full.result c.args.least c.full_levels-full.ensures (some-levels_above g.K.Key c.args.key.now nodes c.requires.above) c.requires.least c.requires.over in
    let can =
    can-cut_raised g.K.Key c.args.key.now c.args.len nodes c.requires.sound g.met.K.Key.index_len g.met.K.Key.index_small c.requires.short c.full_levels-full.result c.full_levels-full.ensures
    c.read_header-header.result c.read_header-header.ensures c.if-full-header.false (some-levels_above g.K.Key c.args.key.now nodes c.requires.above) (g.S.Nodes.nodes c.raise.new.nodes) c.in_ok-raise.ensures.raised in
    on-ok _ _ c.cut_levels-2.result
    (λ h. made-raised g.K.Key g.met.K.Key.total c.args.key.now c.args.len nodes c.requires.sound c.requires.above c.requires.short c.requires.low c.full_levels-full.result c.full_levels-full.ensures all
    (g.S.Nodes.nodes c.raise.new.nodes) c.in_ok-raise.ensures.raised c.args.least least (g.S.Nodes.nodes c.cut_levels-2.new.nodes) h can)
    c.cut_levels-2.ensures.cut

pub returns-then-full-header-clause-room : goal.returns-then-full-header-clause-room
returns-then-full-header-clause-room g c =
    let nodes = g.S.Nodes.nodes c.args.nodes.now in
    let less =
    less-full g.K.Key c.args.key.now c.args.len nodes c.requires.sound g.met.K.Key.index_len g.met.K.Key.index_small c.requires.short c.full_levels-full.result c.full_levels-full.ensures c.read_header-header.result
    c.read_header-header.ensures c.if-full-header.true in
    let least =
    least-full g.K.Key c.args.key.now c.args.len nodes c.full_levels-full.result c.args.least c.full_levels-full.ensures (some-levels_above g.K.Key c.args.key.now nodes c.requires.above) c.requires.least c.requires.over in
    on-ok _ _ c.cut_levels.result
    (λ h. made-cut g.K.Key g.met.K.Key.total c.args.key.now c.args.len nodes c.requires.sound c.requires.above c.requires.short c.requires.low c.full_levels-full.result c.full_levels-full.ensures less
    c.args.least least (g.S.Nodes.nodes c.cut_levels.new.nodes) h)
    c.cut_levels.ensures.cut

pub cut_levels-requires-clause-least : goal.cut_levels-requires-clause-least
cut_levels-requires-clause-least g c =
    let nodes = g.S.Nodes.nodes c.args.nodes.now in
    least-full g.K.Key c.args.key.now c.args.len nodes c.full_levels-full.result c.args.least c.full_levels-full.ensures (some-levels_above g.K.Key c.args.key.now nodes c.requires.above) c.requires.least c.requires.over

pub cut_levels-requires-2-clause-least : goal.cut_levels-requires-2-clause-least
cut_levels-requires-2-clause-least g c =
    let nodes = g.S.Nodes.nodes c.args.nodes.now in
    least-full g.K.Key c.args.key.now c.args.len nodes c.full_levels-full.result c.args.least c.full_levels-full.ensures (some-levels_above g.K.Key c.args.key.now nodes c.requires.above) c.requires.least c.requires.over
