use Rattle.std.proofs.Common.{◌∙◌, sym}
use Rattle.hfs_btree_edits.proofs.StoreLemmas.{on-ok}
use Rattle.hfs_btree_insertion.proofs.LowerSteps.{entry-there, entry-index, entry-above, was-lowered, was-low}
use Rattle.hfs_btree_insertion.proofs.lowering.lower_first.Goals as goal

pub unreachable-requires : goal.unreachable-requires
unreachable-requires g c = entry-there g.K.Key c.args.key.now (g.S.Nodes.nodes c.args.nodes.now) c.args.n c.args.bytes.now c.requires.read c.requires.some c.in_default.ensures

pub is_above-requires : goal.is_above-requires
is_above-requires g c = entry-index g.K.Key c.args.key.now (g.S.Nodes.nodes c.args.nodes.now) c.args.n c.args.bytes.now c.requires.read c.in-Some.first.now c.in-Some.ensures.1 c.requires.index

pub returns-then-is_above-clause-low : goal.returns-then-is_above-clause-low
returns-then-is_above-clause-low g c =
    let nodes = g.S.Nodes.nodes c.args.nodes.now in
    let at = entry-above g.K.Key c.args.key.now nodes c.args.n c.args.bytes.now c.requires.read c.in-Some.first.now c.is_above.result c.in-Some.ensures.1 c.is_above.ensures in
    on-ok _ _ c.set_first.result
    (λ h. was-lowered g.K.Key c.args.key.now nodes c.args.n c.args.bytes.now c.requires.read _ (sym c.if-is_above.true ∙ at) h) c.set_first.ensures.set

pub returns-else-is_above-clause-low : goal.returns-else-is_above-clause-low
returns-else-is_above-clause-low g c =
    let nodes = g.S.Nodes.nodes c.args.nodes.now in
    let at = entry-above g.K.Key c.args.key.now nodes c.args.n c.args.bytes.now c.requires.read c.in-Some.first.now c.is_above.result c.in-Some.ensures.1 c.is_above.ensures in
    was-low g.K.Key c.args.key.now nodes c.args.n c.args.bytes.now c.requires.read (sym c.if-is_above.false ∙ at)
