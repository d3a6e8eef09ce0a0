use Rattle.std.proofs.Common.{ap}
use Rattle.hfs_btree.specs.declared.node.Node.{Node}
use Rattle.hfs_btree_insertion.proofs.HalfRead.{first-fits, second-fits}
use Rattle.hfs_btree_edits.proofs.DecodesLemmas.{decodes-within}
use Rattle.hfs_btree_insertion.proofs.halving.halve.Goals as goal

pub store-requires-clause-within : goal.store-requires-clause-within
store-requires-clause-within g c = decodes-within (g.S.Nodes.nodes c.args.nodes.now) c.args.n c.requires.first.1

pub store-requires-clause-fits : goal.store-requires-clause-fits
store-requires-clause-fits g c =
    first-fits _ c.in_ok-first.first.records c.args.place (ap (λ (v : Node). v.records) c.in_ok-second.ensures.first) c.in_ok-first.ensures.fits

pub store-requires-2-clause-fits : goal.store-requires-2-clause-fits
store-requires-2-clause-fits g c =
    second-fits _ c.in_ok-first.first.records c.args.place (ap (λ (v : Node). v.records) c.in_ok-second.ensures.second) c.in_ok-first.ensures.fits
