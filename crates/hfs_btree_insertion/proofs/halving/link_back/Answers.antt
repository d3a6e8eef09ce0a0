use Rattle.hfs_btree_edits.proofs.DecodesLemmas.{decodes-within}
use Rattle.hfs_btree_insertion.proofs.halving.link_back.Goals as goal

pub store-requires-clause-within : goal.store-requires-clause-within
store-requires-clause-within g c = decodes-within (g.S.Nodes.nodes c.args.nodes.now) c.args.n c.requires
