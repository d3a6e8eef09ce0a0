use Rattle.hfs_btree_edits.proofs.DecodesLemmas.{decodes-within}
use Rattle.hfs_btree_insertion.proofs.leaf_put.put_record.Goals as goal

pub read-requires : goal.read-requires
read-requires g c = decodes-within (g.S.Nodes.nodes c.args.nodes.now) c.args.n c.requires.node
