use Rattle.hfs_btree.specs.Node.{node_from}
use Rattle.hfs_btree_edits.proofs.StoreLemmas.{stored, on-ok}
use Rattle.hfs_btree_edits.proofs.stored.store_row.Goals as goal

pub returns-clause-stored : goal.returns-clause-stored
returns-clause-stored g c =
    on-ok _ _ c.write.result
    (λ e. stored c.args.n (node_from c.args.head.now (g.R.RecordRow.records c.args.row.now)) _ _ _ c.requires.within c.encode_row.ensures.node c.encode_row.ensures.clear e)
    c.write.ensures.written
