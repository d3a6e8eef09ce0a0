use Rattle.hfs_btree_edits.proofs.StoreLemmas.{stored, on-ok}
use Rattle.hfs_btree_edits.proofs.stored.store.Goals as goal

pub returns-clause-stored : goal.returns-clause-stored
returns-clause-stored g c = on-ok _ _ c.write.result (λ e. stored c.args.n c.args.node.now _ _ _ c.requires.within c.encode.ensures.node c.encode.ensures.clear e) c.write.ensures.written
