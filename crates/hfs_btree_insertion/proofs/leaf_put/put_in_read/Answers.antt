use Rattle.std.proofs.Common.{refl}
use Rattle.hfs_btree_edits.proofs.StoreLemmas.{on-ok}
use Rattle.hfs_btree_insertion.proofs.PutWhole.{record-put, fits-insert, place-as}
use Rattle.hfs_btree_edits.proofs.DecodesLemmas.{decodes-within}
use Rattle.hfs_btree_insertion.proofs.leaf_put.put_in_read.Goals as goal

pub store_inserted-requires-clause-within : goal.store_inserted-requires-clause-within
store_inserted-requires-clause-within g c = decodes-within (g.S.Nodes.nodes c.args.nodes.now) c.args.n c.requires.node

pub store_inserted-requires-clause-place : goal.store_inserted-requires-clause-place
store_inserted-requires-clause-place g c =
    place-as (g.S.Nodes.nodes c.args.nodes.now) c.args.n c.args.place c.viewed-node.result c.viewed-node.ensures.node c.requires.place

pub store_inserted-requires-clause-fits : goal.store_inserted-requires-clause-fits
store_inserted-requires-clause-fits g c =
    fits-insert (g.S.Nodes.nodes c.args.nodes.now) c.args.n c.args.place c.args.entry.items c.viewed-node.result _ c.viewed-node.ensures.node refl c.requires.room

pub returns-clause-put : goal.returns-clause-put
returns-clause-put g c =
    on-ok _ _ c.store_inserted.result
    (λ stored. record-put c.args.n c.args.place c.args.entry.items c.viewed-node.result _ _ _ c.viewed-node.ensures.node refl stored)
    c.store_inserted.ensures.stored
