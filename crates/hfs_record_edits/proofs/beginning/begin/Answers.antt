use Rattle.std.proofs.Common.{ap}
use Rattle.hfs_btree.specs.declared.header.Header.{Header}
use Rattle.hfs_btree_edits.proofs.StoreLemmas.{on-ok}
use Rattle.hfs_btree_insertion.proofs.Taken.{stray-there}
use Rattle.hfs_record_edits.proofs.Begun.{lone-fits, begun-long, has-begun}
use Rattle.hfs_record_edits.proofs.beginning.begin.Goals as goal

pub store-requires-clause-within : goal.store-requires-clause-within
store-requires-clause-within g c =
    stray-there g.K.Key c.in_ok-n.n (g.S.Nodes.nodes c.args.nodes.now) (g.S.Nodes.nodes c.claim_node.new.nodes) (g.S.Nodes.nodes c.claim_node.new.nodes) c.in_ok-n.ensures.claimed c.requires.file

pub store-requires-clause-fits : goal.store-requires-clause-fits
store-requires-clause-fits g c = lone-fits c.in_ok-entry.entry.items c.in_ok-leaf.leaf c.in_ok-leaf.ensures (g.met.K.Key.leaf_small c.in_ok-entry.entry.items c.in_ok-entry.ensures.leaf)

pub read_header-header-requires : goal.read_header-header-requires
read_header-header-requires g c =
    (begun-long g.K.Key c.args.key.now c.args.body.now c.in_ok-n.n c.in_ok-entry.entry.items c.in_ok-leaf.leaf (g.S.Nodes.nodes c.args.nodes.now) (g.S.Nodes.nodes c.claim_node.new.nodes) (g.S.Nodes.nodes c.store.new.nodes)
    c.requires.sound c.requires.empty c.in_ok-n.ensures.claimed c.in_ok-leaf.ensures c.in_ok-store.ensures.stored).1

pub put_header-requires-clause-within : goal.put_header-requires-clause-within
put_header-requires-clause-within g c =
    (begun-long g.K.Key c.args.key.now c.args.body.now c.in_ok-n.n c.in_ok-entry.entry.items c.in_ok-leaf.leaf (g.S.Nodes.nodes c.args.nodes.now) (g.S.Nodes.nodes c.claim_node.new.nodes) (g.S.Nodes.nodes c.store.new.nodes)
    c.requires.sound c.requires.empty c.in_ok-n.ensures.claimed c.in_ok-leaf.ensures c.in_ok-store.ensures.stored).0

pub put_header-requires-clause-long : goal.put_header-requires-clause-long
put_header-requires-clause-long g c =
    (begun-long g.K.Key c.args.key.now c.args.body.now c.in_ok-n.n c.in_ok-entry.entry.items c.in_ok-leaf.leaf (g.S.Nodes.nodes c.args.nodes.now) (g.S.Nodes.nodes c.claim_node.new.nodes) (g.S.Nodes.nodes c.store.new.nodes)
    c.requires.sound c.requires.empty c.in_ok-n.ensures.claimed c.in_ok-leaf.ensures c.in_ok-store.ensures.stored).1

pub returns-clause-begun : goal.returns-clause-begun
returns-clause-begun g c =
    on-ok _ _ c.put_header.result
    (λ put. has-begun g.K.Key c.args.key.now c.args.body.now c.in_ok-n.n c.in_ok-entry.entry.items c.in_ok-leaf.leaf (g.S.Nodes.nodes c.args.nodes.now) (g.S.Nodes.nodes c.claim_node.new.nodes) (g.S.Nodes.nodes c.store.new.nodes)
    c.requires.sound c.requires.empty c.in_ok-n.ensures.claimed c.in_ok-leaf.ensures c.in_ok-store.ensures.stored _ _
    (ap (λ (h : Header). record h { depth = 1; root = c.in_ok-n.n; records = 1; first_leaf = c.in_ok-n.n; last_leaf = c.in_ok-n.n }) c.read_header-header.ensures) put
    c.in_ok-entry.ensures.leaf c.in_ok-entry.ensures.key c.in_ok-entry.ensures.body)
    c.put_header.ensures.put
