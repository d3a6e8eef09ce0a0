use Rattle.std.proofs.Common.{ap, ◌+◌}
use Rattle.hfs_btree.specs.declared.header.Header.{Header}
use Rattle.hfs_btree_edits.proofs.StoreLemmas.{on-ok}
use Rattle.hfs_btree_insertion.proofs.RaiseWhole.{root-fits, root-long, root-put}
use Rattle.hfs_btree_insertion.proofs.new_root.put_root.Goals as goal

pub put_header-requires-clause-long : goal.put_header-requires-clause-long
put_header-requires-clause-long g c =
    (root-long g.K.Key g.met.K.Key.total (g.S.Nodes.nodes c.args.nodes.now) (g.S.Nodes.nodes c.store.new.nodes) c.args.m c.in_ok-root.root c.requires.sound c.requires.some c.requires.shallow c.requires.stray
    c.in_ok-root.ensures.above c.in_ok-store.ensures.stored).1

pub returns-clause-put : goal.returns-clause-put
returns-clause-put g c =
    on-ok _ _ c.put_header.result
    (λ put. root-put g.K.Key g.met.K.Key.total (g.S.Nodes.nodes c.args.nodes.now) (g.S.Nodes.nodes c.store.new.nodes) c.args.m c.in_ok-root.root c.requires.sound c.requires.some c.requires.shallow c.requires.stray
    c.in_ok-root.ensures.above c.in_ok-store.ensures.stored _ _ (ap (λ (h : Header). record h { root = c.args.m; depth = h.depth + 1 }) c.read_header-header.ensures) put)
    c.put_header.ensures.put

pub store-requires-clause-fits : goal.store-requires-clause-fits
store-requires-clause-fits g c = root-fits g.K.Key (g.S.Nodes.nodes c.args.nodes.now) c.in_ok-root.root c.in_ok-root.ensures.above g.met.K.Key.index_small
