use Rattle.std.proofs.Common.{arith}
use Rattle.hfs_btree_edits.proofs.StoreLemmas.{on-ok}
use Rattle.hfs_btree_insertion.proofs.Taken.{claimed-depth, stray-there}
use Rattle.hfs_btree_insertion.proofs.RaiseWhole.{raise-whole}
use Rattle.hfs_btree_insertion.proofs.new_root.raise.Goals as goal

pub put_root-requires-clause-some : goal.put_root-requires-clause-some
put_root-requires-clause-some g c =
    let same = claimed-depth g.K.Key c.in_ok-m.m (g.S.Nodes.nodes c.args.nodes.now) (g.S.Nodes.nodes c.claim_node.new.nodes) (g.S.Nodes.nodes c.claim_node.new.nodes) c.in_ok-m.ensures.claimed in
    let some = c.requires.some in
    omega (arith, same, some)

pub put_root-requires-clause-shallow : goal.put_root-requires-clause-shallow
put_root-requires-clause-shallow g c =
    let same = claimed-depth g.K.Key c.in_ok-m.m (g.S.Nodes.nodes c.args.nodes.now) (g.S.Nodes.nodes c.claim_node.new.nodes) (g.S.Nodes.nodes c.claim_node.new.nodes) c.in_ok-m.ensures.claimed in
    let shallow = c.requires.shallow in
    omega (arith, same, shallow)

pub put_root-requires-clause-within : goal.put_root-requires-clause-within
put_root-requires-clause-within g c =
    stray-there g.K.Key c.in_ok-m.m (g.S.Nodes.nodes c.args.nodes.now) (g.S.Nodes.nodes c.claim_node.new.nodes) (g.S.Nodes.nodes c.claim_node.new.nodes) c.in_ok-m.ensures.claimed c.requires.file

pub returns-clause-raised : goal.returns-clause-raised
returns-clause-raised g c =
    on-ok _ _ c.put_root.result
    (λ put. raise-whole g.K.Key g.met.K.Key.total (g.S.Nodes.nodes c.args.nodes.now) (g.S.Nodes.nodes c.claim_node.new.nodes) _ c.in_ok-m.m c.requires.sound c.in_ok-m.ensures.claimed put g.met.K.Key.index_len)
    c.put_root.ensures.put
