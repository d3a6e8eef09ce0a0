use Rattle.std.proofs.Common.{ap, ◌-◌, arith}
use Rattle.hfs_btree.specs.declared.header.Header.{Header}
use Rattle.hfs_btree_edits.proofs.ClaimLemmas.{some-node, claim}
use Rattle.hfs_btree_edits.proofs.claim.claim_node.Goals as goal

pub free_bit-requires-clause-some : goal.free_bit-requires-clause-some
free_bit-requires-clause-some g c = some-node g.K.Key (g.S.Nodes.nodes c.args.nodes.now) c.requires.sound

pub returns-clause-claimed : goal.returns-clause-claimed
returns-clause-claimed g c =
    let within = c.in-Some.ensures.within in
    let count = ap (λ (x : Header). x.nodes) c.read_header-header.ensures in
    claim g.K.Key (g.S.Nodes.nodes c.args.nodes.now) c.requires.sound _ (g.S.Nodes.nodes c.put_bit.new.nodes) (g.S.Nodes.nodes c.put_header.new.nodes) c.in-Some.free.node c.in-Some.free.entry
    c.in-Some.free.bit c.in-Some.free.number c.in-Some.ensures.place c.requires.some (omega (arith, within, count)) c.in-Some.ensures.clear c.in_ok-put_bit.ensures.put c.in_ok-put_header.ensures.put
    (ap (λ (x : Header). record x { free_nodes = x.free_nodes - 1 }) c.read_header-header.ensures)
