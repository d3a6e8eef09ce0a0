use Rattle.std.proofs.Common.{ap, subst, ℕ, ◌+◌, arith}
use Rattle.hfs_btree.specs.declared.header.Header.{Header}
use Rattle.hfs_btree_edits.specs.MapPlaces.{IsPlaced}
use Rattle.hfs_btree_edits.proofs.ApartLemmas.{marked-within}
use Rattle.hfs_btree_edits.proofs.StoreLemmas.{on-ok}
use Rattle.hfs_btree_edits.proofs.ClaimLemmas.{count-fits, give-back, blank-zeros}
use Rattle.hfs_btree_edits.proofs.releasing.release.Goals as goal

pub overflow_add-header : goal.overflow_add-header
overflow_add-header g c =
    let less = count-fits g.K.Key (g.S.Nodes.nodes c.args.nodes.now) c.requires.sound c.args.n c.read_header-header.result.free_nodes c.read_header-header.result.nodes c.requires.stray
    (ap (λ (x : Header). x.free_nodes) c.read_header-header.ensures) (ap (λ (x : Header). x.nodes) c.read_header-header.ensures) in
    omega (arith, less, c.read_header-header.type_inv)

pub returns-clause-released : goal.returns-clause-released
returns-clause-released g c =
    let nodes = g.S.Nodes.nodes c.args.nodes.now in
    let P : ℕ → Type 0 = λ m. IsPlaced nodes c.in-Some.bit.node c.in-Some.bit.entry c.in-Some.bit.bit m in
    on-ok _ _ c.write.result
    (λ written. give-back g.K.Key nodes c.requires.sound _ (g.S.Nodes.nodes c.put_bit.new.nodes) (g.S.Nodes.nodes c.put_header.new.nodes) c.in-Some.bit.node c.in-Some.bit.entry c.in-Some.bit.bit c.args.n
    (subst P c.in-Some.ensures.number c.in-Some.ensures.place) _ (g.S.Nodes.nodes c.write.new.self) c.requires.stray c.in_ok-put_bit.ensures.put c.in_ok-put_header.ensures.put
    (ap (λ (x : Header). record x { free_nodes = x.free_nodes + 1 }) c.read_header-header.ensures) written c.requires.within blank-zeros)
    c.write.ensures.written

pub unreachable-requires : goal.unreachable-requires
unreachable-requires g c =
    let lt = marked-within (g.S.Nodes.nodes c.args.nodes.now) c.args.n c.requires.stray.marked in
    let count = ap (λ (x : Header). x.nodes) c.read_header-header.ensures in
    let past = c.in_default.ensures.none in
    omega (arith, lt, count, past)
