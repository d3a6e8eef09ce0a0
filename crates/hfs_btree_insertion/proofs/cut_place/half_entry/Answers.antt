use Rattle.std.proofs.Common.{ap, length, ◌≡◌, List, ℕ, arith}
use Rattle.std.specs.Prelude.{true}
use Rattle.hfs_btree.specs.Tree.{reads_at}
use Rattle.hfs_btree_insertion.proofs.HalfRead.{none-read, view-same, to-entry, names-half}
use Rattle.hfs_btree_insertion.proofs.cut_place.half_entry.Goals as goal

pub record-requires : goal.record-requires
record-requires g c =
    let same = ap (λ (xs : List (List ℕ)). length xs) (view-same (g.N.Nodes.nodes c.args.nodes.now) c.args.n _ c.read.ensures c.in-Ok.node c.in-Ok.ensures.node) in
    let lt = c.requires.place in
    omega (arith, same, lt)

pub key_at-key-requires : goal.key_at-key-requires
key_at-key-requires g c =
    let P : List ℕ → Type 0 = λ e. reads_at g.K.Key c.args.above e ≡ true in
    to-entry (g.N.Nodes.nodes c.args.nodes.now) c.args.n _ c.read.ensures c.in-Ok.node c.in-Ok.ensures.node c.args.place c.record.result.now c.record.ensures.bytes P c.requires.reads

pub unreachable-requires : goal.unreachable-requires
unreachable-requires g c =
    let lt = c.requires.place in
    none-read (g.N.Nodes.nodes c.args.nodes.now) c.args.n _ c.read.ensures c.in-Err.field-0 c.in-Err.ensures.node (omega (arith, lt))

pub returns : goal.returns
returns g c =
    names-half (g.N.Nodes.nodes c.args.nodes.now) c.args.n _ c.read.ensures c.in-Ok.node c.in-Ok.ensures.node c.args.place c.record.result.now c.record.ensures.bytes g.K.Key c.args.above c.args.m c.key_at-key.result _
    c.key_at-key.ensures c.in_ok-entry-in-Ok.ensures.index c.in_ok-entry-in-Ok.ensures.key c.in_ok-entry-in-Ok.ensures.child
