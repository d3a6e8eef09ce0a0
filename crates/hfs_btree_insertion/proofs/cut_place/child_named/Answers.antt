use Rattle.std.proofs.Common.{◌≡◌, List, ℕ, arith}
use Rattle.std.specs.Prelude.{true}
use Rattle.hfs_btree_insertion.proofs.HalfRead.{none-read, view-place, to-entry, child-read}
use Rattle.hfs_btree_insertion.proofs.cut_place.child_named.Goals as goal

pub record-requires : goal.record-requires
record-requires g c = view-place (g.N.Nodes.nodes c.args.nodes.now) c.args.n _ c.read.ensures c.in-Ok.node c.in-Ok.ensures.node c.args.place c.requires.place

pub child_of-requires : goal.child_of-requires
child_of-requires g c =
    let P : List ℕ → Type 0 = λ e. g.K.Key.is_index e ≡ true in
    to-entry (g.N.Nodes.nodes c.args.nodes.now) c.args.n _ c.read.ensures c.in-Ok.node c.in-Ok.ensures.node c.args.place c.record.result.now c.record.ensures.bytes P c.requires.reads

pub unreachable-requires : goal.unreachable-requires
unreachable-requires g c =
    let lt = c.requires.place in
    none-read (g.N.Nodes.nodes c.args.nodes.now) c.args.n _ c.read.ensures c.in-Err.field-0 c.in-Err.ensures.node (omega (arith, lt))

pub returns : goal.returns
returns g c =
    child-read (g.N.Nodes.nodes c.args.nodes.now) c.args.n _ c.read.ensures c.in-Ok.node c.in-Ok.ensures.node c.args.place c.record.result.now c.record.ensures.bytes g.K.Key c.child_of.result c.child_of.ensures
