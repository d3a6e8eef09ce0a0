use Rattle.std.proofs.Common.{◌≤◌, List, ℕ, length, sym, ap, ◌∙◌, arith, ◌<◌}
use Rattle.std.specs.Prelude.{All, Result}
use Rattle.hfs_btree.specs.declared.node.Node.{Node}
use Rattle.hfs_btree.specs.declared.fault.NodeFault.{NodeFault}
use Rattle.hfs_btree.specs.Node.{size_of}
use Rattle.hfs_btree.specs.Tree.{records_of}
use Rattle.hfs_btree.proofs.DecodedLemmas.{records-read}
use Rattle.hfs_btree_insertion.proofs.HalfRead.{none-read, of-view, to-view, some-size}
use Rattle.hfs_btree_insertion.proofs.PlaceBehind.{reads-read, roomy-cut}
use Rattle.hfs_btree_insertion.proofs.cut_place.cut_place.Goals as goal

pub new_place-at-requires : goal.new_place-at-requires
new_place-at-requires g c = reads-read g.K.Key c.args.key.now (g.N.Nodes.nodes c.args.nodes.now) c.args.n _ c.read.ensures c.args.above c.requires.reads

pub part_place-requires-clause-size : goal.part_place-requires-clause-size
part_place-requires-clause-size g c = c.size_in-size.ensures.size ∙ sym (ap (λ (r : Result Node NodeFault). size_of (records_of r)) c.in-Ok.ensures.node)

pub part_place-requires-clause-over : goal.part_place-requires-clause-over
part_place-requires-clause-over g c =
    let over = c.requires.over in
    let size = c.size_in-size.ensures.size in
    let same = ap size_of (records-read (g.N.Nodes.nodes c.args.nodes.now) c.args.n _ c.read.ensures) in
    omega (arith, over, size, same)

pub part_place-requires-clause-short : goal.part_place-requires-clause-short
part_place-requires-clause-short g c =
    let P : List (List ℕ) → Type 0 = λ xs. All (λ r. length r ≤ 140) xs in
    to-view (g.N.Nodes.nodes c.args.nodes.now) c.args.n _ c.read.ensures c.in-Ok.node c.in-Ok.ensures.node P c.requires.short

pub unreachable-requires : goal.unreachable-requires
unreachable-requires g c =
    let over = c.requires.over in
    none-read (g.N.Nodes.nodes c.args.nodes.now) c.args.n _ c.read.ensures c.in-Err.field-0 c.in-Err.ensures.node (some-size _ (omega (arith, over)))

pub returns-clause-less : goal.returns-clause-less
returns-clause-less g c =
    let P : List (List ℕ) → Type 0 = λ xs. c.part_place.result < length xs in
    of-view (g.N.Nodes.nodes c.args.nodes.now) c.args.n _ c.read.ensures c.in-Ok.node c.in-Ok.ensures.node P c.part_place.ensures.within

pub returns-clause-room : goal.returns-clause-room
returns-clause-room g c =
    roomy-cut g.K.Key c.args.key.now (g.N.Nodes.nodes c.args.nodes.now) c.args.n _ c.read.ensures c.in-Ok.node c.args.above c.new_place-at.result c.part_place.result c.args.len c.in-Ok.ensures.node c.new_place-at.ensures
    c.part_place.ensures.first c.part_place.ensures.second
