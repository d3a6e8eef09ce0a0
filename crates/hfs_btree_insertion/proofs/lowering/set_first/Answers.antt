use Rattle.std.proofs.Common.{◌≡◌, ◌<◌, ◌≤◌, ℕ, List, [], length, get_or, ap, subst, arith}
use Rattle.std.specs.Prelude.{true}
use Rattle.hfs_btree.specs.Node.{size_of}
use Rattle.hfs_btree.proofs.SizeLemmas.{size_of-set}
use Rattle.hfs_btree.specs.Tree.{records_in, records_of}
use Rattle.hfs_btree_edits.proofs.DecodesLemmas.{decodes-some}
use Rattle.hfs_btree_insertion.proofs.lowering.set_first.Goals as goal

pub viewed-node-requires-clause-decodes : goal.viewed-node-requires-clause-decodes
viewed-node-requires-clause-decodes g c = decodes-some (g.S.Nodes.nodes c.args.nodes.now) c.args.n c.requires.some

pub store_replaced-requires-clause-fits : goal.store_replaced-requires-clause-fits
store_replaced-requires-clause-fits g c =
    let nodes = g.S.Nodes.nodes c.args.nodes.now in
    let here : records_in nodes c.args.n ≡ c.viewed-node.result.records = ap records_of c.viewed-node.ensures.node in
    let L : List (List ℕ) → Type 0 = λ rs. 0 < length rs in
    let I : List (List ℕ) → Type 0 = λ rs. g.K.Key.is_index (get_or rs 0 []) ≡ true in
    let within = subst L here c.requires.some in
    let was = g.met.K.Key.index_len (get_or c.viewed-node.result.records 0 []) (subst I here c.requires.index) in
    let is = g.met.K.Key.index_len c.in_ok-made.made.items c.in_ok-made.ensures.index in
    let room : size_of c.viewed-node.result.records ≤ 496 = c.viewed-node.ensures.fits in
    omega (arith, size_of-set c.viewed-node.result.records 0 c.in_ok-made.made.items within, room, was, is)
