use Rattle.std.proofs.Common.{◌≡◌, ◌<◌, ◌≤◌, ℕ, List, [], length, get_or, sym, ap, subst, arith}
use Rattle.std.specs.Prelude.{true}
use Rattle.hfs_btree.specs.Node.{size_of}
use Rattle.hfs_btree.proofs.SizeLemmas.{size_of-set}
use Rattle.hfs_btree.specs.Tree.{records_in, records_of}
use Rattle.hfs_btree_edits.proofs.DecodesLemmas.{decodes-some}
use Rattle.hfs_btree_removal.proofs.pass_up.set_key.Goals as goal

pub load-requires : goal.load-requires
load-requires g c = let place = c.requires.place in decodes-some (g.S.Nodes.nodes c.args.nodes.now) c.args.step.now.node (omega (arith, place))

pub store-requires-clause-fits : goal.store-requires-clause-fits
store-requires-clause-fits g c =
    let nodes = g.S.Nodes.nodes c.args.nodes.now in
    let here : records_in nodes c.args.step.now.node ≡ c.in_ok-node.node.records = ap records_of c.in_ok-node.ensures.node in
    let P : List (List ℕ) → Type 0 = λ rs. size_of rs ≤ 496 in
    let L : List (List ℕ) → Type 0 = λ rs. c.args.step.now.place < length rs in
    let I : List (List ℕ) → Type 0 = λ rs. g.K.Key.is_index (get_or rs c.args.step.now.place []) ≡ true in
    let within = subst L here c.requires.place in
    let was = g.met.K.Key.index_len (get_or c.in_ok-node.node.records c.args.step.now.place []) (subst I here c.requires.index) in
    let is = g.met.K.Key.index_len c.in_ok-made.made.items c.in_ok-made.ensures.index in
    let room : size_of c.in_ok-node.node.records ≤ 496 = c.in_ok-node.ensures.fits in
    subst P (sym c.replace-old.ensures.rest)
    (omega (arith, size_of-set c.in_ok-node.node.records c.args.step.now.place c.in_ok-made.made.items within, room, was, is))
