use Rattle.std.proofs.Common.{◌≡◌, ◌<◌, ◌≤◌, ℕ, List, [], length, get_or, sym, ap, subst, arith}
use Rattle.std.specs.Prelude.{true, remove}
use Rattle.hfs_btree.specs.Node.{size_of}
use Rattle.hfs_btree.proofs.SizeLemmas.{size_of-remove}
use Rattle.hfs_fields.proofs.ElementLemmas.{each-at}
use Rattle.hfs_btree.specs.Tree.{records_in, records_of}
use Rattle.hfs_btree_removal.proofs.PartsLess.{each-remove, length-remove'}
use Rattle.hfs_btree_edits.proofs.DecodesLemmas.{decodes-some}
use Rattle.hfs_btree_removal.proofs.detach.take_record.Goals as goal

pub load-requires : goal.load-requires
load-requires g c = let place = c.requires.place in decodes-some (g.S.Nodes.nodes c.args.nodes.now) c.args.step.now.node (omega (arith, place))

pub store-requires-clause-fits : goal.store-requires-clause-fits
store-requires-clause-fits g c =
    let here : records_in (g.S.Nodes.nodes c.args.nodes.now) c.args.step.now.node ≡ c.in_ok-node.node.records = ap records_of c.in_ok-node.ensures.node in
    let L : List (List ℕ) → Type 0 = λ rs. c.args.step.now.place < length rs in
    let P : List (List ℕ) → Type 0 = λ rs. size_of rs ≤ 496 in
    let room : size_of c.in_ok-node.node.records ≤ 496 = c.in_ok-node.ensures.fits in
    let within = subst L here c.requires.place in
    subst P (sym c.remove-taken.ensures.rest) (omega (arith, size_of-remove c.in_ok-node.node.records c.args.step.now.place within, room))

pub first_key_of-requires-clause-leaf : goal.first_key_of-requires-clause-leaf
first_key_of-requires-clause-leaf g c = λ kind.
    let here : records_in (g.S.Nodes.nodes c.args.nodes.now) c.args.step.now.node ≡ c.in_ok-node.node.records = ap records_of c.in_ok-node.ensures.node in
    let F : List ℕ → Type 0 = λ e. g.K.Key.is_leaf e ≡ true in
    let P : List (List ℕ) → Type 0 = λ rs. F (get_or rs 0 []) in
    let L : List (List ℕ) → Type 0 = λ rs. c.args.step.now.place < length rs in
    let M : List (List ℕ) → Type 0 = λ rs. 2 ≤ length rs in
    let within = subst L here c.requires.place in
    let more = subst M here c.requires.more in
    let rs = c.in_ok-node.node.records in
    let left = each-remove F rs c.args.step.now.place (c.requires.leaf c.in_ok-node.node c.in_ok-node.ensures.node kind) in
    let one = length-remove' rs c.args.step.now.place within in
    subst P (sym c.remove-taken.ensures.rest) (each-at F (remove rs c.args.step.now.place) 0 [] left (omega arith))

pub first_key_of-requires-clause-index : goal.first_key_of-requires-clause-index
first_key_of-requires-clause-index g c = λ kind.
    let here : records_in (g.S.Nodes.nodes c.args.nodes.now) c.args.step.now.node ≡ c.in_ok-node.node.records = ap records_of c.in_ok-node.ensures.node in
    let F : List ℕ → Type 0 = λ e. g.K.Key.is_index e ≡ true in
    let P : List (List ℕ) → Type 0 = λ rs. F (get_or rs 0 []) in
    let L : List (List ℕ) → Type 0 = λ rs. c.args.step.now.place < length rs in
    let M : List (List ℕ) → Type 0 = λ rs. 2 ≤ length rs in
    let within = subst L here c.requires.place in
    let more = subst M here c.requires.more in
    let rs = c.in_ok-node.node.records in
    let left = each-remove F rs c.args.step.now.place (c.requires.index c.in_ok-node.node c.in_ok-node.ensures.node kind) in
    let one = length-remove' rs c.args.step.now.place within in
    subst P (sym c.remove-taken.ensures.rest) (each-at F (remove rs c.args.step.now.place) 0 [] left (omega arith))
