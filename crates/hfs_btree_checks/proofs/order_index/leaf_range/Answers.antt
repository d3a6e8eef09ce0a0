use Rattle.std.proofs.Common.{◌≡◌, ℕ, ◌<◌, List, [], ◌∷◌, ◌++◌, length, map, take, sym, ap, ◌∙◌, subst, arith}
use Rattle.std.proofs.lemmas.List.{take_more, map-append}
use Rattle.hfs_btree.specs.Pairs.{Pairs}
use Rattle.hfs_btree_checks.specs.Subtree.{HasRange}
use Rattle.hfs_btree.specs.Tree.{pair_of}
use Rattle.hfs_btree_checks.proofs.order_index.leaf_range.Goals as goal

pub loop-i-preserved : goal.loop-i-preserved
loop-i-preserved g c =
    let rs = c.args.node.now.records in
    let lt : c.loop-i.i < length rs = omega (arith, c.len-i-end.ensures.count, c.loop-i-test.true) in
    let P : Pairs _ → Type 0 = λ ps. HasRange g.K.Key.compare c.widened-range.result ps in
    let more = take_more rs c.loop-i.i [] lt ∙ ap (λ (x : List ℕ). take c.loop-i.i rs ++ x ∷ []) (sym c.record.ensures.bytes) in
    subst P (sym (ap (map (pair_of g.K.Key)) more ∙ map-append (pair_of g.K.Key) (take c.loop-i.i rs) (c.record.result.now ∷ [])))
    (c.widened-range.ensures _ c.loop-i.invariant)
