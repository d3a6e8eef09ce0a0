use Rattle.std.proofs.Common.{◌≡◌, ◌∙◌, ap, sym, false, List, ℕ, map, drop, arith, ◌<◌, length}
use Rattle.std.specs.Ordering.{is_gt}
use Rattle.std.proofs.lemmas.List.{drop-map}
use Rattle.hfs_btree.specs.Pairs.{pairs_from}
use Rattle.hfs_btree.specs.Tree.{pair_of, records_of}
use Rattle.hfs_btree.proofs.Steps.{from-here}
use Rattle.hfs_btree.proofs.leaf.place_in.Goals as goal

pub returns-then-not-is_gt-clause-from : goal.returns-then-not-is_gt-clause-from
returns-then-not-is_gt-clause-from g c =
    let es = c.in-Ok.node.records in
    let same = ap records_of c.in-Ok.ensures.node in
    let hit : is_gt (g.K.Key.compare c.args.key.now (g.K.Key.leaf_key c.record.result.now)) ≡ false = cc (c.is_gt.ensures, c.compare_leaf-order.ensures, c.if-not-is_gt.true) in
    let lt : c.loop-i.i < length es = omega (arith, c.len-i-end.ensures.count) in
    ap (λ (xs : List (List ℕ)). drop c.loop-i.i (map (pair_of g.K.Key) xs)) (sym same)
    ∙ drop-map (pair_of g.K.Key) c.loop-i.i es
    ∙ sym (from-here g.K.Key c.args.key.now es c.loop-i.i c.record.result.now lt c.record.ensures.bytes hit)
    ∙ sym c.loop-i.invariant
    ∙ ap (λ (xs : List (List ℕ)). pairs_from g.K.Key.compare c.args.key.now (map (pair_of g.K.Key) xs)) same
