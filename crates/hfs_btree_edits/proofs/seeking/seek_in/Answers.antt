use Rattle.std.proofs.Common.{ℕ, ◌≤◌, List, length, map, sym, ap, ◌∙◌, arith}
use Rattle.std.proofs.lemmas.List.{drop_all}
use Rattle.hfs_btree.specs.Pairs.{lookup}
use Rattle.hfs_btree.specs.Tree.{pair_of, records_of}
use Rattle.hfs_btree_edits.proofs.seeking.seek_in.Goals as goal

pub returns-clause-none : goal.returns-clause-none
returns-clause-none g c =
    let es = c.in-Ok.node.records in
    let same = ap records_of c.in-Ok.ensures.node in
    let past : length es ≤ c.loop-i.i = omega (arith, c.len-i-end.ensures.count, c.loop-i-test.false) in
    let none = ap (λ (xs : List (List ℕ)). lookup g.K.Key.compare c.args.key.now (map (pair_of g.K.Key) xs)) (drop_all c.loop-i.i es past) in
    ap (λ (xs : List (List ℕ)). lookup g.K.Key.compare c.args.key.now (map (pair_of g.K.Key) xs)) (sym same) ∙ c.loop-i.invariant ∙ none
