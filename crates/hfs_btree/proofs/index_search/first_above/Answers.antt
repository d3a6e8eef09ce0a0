use Rattle.std.proofs.Common.{◌≡◌, ◌<◌, ℕ, [], length, get_or, sym, subst, arith}
use Rattle.std.specs.Prelude.{false}
use Rattle.std.proofs.lemmas.List.Sums.{prefix_len_is}
use Rattle.hfs_btree.specs.Search.{is_not_above}
use Rattle.hfs_btree.proofs.index_search.first_above.Goals as goal

pub returns : goal.returns
returns g c =
    let i = c.loop-from.invariant in
    let order = i.order in
    let within = i.within in
    let done = c.loop-from-test.false in
    let same : c.loop-from.to ≡ c.loop-from.from = omega (arith, order, done) in
    let H : ℕ → Type 0 = λ x. x < length c.args.node.now.records → is_not_above g.K.Key c.args.key.now (get_or c.args.node.now.records x []) ≡ false in
    sym (prefix_len_is (is_not_above g.K.Key c.args.key.now) c.args.node.now.records c.loop-from.from [] (omega (arith, order, within)) i.low (subst H same i.high))
