-- A short list is its own front.
use Rattle.std.proofs.Common.{◌≤◌, length, arith, sym, length-take-le, take_all}
use Rattle.hfs_word_put.proofs.lines.first_told.Goals as goal

pub slice_bounds-result-end : goal.slice_bounds-result-end
slice_bounds-result-end c =
    let some : 100 ≤ length c.args.refused.now = omega arith in sym (length-take-le 100 c.args.refused.now some)

pub returns-then-refused-le-MOST_TOLD : goal.returns-then-refused-le-MOST_TOLD
returns-then-refused-le-MOST_TOLD c =
    let few : length c.args.refused.now ≤ 100 = omega arith in sym (take_all 100 c.args.refused.now few)
