-- Word by word.
use Rattle.std.proofs.Common.{◌∙◌, ◌+◌, ◌*◌, drop, ap, sym, arith}
use Rattle.hfs_source.specs.Sums.{sum_from}
use Rattle.hfs_source.proofs.SumLemmas.{sum-word, sum-end}
use Rattle.hfs_source.proofs.sums.sum_from.Goals as goal

pub loop-n-preserved : goal.loop-n-preserved
loop-n-preserved c =
    ap (λ s. sum_from s (drop (2 * (c.loop-n.n + 1)) c.args.bytes.now)) c.with_word-sum.ensures
    ∙ sym (sum-word c.loop-n.sum c.args.bytes.now c.loop-n.n (omega (arith, c.loop-n-test.true))) ∙ c.loop-n.invariant

pub returns : goal.returns
returns c = sym (sum-end c.loop-n.sum c.args.bytes.now c.loop-n.n (omega (arith, c.loop-n-test.false))) ∙ c.loop-n.invariant
