use Rattle.std.proofs.Common.{◌≡◌, ◌+◌, ◌/◌, subst, ℕ, false, arith}
use Rattle.hfs_format.specs.Least.{IsLeastFrom}
use Rattle.hfs_format.specs.Wanted.{has_blocks}
use Rattle.hfs_format.proofs.PlanNumbers.{factor_is}
use Rattle.hfs_format.proofs.SizeLemmas.{factor-last, least-of_range, none-of_range}
use Rattle.hfs_format.proofs.least.least_blocks.Goals as goal

pub least_with_blocks-requires-clause-first : goal.least_with_blocks-requires-clause-first
least_with_blocks-requires-clause-first c = factor_is c.loop-first.first

pub least_with_blocks-requires-clause-last : goal.least_with_blocks-requires-clause-last
least_with_blocks-requires-clause-last c =
    let first = c.loop-first.first in
    (factor-last (first / 65536 + 1) first c.min-last.result (factor_is first) (omega (arith, c.loop-first-test.true)) c.min-last.ensures).0

pub returns-in-Some-clause-least : goal.returns-in-Some-clause-least
returns-in-Some-clause-least c =
    let first = c.loop-first.first in
    let factor : ℕ = first / 65536 + 1 in
    let last = c.min-last.result in
    let is = factor-last factor first last (factor_is first) (omega (arith, c.loop-first-test.true)) c.min-last.ensures in
    let found = c.in-Some.ensures in
    let wanted = c.wanted_blocks-wanted.ensures in
    least-of_range c.args.nodes c.args.items.now c.args.from first last factor c.in-Some.least (factor_is first) is.0 (omega arith)
    c.loop-first.invariant.after c.loop-first.invariant.none found.0 (subst (λ w. IsLeastFrom first (has_blocks w) c.in-Some.least) wanted found.1)

pub loop-first-preserved : goal.loop-first-preserved
loop-first-preserved c =
    let first = c.loop-first.first in
    let factor : ℕ = first / 65536 + 1 in
    let last = c.min-last.result in
    let is = factor-last factor first last (factor_is first) (omega (arith, c.loop-first-test.true)) c.min-last.ensures in
    record {
      after = omega arith;
      none = none-of_range c.args.nodes c.args.items.now c.args.from first last factor (factor_is first) is.0 (omega arith)
          c.loop-first.invariant.none
          (λ n from to. subst (λ w. has_blocks w n ≡ false) c.wanted_blocks-wanted.ensures (c.in_default.ensures n from to));
    }
