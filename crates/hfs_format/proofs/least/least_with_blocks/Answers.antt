use Rattle.std.proofs.Common.{rules, ◌≡◌, ◌+◌, ◌-◌, ◌/◌, ℕ, false, arith}
use Rattle.hfs_format.specs.Wanted.{has_blocks}
use Rattle.hfs_format.proofs.SizeLemmas.{factor-within, none-below}
use Rattle.hfs_format.proofs.least.least_with_blocks.Goals as goal

pub returns-then-not-has_blocks : goal.returns-then-not-has_blocks
returns-then-not-has_blocks c =
    let a = c.args in
    let none : has_blocks a.wanted a.last ≡ false = search rules in
    λ n from to. none-below a.wanted a.factor n a.last (factor-within a.factor a.first a.last n c.requires.first c.requires.last from to) c.requires.last to none

pub has_blocks-requires-in-loop-low-clause-factor : goal.has_blocks-requires-in-loop-low-clause-factor
has_blocks-requires-in-loop-low-clause-factor c =
    factor-within c.args.factor c.args.first c.args.last (c.loop-low.low + (c.loop-low.high - c.loop-low.low) / 2) c.requires.first c.requires.last
    (omega arith) (omega arith)

pub loop-low-preserved : goal.loop-low-preserved
loop-low-preserved c =
    let a = c.args in
    let middle : ℕ = c.loop-low.low + (c.loop-low.high - c.loop-low.low) / 2 in
    let none : has_blocks a.wanted middle ≡ false = search rules in
    record {
      low = omega arith;
      order = omega arith;
      high = omega arith;
      enough = c.loop-low.invariant.enough;
      none = λ n from less. none-below a.wanted a.factor n middle
          (factor-within a.factor a.first a.last n c.requires.first c.requires.last from (omega arith))
          (factor-within a.factor a.first a.last middle c.requires.first c.requires.last (omega arith) (omega arith)) (omega arith) none;
    }
