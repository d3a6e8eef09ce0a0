-- One block more came, or the kept patch has none.
use Rattle.std.proofs.Common.{◌≡◌, ◌+◌, ◌∙◌, false, ap, sym, subst, arith, rules}
use Rattle.std.specs.Prelude.{is_some}
use Rattle.hfs_blocks.specs.Layers.{Numbered, changes}
use Rattle.hfs_space.proofs.RunLemmas.{GainsUpTo, copied_some, gains_nothing, gains_put, gains_not}
use Rattle.hfs_space.proofs.again.put_again.Goals.{then-is_some+in_ok-put, else-is_some}
use Rattle.hfs_space.proofs.again.put_again.Goals as goal

pub returns-then-not-may_have : goal.returns-then-not-may_have
returns-then-not-may_have c = gains_nothing c.args.run c.args.kept.now c.args.again.now (c.may_have.ensures (let none : c.may_have.result ≡ false = search rules in none))

pub loop-n-preserved : goal.loop-n-preserved
loop-n-preserved c =
    let first = c.args.run.first in
    let n = c.loop-n.n in
    let kept = c.args.kept.now in
    let there : is_some (changes kept n) ≡ c.is_some.result = ap (λ o. is_some o) (sym c.get.ensures.value) ∙ copied_some c.get.result ∙ sym c.is_some.ensures in
    record {
      from = omega (arith, c.loop-n.invariant.from);
      gains = elim c.if-is_some.branch [
        | then-is_some+in_ok-put w ↦ subst (λ (now : Numbered). GainsUpTo first (n + 1) kept c.args.again.now now) (sym w.again-is)
            (gains_put first n kept c.args.again.now c.loop-n.again _ c.loop-n.invariant.from c.loop-n.invariant.gains (there ∙ w.if-is_some.true) w.in_ok-put.ensures.written)
        | else-is_some w ↦ subst (λ (now : Numbered). GainsUpTo first (n + 1) kept c.args.again.now now) (sym w.again-is)
            (gains_not first n kept c.args.again.now c.loop-n.again c.loop-n.invariant.gains (there ∙ w.if-is_some.false))
      ];
    }
