-- One flag more came, which is not set.
use Rattle.std.proofs.Common.{◌+◌, ◌∙◌, ℕ, false, Bool, List, [], ◌∷◌, length, length-append, ap, arith}
use Rattle.hfs_space.specs.Flags.{is_flagged}
use Rattle.hfs_space.proofs.AllBlocks.{unset_pushed}
use Rattle.hfs_space.proofs.flags.more_flags.Goals as goal

pub loop-n-preserved : goal.loop-n-preserved
loop-n-preserved c = record {
  len = ap (λ (fs : List Bool). length fs) c.in_ok-push.ensures.items ∙ length-append c.loop-n.flags.items (false ∷ []) ∙ ap (λ (n : ℕ). n + 1) c.loop-n.invariant.len;
  same = λ k. ap (λ (fs : List Bool). is_flagged fs k) c.in_ok-push.ensures.items ∙ unset_pushed c.loop-n.flags.items k ∙ c.loop-n.invariant.same k;
}

pub returns-in_err-push-clause-same : goal.returns-in_err-push-clause-same
returns-in_err-push-clause-same c = λ k. ap (λ (fs : List Bool). is_flagged fs k) c.in_err-push.ensures.items ∙ c.loop-n.invariant.same k

pub returns-clause-enough : goal.returns-clause-enough
returns-clause-enough c = let past = c.loop-n-test.false in let long = c.loop-n.invariant.len in omega (arith, past, long)
