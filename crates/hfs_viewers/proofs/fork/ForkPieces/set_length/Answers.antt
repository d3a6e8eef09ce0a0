-- A fork is cut, or zeros come after it.
use Rattle.std.proofs.Common.{◌≤◌, ℕ, subst, arith}
use Rattle.hfs_fields.proofs.OutcomeLemmas.{on_ok}
use Rattle.hfs_viewers.proofs.EditedPieces.{cut-resized, zeros-resized}
use Rattle.hfs_viewers.proofs.fork.ForkPieces.set_length.Goals as goal

pub returns-then-count-len-clause-ok : goal.returns-then-count-len-clause-ok
returns-then-count-len-clause-ok c =
    on_ok c.cut.result _ _
    (cut-resized c.args.self.now c.touch.new.self c.cut.new.self c.args.count c.in_ok-touch.ensures.ok (subst (λ (n : ℕ). c.args.count ≤ n) c.len.ensures (omega arith)))
    c.cut.ensures.ok

pub returns-clause-ok : goal.returns-clause-ok
returns-clause-ok c =
    on_ok c.push.result _ _
    (zeros-resized c.args.self.now c.touch.new.self c.push.new.self c.args.count c.in_ok-touch.ensures.ok (subst (λ (n : ℕ). n ≤ c.args.count) c.len.ensures (omega arith)))
    c.push.ensures.ok
