use Rattle.std.proofs.Common.{◌≡◌, ◌<◌, ℕ, get_or}
use Rattle.hfs_shared.specs.Desks.{PassState, pass_state}
use Rattle.hfs_shared.proofs.desk.closing.has.Given as goal

abbrev pub invariant-loop-pass : goal.invariant-loop-pass
invariant-loop-pass l = (k : ℕ) → k < l.pass-index → ((d : PassState) → get_or l.passes.items k d ≡ pass_state l.worker l.number) → ⊥
