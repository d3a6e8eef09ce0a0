use Rattle.std.proofs.Common.{◌≡◌, map}
use Rattle.hfs_runs.specs.declared.viewing.Viewing.{Viewing}
use Rattle.hfs_runs.proofs.closing.part_viewings.Given as goal

-- the viewers and the answers so far
abbrev pub invariant-loop-viewing : goal.invariant-loop-viewing
invariant-loop-viewing l = record {
  viewers : l.viewers.items ≡ map (λ (one : Viewing). one.viewer) l.yielded;
  replies : l.replies.items ≡ map (λ (one : Viewing). one.replies) l.yielded;
}
