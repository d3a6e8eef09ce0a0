use Rattle.std.proofs.Common.{◌≡◌, map}
use Rattle.hfs_shared.specs.declared.done.Done.{Done}
use Rattle.hfs_runs.proofs.closing.part_dones.Given as goal

-- the passes and the answers so far
abbrev pub invariant-loop-done : goal.invariant-loop-done
invariant-loop-done l = record {
  passes : l.passes.items ≡ map (λ (done : Done). done.pass) l.yielded;
  replies : l.replies.items ≡ map (λ (done : Done). done.replies) l.yielded;
}
