use Rattle.std.proofs.Common.{◌≡◌, take}
use mathlib.Core.List.{IsPrefix}
use Rattle.hfs_runs.specs.Tellings.{AllBegin, OfEach}
use Rattle.hfs_runs.proofs.telling.learn_all.Given as goal

-- what the workers so far were told is learned
abbrev pub invariant-loop-done : goal.invariant-loop-done
invariant-loop-done l = record {
  told : OfEach (AllBegin l.viewer.list) (take l.done-index l.dones);
  saw : IsPrefix l.initial.viewer.list l.viewer.list;
  book : l.viewer.book ≡ l.initial.viewer.book;
}
