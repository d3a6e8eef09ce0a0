use Rattle.std.proofs.Common.{◌≡◌, take}
use mathlib.Core.List.{IsPrefix}
use Rattle.hfs_runs.specs.Tellings.{AllBegin}
use Rattle.hfs_runs.proofs.telling.learn.Given as goal

-- the told lists so far are learned
abbrev pub invariant-loop-answer : goal.invariant-loop-answer
invariant-loop-answer l = record {
  told : AllBegin l.viewer.list (take l.answer-index l.answers);
  saw : IsPrefix l.initial.viewer.list l.viewer.list;
  book : l.viewer.book ≡ l.initial.viewer.book;
}
