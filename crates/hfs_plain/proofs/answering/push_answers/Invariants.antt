use Rattle.std.proofs.Common.{◌≡◌, ◌+◌, ◌++◌, drop, string_bytes}
use Rattle.hfs_plain.specs.Lines.{answers_text}
use Rattle.hfs_plain.proofs.answering.push_answers.Given as goal

abbrev pub invariant-loop-i : goal.invariant-loop-i
invariant-loop-i l = string_bytes l.text ++ answers_text (l.i + 1) (drop l.i l.replies) ≡ string_bytes l.initial.text ++ answers_text 1 l.replies
