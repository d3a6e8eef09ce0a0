use Rattle.std.proofs.Common.{◌≡◌, string_bytes, take}
use Rattle.hfs_runs.specs.Answers.{answers_text, is_whole, kept_replies}
use Rattle.hfs_runs.proofs.answer_text.answers_text.Given as goal

-- the answers so far
abbrev pub invariant-loop-asked : goal.invariant-loop-asked
invariant-loop-asked l = record {
  text : string_bytes l.text ≡ answers_text (kept_replies l.replies) (take l.asked-index l.lines);
  whole : l.whole ≡ is_whole (kept_replies l.replies) (take l.asked-index l.lines);
}
