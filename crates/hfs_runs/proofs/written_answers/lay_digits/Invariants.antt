use Rattle.std.proofs.Common.{◌≡◌, ◌*◌, length, take}
use Rattle.hfs_texts.specs.Lines.{hex_text}
use Rattle.hfs_runs.proofs.written_answers.lay_digits.Given as goal

-- the bytes so far have their digits
abbrev pub invariant-loop-i : goal.invariant-loop-i
invariant-loop-i l = record {
  len : length l.digits ≡ 2 * length l.bytes;
  laid : take (2 * l.i) l.digits ≡ hex_text (take l.i l.bytes);
}
