use Rattle.std.proofs.Common.{◌≡◌, ◌*◌, ◌-◌, ◌<◌, ◌≤◌, length, take}
use Rattle.std.specs.Io.KnownBytes.{Appends}
use Rattle.hfs_texts.specs.Lines.{hex_text}
use Rattle.hfs_runs.proofs.written_answers.put_digits.Given as goal

-- the digits of the bytes so far were written
abbrev pub invariant-loop-done : goal.invariant-loop-done
invariant-loop-done g l = record {
  within : l.done ≤ length l.bytes;
  some : 0 < l.most;
  room : 2 * l.most ≤ length l.room;
  len : length l.room ≡ length l.fn.room;
  written : Appends (g.W.Write.contents l.fn.writer) (g.W.Write.contents l.writer) (hex_text (take l.done l.bytes));
}

abbrev pub decreases-loop-done : goal.decreases-loop-done
decreases-loop-done g l = length l.bytes - l.done
