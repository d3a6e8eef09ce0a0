-- what is read so far stands before what is left
use Rattle.std.proofs.Common.{◌≡◌, length}
use Rattle.hfs_scripts.specs.Scripts.{lines_read}
use Rattle.hfs_scripts.proofs.Steps.{behind_lines}
use Rattle.hfs_scripts.proofs.reading.read_lines.Given as goal

abbrev pub invariant-loop-rest : goal.invariant-loop-rest
invariant-loop-rest l = lines_read l.now l.fn.bytes ≡ behind_lines l.lines.items (lines_read l.now l.rest)

abbrev pub decreases-loop-rest : goal.decreases-loop-rest
decreases-loop-rest l = length l.rest
