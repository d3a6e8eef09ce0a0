use Rattle.std.proofs.Common.{◌≡◌, ◌+◌, ◌++◌, length}
use Rattle.hfs_format.specs.BitRow.{bit_row}
use Rattle.hfs_format.proofs.bit_row.push_bits.Given as goal

abbrev pub invariant-loop-i : goal.invariant-loop-i
invariant-loop-i l = record { bytes : l.row ≡ l.initial.row ++ bit_row l.set l.first l.i; length : length l.row ≡ length l.initial.row + l.i }
