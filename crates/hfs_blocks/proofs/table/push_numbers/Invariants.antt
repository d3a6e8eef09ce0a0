-- So many numbers came.
use Rattle.std.proofs.Common.{◌≡◌, ◌+◌}
use Rattle.std.specs.Prelude.{vec_len, vec_capacity}
use Rattle.hfs_blocks.specs.Tables.{HasNumbers}
use Rattle.hfs_blocks.proofs.table.push_numbers.Given as goal

abbrev pub invariant-loop-i : goal.invariant-loop-i
invariant-loop-i l = record {
  numbers : HasNumbers l.first l.i l.initial.numbers.items l.numbers.items;
  len : vec_len l.numbers ≡ vec_len l.initial.numbers + l.i;
  capacity : vec_capacity l.numbers ≡ vec_capacity l.initial.numbers;
}
