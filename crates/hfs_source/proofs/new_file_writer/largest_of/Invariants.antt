-- Where the largest byte so far is zero, the bytes so far are zeros.
use Rattle.std.proofs.Common.{◌≡◌, take}
use Rattle.std.specs.Prelude.{replicate}
use Rattle.hfs_source.proofs.new_file_writer.largest_of.Given as goal

abbrev pub invariant-loop-byte : goal.invariant-loop-byte
invariant-loop-byte l = l.largest ≡ 0 → take l.byte-index l.bytes ≡ replicate l.byte-index 0
