-- Behind the bytes so far come those that are left, in lower case.
use Rattle.std.proofs.Common.{◌≡◌, ◌++◌, drop, map}
use Rattle.std.specs.Char.{to_ascii_lowercase}
use Rattle.hfs_remains_places.proofs.entries.lowered.Given as goal

abbrev pub invariant-loop-byte : goal.invariant-loop-byte
invariant-loop-byte l = l.row.items ++ map to_ascii_lowercase (drop l.byte-index l.bytes) ≡ map to_ascii_lowercase l.bytes
