-- so far there are digits, of this value
use Rattle.std.proofs.Common.{◌≡◌, ◌<◌, ◌^◌, true, take}
use Rattle.std.specs.Str.{all_ascii_digits}
use Rattle.std.specs.Str.Parse.{digits_value}
use Rattle.hfs_scripts.proofs.numbers.read_number.Given as goal

abbrev pub invariant-loop-byte : goal.invariant-loop-byte
invariant-loop-byte l = record { digits : all_ascii_digits (take l.byte-index l.field) ≡ true; value : l.value ≡ digits_value 10 (take l.byte-index l.field); small : l.value < 2 ^ 32 }
