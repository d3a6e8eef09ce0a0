-- what came and the digits of what is still to come are the digits of all bytes
use Rattle.std.proofs.Common.{◌≡◌, ◌++◌, string_bytes, length}
use Rattle.hfs_texts.specs.Digits.{hex_text}
use Rattle.hfs_texts.proofs.digits.push_hex.Given as goal

abbrev pub invariant-loop-rest : goal.invariant-loop-rest
invariant-loop-rest l = string_bytes l.text ++ hex_text l.rest ≡ string_bytes l.initial.text ++ hex_text l.bytes

abbrev pub decreases-loop-rest : goal.decreases-loop-rest
decreases-loop-rest l = length l.rest
