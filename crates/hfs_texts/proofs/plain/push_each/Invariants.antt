-- what came so far is appended
use Rattle.std.proofs.Common.{◌≡◌, ◌++◌, string_bytes, take}
use Rattle.std.specs.List.{flat_map}
use Rattle.hfs_texts.specs.PlainTexts.{plain_character}
use Rattle.hfs_texts.proofs.plain.push_each.Given as goal

abbrev pub invariant-loop-byte : goal.invariant-loop-byte
invariant-loop-byte l = string_bytes l.text ≡ string_bytes l.initial.text ++ flat_map plain_character (take l.byte-index l.bytes)
