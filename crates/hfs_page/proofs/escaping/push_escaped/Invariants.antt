-- what came so far is appended
use Rattle.std.proofs.Common.{◌≡◌, ◌++◌, take}
use Rattle.std.specs.List.{flat_map}
use Rattle.hfs_page.specs.Escapes.{escaped_byte}
use Rattle.hfs_page.proofs.escaping.push_escaped.Given as goal

abbrev pub invariant-loop-byte : goal.invariant-loop-byte
invariant-loop-byte l = l.page.items ≡ l.initial.page.items ++ flat_map escaped_byte (take l.byte-index l.text)
