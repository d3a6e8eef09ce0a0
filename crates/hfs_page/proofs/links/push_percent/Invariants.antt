-- what came so far is appended
use Rattle.std.proofs.Common.{◌≡◌, ◌++◌, take}
use Rattle.std.specs.List.{flat_map}
use Rattle.hfs_page.specs.Links.{percent_byte}
use Rattle.hfs_page.proofs.links.push_percent.Given as goal

abbrev pub invariant-loop-byte : goal.invariant-loop-byte
invariant-loop-byte l = l.url.items ≡ l.initial.url.items ++ flat_map percent_byte (take l.byte-index l.path)
