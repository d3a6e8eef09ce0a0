-- what the lines that are left tell is what all of them tell
use Rattle.std.proofs.Common.{◌≡◌, length, codes}
use Rattle.hfs_put_sources.specs.Lines.{first_value, lines}
use Rattle.hfs_put_sources.proofs.lines.external_identifier.Given as goal

abbrev pub invariant-loop-rest : goal.invariant-loop-rest
invariant-loop-rest l = first_value (codes "External-Identifier: ") (lines l.fn.info) ≡ first_value (codes "External-Identifier: ") (lines l.rest)

abbrev pub decreases-loop-rest : goal.decreases-loop-rest
decreases-loop-rest l = length l.rest
