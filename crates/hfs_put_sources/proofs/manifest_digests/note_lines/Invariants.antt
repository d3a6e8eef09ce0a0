-- What the lines told so far, and behind it what those tell that are left.
use Rattle.std.proofs.Common.{length}
use Rattle.hfs_put_sources.specs.Lines.{lines}
use Rattle.hfs_put_sources.specs.Digests.{digest_by_line}
use Rattle.hfs_put_sources.proofs.LaterLemmas.{TellsOn}
use Rattle.hfs_put_sources.proofs.manifest_digests.note_lines.Given as goal

abbrev pub invariant-loop-rest : goal.invariant-loop-rest
invariant-loop-rest l = TellsOn (digest_by_line l.fn.front) (lines l.rest) (lines l.fn.text) l.fn.digests l.digests

abbrev pub decreases-loop-rest : goal.decreases-loop-rest
decreases-loop-rest l = length l.rest
