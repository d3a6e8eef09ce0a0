-- the bytes before the count were written
use Rattle.std.proofs.Common.{◌≤◌, length, take}
use Rattle.std.specs.Io.KnownBytes.{Appends}
use Rattle.hfs_texts.proofs.output.put.Given as goal

abbrev pub invariant-loop-turn : goal.invariant-loop-turn
invariant-loop-turn g l = (l.count ≤ length l.bytes)
    × Appends (g.W.Write.contents l.fn.writer) (g.W.Write.contents l.writer) (take l.count l.bytes)
