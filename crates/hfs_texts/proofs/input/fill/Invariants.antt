-- what is filled is what the reader gave
use Rattle.std.proofs.Common.{◌≡◌, ◌<◌, length, take}
use Rattle.std.specs.Io.KnownBytes.{Consumes}
use Rattle.hfs_texts.proofs.input.fill.Given as goal

abbrev pub invariant-loop-turn : goal.invariant-loop-turn
invariant-loop-turn g l = (length l.buffer ≡ length l.initial.buffer) × (l.count < length l.buffer) × Consumes (g.R.Read.remaining l.initial.reader) (g.R.Read.remaining l.reader) (take l.count l.buffer)
