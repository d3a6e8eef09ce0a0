-- what was passed stands for itself
use Rattle.std.proofs.Common.{◌≤◌, ◌-◌, length, take}
use Rattle.hfs_texts.specs.PlainTexts.{IsOwnText}
use Rattle.hfs_texts.proofs.plain.own_len.Given as goal

abbrev pub invariant-loop-len : goal.invariant-loop-len
invariant-loop-len l = (l.len ≤ length l.bytes) × IsOwnText (take l.len l.bytes)

abbrev pub decreases-loop-len : goal.decreases-loop-len
decreases-loop-len l = length l.bytes - l.len
