-- the first bytes are as they were
use Rattle.std.proofs.Common.{◌≡◌, ◌-◌, ◌≤◌, take, vec_len}
use Rattle.hfs_texts.proofs.input.make_room.Given as goal

abbrev pub invariant-loop-bytes : goal.invariant-loop-bytes
invariant-loop-bytes l = (vec_len l.initial.bytes ≤ vec_len l.bytes) × (vec_len l.bytes ≤ l.initial.end) × (take (vec_len l.initial.bytes) l.bytes.items ≡ l.initial.bytes.items)

abbrev pub decreases-loop-bytes : goal.decreases-loop-bytes
decreases-loop-bytes l = l.initial.end - vec_len l.bytes
