-- the part and what is left of the path make the last part
use Rattle.std.proofs.Common.{◌≡◌, ◌+◌, length}
use Rattle.std.specs.List.{fold}
use Rattle.hfs_rescue_items.specs.Plan.{last_part, part_behind}
use Rattle.hfs_rescue_items.proofs.plan.last_part.Given as goal

abbrev pub invariant-loop-rest : goal.invariant-loop-rest
invariant-loop-rest l = (fold part_behind l.part l.rest ≡ last_part l.fn.place l.fn.path) × (l.part.to + length l.rest ≡ length l.fn.path)

abbrev pub decreases-loop-rest : goal.decreases-loop-rest
decreases-loop-rest l = length l.rest
