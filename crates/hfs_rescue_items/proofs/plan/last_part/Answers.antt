-- Byte by byte.
use Rattle.std.proofs.Common.{◌-◌, length, take, drop, slice_index_or}
use Rattle.hfs_rescue_items.specs.Plan.{last_part}
use Rattle.hfs_rescue_items.proofs.PlanLemmas.{last_more, left-step, split-first}
use Rattle.hfs_rescue_items.proofs.plan.last_part.Goals as goal

pub loop-rest-preserved : goal.loop-rest-preserved
loop-rest-preserved c =
    let rest = c.loop-rest.rest.now in
    let byte = slice_index_or rest 0 0 in (
      last_more (last_part c.args.place c.args.path.now) c.loop-rest.part c.part_behind-part.result byte rest (take (length rest - 1) (drop 1 rest))
          (split-first rest c.in-len1-up.len_at_least) c.loop-rest.invariant.0 c.part_behind-part.ensures,
      left-step c.loop-rest.part c.part_behind-part.result byte rest (length c.args.path.now) c.in-len1-up.len_at_least c.loop-rest.invariant.1 c.part_behind-part.ensures,
    )
