-- Byte by byte.
use Rattle.std.proofs.Common.{◌-◌, length, take, drop, slice_index_or}
use Rattle.std.specs.List.{fold}
use Rattle.hfs_rescue_items.specs.Plan.{first_part, folders_above, with_folder}
use Rattle.hfs_rescue_items.proofs.PlanLemmas.{folders_more, left-step, split-first}
use Rattle.hfs_rescue_items.proofs.plan.plan_folders.Goals as goal

pub loop-rest-preserved : goal.loop-rest-preserved
loop-rest-preserved c =
    let found = c.args.found.now in
    let rest = c.loop-rest.rest.now in
    let byte = slice_index_or rest 0 0 in
    let whole = fold (with_folder found) c.args.plan.now.parts.items (folders_above (first_part c.args.place) c.args.path.now) in
    record {
      parts =
          folders_more found c.loop-rest.plan.parts.items c.plan_before.new.plan.parts.items whole c.loop-rest.part c.part_behind-part.result byte rest
          (take (length rest - 1) (drop 1 rest)) (split-first rest c.in-len1-up.len_at_least) c.loop-rest.invariant.parts c.in_ok-plan_before.ensures.parts
          c.part_behind-part.ensures;
      knows = c.in_ok-plan_before.ensures.knows;
      left = left-step c.loop-rest.part c.part_behind-part.result byte rest (length c.args.path.now) c.in-len1-up.len_at_least c.loop-rest.invariant.left c.part_behind-part.ensures;
    }
