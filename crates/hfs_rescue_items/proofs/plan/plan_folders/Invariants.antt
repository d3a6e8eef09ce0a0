-- what was planned and the folders that are left make all
use Rattle.std.proofs.Common.{◌≡◌, ◌+◌, length}
use Rattle.std.specs.List.{fold}
use Rattle.hfs_rescue_items.specs.Plan.{KnowsFolders, first_part, folders_above, with_folder}
use Rattle.hfs_rescue_items.proofs.plan.plan_folders.Given as goal

abbrev pub invariant-loop-rest : goal.invariant-loop-rest
invariant-loop-rest l = record {
  parts : fold (with_folder l.fn.found) l.plan.parts.items (folders_above l.part l.rest)
      ≡ fold (with_folder l.fn.found) l.fn.plan.parts.items (folders_above (first_part l.fn.place) l.fn.path);
  knows : KnowsFolders l.fn.found l.plan.parts.items l.plan.folders;
  left : l.part.to + length l.rest ≡ length l.fn.path;
}

abbrev pub decreases-loop-rest : goal.decreases-loop-rest
decreases-loop-rest l = length l.rest
