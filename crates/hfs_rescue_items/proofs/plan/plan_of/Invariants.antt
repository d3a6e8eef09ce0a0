-- what was planned and the things that are left make the plan
use Rattle.std.proofs.Common.{◌≡◌, ◌-◌, length}
use Rattle.std.specs.List.{fold, range_with_len}
use Rattle.hfs_rescue_items.specs.Plan.{AreAllMade, KnowsFolders, whole_plan, with_thing}
use Rattle.hfs_rescue_items.proofs.plan.plan_of.Given as goal

abbrev pub invariant-loop-i : goal.invariant-loop-i
invariant-loop-i l = record {
  parts : fold (with_thing l.found) l.plan.parts.items (range_with_len l.i (length l.found.places.now - l.i)) ≡ whole_plan l.found;
  knows : KnowsFolders l.found l.plan.parts.items l.plan.folders;
  all : AreAllMade l.found l.plan.parts.items;
}
