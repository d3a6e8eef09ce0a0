-- Thing by thing.
use Rattle.std.proofs.Common.{length, sym, ap, subst, arith}
use Rattle.hfs_rescue_items.specs.Plan.{AreAllMade, whole_plan}
use Rattle.hfs_rescue_items.proofs.AboveLemmas.{all_made_behind}
use Rattle.hfs_rescue_items.proofs.PlanLemmas.{thing_more}
use Rattle.hfs_rescue_items.proofs.plan.plan_of.Goals as goal

pub loop-i-preserved : goal.loop-i-preserved
loop-i-preserved c =
    let found = c.args.found.now in
    let parts = c.loop-i.plan.parts.items in
    let put = c.in_ok-plan_thing.ensures.parts in
    record {
      parts =
          thing_more found c.loop-i.i (length found.places.now) parts c.plan_thing.new.plan.parts.items (whole_plan found)
          (omega (arith, c.loop-i-test.true, ap length c.things-i-end.ensures)) c.loop-i.invariant.parts put;
      knows = c.in_ok-plan_thing.ensures.knows;
      all = subst (AreAllMade found) (sym put) (all_made_behind found parts c.loop-i.i c.loop-i.invariant.all);
    }
