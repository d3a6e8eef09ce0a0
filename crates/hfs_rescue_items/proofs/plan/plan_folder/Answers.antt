-- One folder more is known.
use Rattle.std.proofs.Common.{List, sym, subst}
use Rattle.hfs_rescue_items.specs.declared.plan.Planned.{Planned}
use Rattle.hfs_rescue_items.specs.Plan.{KnowsFolders}
use Rattle.hfs_rescue_items.proofs.PlanLemmas.{knows_more}
use Rattle.hfs_rescue_items.proofs.plan.plan_folder.Goals as goal

pub returns-clause-knows : goal.returns-clause-knows
returns-clause-knows c =
    let plan = c.args.plan.now in
    subst (λ (parts : List Planned). KnowsFolders c.args.found.now parts c.note.new.self) (sym c.in_ok-push.ensures.items)
    (knows_more c.args.found.now plan.parts.items c.args.part c.in_ok-path.path plan.folders c.note.new.self c.requires c.in_ok-path.ensures c.in_ok-note.ensures)
