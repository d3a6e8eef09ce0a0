-- The folders above, and the thing itself.
use Rattle.std.proofs.Common.{length, sym, ◌∙◌}
use Rattle.std.proofs.lemmas.Bool.{eqb-false}
use Rattle.hfs_rescue_items.proofs.PlanLemmas.{thing_planned}
use Rattle.hfs_rescue_items.proofs.plan.plan_thing.Goals as goal

pub returns-clause-parts : goal.returns-clause-parts
returns-clause-parts c =
    let path = c.as_bytes-bytes.result.now in
    thing_planned c.args.found.now c.args.i c.args.plan.now.parts.items c.plan_above.new.plan.parts.items c.plan_own.new.plan.parts.items path c.last_part-part.result
    (c.as_bytes-bytes.ensures.value ∙ c.in_ok-path.ensures) (eqb-false (length path) 0 (sym c.is_empty.ensures ∙ c.if-is_empty.false)) c.last_part-part.ensures
    c.in_ok-plan_above.ensures.parts c.in_ok-plan_own.ensures.parts
