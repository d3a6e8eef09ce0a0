use Rattle.std.proofs.Common.{Some, length, ◌∙◌, sym, ap, arith}
use Rattle.hfs_fields.specs.declared.key.CatKey.{CatKey}
use Rattle.hfs_catalog.specs.Indexes.{has_number}
use Rattle.hfs_catalog.proofs.ParentSteps.{reached, not_root, known_reaches, parent_is, step_up, reaches_up}
use Rattle.hfs_catalog.proofs.parent_check.reaches_root.Goals as goal

pub returns-then-is_known : goal.returns-then-is_known
returns-then-is_known c =
    sym (known_reaches c.args.catalog.now c.args.from (c.loop-step.invariant.1 (reached c.args.catalog.now c.args.rooted.now c.loop-step.at c.requires (sym c.is_known.ensures ∙ c.if-is_known.true))))

pub loop-step-preserved : goal.loop-step-preserved
loop-step-preserved c =
    let up = parent_is c.args.catalog.now c.loop-step.at c.in-Some.item.now c.in-Some.ensures ∙ ap (λ (key : CatKey). Some key.parent) (sym c.key.ensures) in
    let other = not_root c.loop-step.at (has_number c.args.rooted.now c.loop-step.at) (sym c.is_known.ensures ∙ c.if-is_known.false) in (
      c.loop-step.invariant.0 ∙ step_up c.args.catalog.now (length c.args.catalog.now) c.loop-step._step c.loop-step.at c.key.result.now.parent (omega (arith, c.len-step-end.ensures)) other up,
      λ h. c.loop-step.invariant.1 (reaches_up c.args.catalog.now c.loop-step.at c.key.result.now.parent up h),
    )
