use Rattle.std.proofs.Common.{Some, ◌∙◌, sym, ap}
use Rattle.hfs_fields.specs.declared.key.CatKey.{CatKey}
use Rattle.hfs_catalog.specs.Indexes.{has_number}
use Rattle.hfs_catalog.proofs.ParentSteps.{not_root, parent_is, parent_reaches, rooted_more}
use Rattle.hfs_catalog.proofs.parent_check.note_chain.Goals as goal

pub loop-step-preserved : goal.loop-step-preserved
loop-step-preserved c =
    let other = not_root c.loop-step.id (has_number c.loop-step.rooted c.loop-step.id) (sym c.is_known.ensures ∙ c.if-is_known.false) in (
      rooted_more c.args.catalog.now c.loop-step.rooted c.add.new.self c.loop-step.id c.loop-step.invariant.0 c.loop-step.invariant.1 c.in_ok-add.ensures,
      parent_reaches c.args.catalog.now c.loop-step.id c.key.result.now.parent other (parent_is c.args.catalog.now c.loop-step.id c.in-Some.item.now c.in-Some.ensures ∙ ap (λ (key : CatKey). Some key.parent) (sym c.key.ensures)) c.loop-step.invariant.1,
    )
