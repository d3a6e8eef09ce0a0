-- The chain of an item goes on with that of its parent.
use Rattle.std.proofs.Common.{Some, ◌∙◌, sym, ap}
use Rattle.hfs_fields.specs.declared.key.CatKey.{CatKey}
use Rattle.hfs_catalog.proofs.ParentSteps.{reached, parent_is, reaches_up}
use Rattle.hfs_catalog.proofs.parent_check.is_parent_known.Goals as goal

pub returns-in-Some : goal.returns-in-Some
returns-in-Some c = λ known.
    let catalog = c.args.catalog.now in
    let parent = c.key.result.now.parent in
    reaches_up catalog c.args.id parent (parent_is catalog c.args.id c.in-Some.item.now c.in-Some.ensures ∙ ap (λ (key : CatKey). Some key.parent) (sym c.key.ensures))
    (reached catalog c.args.rooted.now parent c.requires (sym c.is_known.ensures ∙ known))
