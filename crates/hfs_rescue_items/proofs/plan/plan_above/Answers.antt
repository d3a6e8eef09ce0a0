-- All are made.
use Rattle.std.proofs.Common.{sym, ◌∙◌}
use Rattle.hfs_rescue_items.proofs.AboveLemmas.{all_made}
use Rattle.hfs_rescue_items.proofs.plan.plan_above.Goals as goal

pub returns-then-branch-clause-parts : goal.returns-then-branch-clause-parts
returns-then-branch-clause-parts c =
    all_made c.args.found.now c.args.i c.args.path.now c.requires.path c.args.plan.now.parts.items c.args.part c.requires.part c.requires.all
    (sym c.in_ok-is_above_made.ensures ∙ c.if-branch.true)
