use Rattle.std.proofs.Common.{◌∙◌, sym, true, false}
use Rattle.hfs_catalog.specs.Tree.{catalog_of}
use Rattle.hfs_call_edits.specs.Choosing.{child_to_change}
use Rattle.hfs_call_edits.proofs.Choices.{next_set}
use Rattle.hfs_call_edits.proofs.choosing.item_to_set.Goals as goal

pub returns-then-is_locked-clause-chosen : goal.returns-then-is_locked-clause-chosen
returns-then-is_locked-clause-chosen g c =
    next_set (child_to_change c.args.mdb.now (catalog_of (g.N.Nodes.nodes c.args.nodes.now)) c.args.dir c.args.name.now) c.in-Ok.placed.item c.in-Ok.ensures.chosen true
    (sym c.is_locked.ensures ∙ c.if-is_locked.true)

pub returns-else-is_locked-clause-chosen : goal.returns-else-is_locked-clause-chosen
returns-else-is_locked-clause-chosen g c =
    next_set (child_to_change c.args.mdb.now (catalog_of (g.N.Nodes.nodes c.args.nodes.now)) c.args.dir c.args.name.now) c.in-Ok.placed.item c.in-Ok.ensures.chosen false
    (sym c.is_locked.ensures ∙ c.if-is_locked.false)
