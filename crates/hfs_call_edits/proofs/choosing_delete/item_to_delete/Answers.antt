-- The item of the name is busy, locked, or neither.
use Rattle.std.proofs.Common.{◌∙◌, sym, refl, true, false}
use Rattle.hfs_catalog.specs.Tree.{catalog_of}
use Rattle.hfs_call_edits.specs.Choosing.{child_to_change, is_locked_item}
use Rattle.hfs_call_edits.proofs.ToDelete.{next_delete}
use Rattle.hfs_call_edits.proofs.choosing_delete.item_to_delete.Goals as goal

pub returns-then-is_busy : goal.returns-then-is_busy
returns-then-is_busy g c =
    next_delete (child_to_change c.args.mdb.now (catalog_of (g.N.Nodes.nodes c.args.nodes.now)) c.args.dir c.args.name.now) c.in-Ok.item c.in-Ok.ensures true (is_locked_item c.in-Ok.item)
    (sym c.is_busy.ensures ∙ c.if-is_busy.true) refl

pub returns-then-is_locked : goal.returns-then-is_locked
returns-then-is_locked g c =
    next_delete (child_to_change c.args.mdb.now (catalog_of (g.N.Nodes.nodes c.args.nodes.now)) c.args.dir c.args.name.now) c.in-Ok.item c.in-Ok.ensures false true
    (sym c.is_busy.ensures ∙ c.if-is_busy.false) (sym c.is_locked.ensures ∙ c.if-is_locked.true)

pub returns-else-is_locked : goal.returns-else-is_locked
returns-else-is_locked g c =
    next_delete (child_to_change c.args.mdb.now (catalog_of (g.N.Nodes.nodes c.args.nodes.now)) c.args.dir c.args.name.now) c.in-Ok.item c.in-Ok.ensures false false
    (sym c.is_busy.ensures ∙ c.if-is_busy.false) (sym c.is_locked.ensures ∙ c.if-is_locked.false)
