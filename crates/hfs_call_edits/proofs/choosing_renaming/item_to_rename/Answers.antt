-- No code refuses the item.
use Rattle.std.proofs.Common.{◌∙◌, sym, true, false}
use Rattle.hfs_fields.specs.Names.{is_item_name}
use Rattle.hfs_catalog.specs.Tree.{catalog_of}
use Rattle.hfs_call_edits.specs.Choosing.{lock_code, item_to_set}
use Rattle.hfs_call_edits.proofs.RenameChoice.{renamed}
use Rattle.hfs_call_edits.proofs.choosing_renaming.item_to_rename.Goals as goal

pub returns-then-is_taken : goal.returns-then-is_taken
returns-then-is_taken g c =
    let catalog = catalog_of (g.N.Nodes.nodes c.args.nodes.now) in
    renamed catalog c.args.dir c.in-Some-new.new_name c.args.new_name.now c.in-Some-new.ensures.1 c.in-Ok.placed.item c.own_id-id.result c.own_id-id.ensures
    (lock_code c.args.mdb.now) c.in_default.ensures (is_item_name c.args.new_name.now) c.in-Some-new.ensures.0
    (item_to_set c.args.mdb.now catalog c.args.dir c.args.name.now) c.in-Ok.ensures.chosen true (sym c.is_taken.ensures ∙ c.if-is_taken.true)

pub returns : goal.returns
returns g c =
    let catalog = catalog_of (g.N.Nodes.nodes c.args.nodes.now) in
    renamed catalog c.args.dir c.in-Some-new.new_name c.args.new_name.now c.in-Some-new.ensures.1 c.in-Ok.placed.item c.own_id-id.result c.own_id-id.ensures
    (lock_code c.args.mdb.now) c.in_default.ensures (is_item_name c.args.new_name.now) c.in-Some-new.ensures.0
    (item_to_set c.args.mdb.now catalog c.args.dir c.args.name.now) c.in-Ok.ensures.chosen false (sym c.is_taken.ensures ∙ c.if-is_taken.false)
