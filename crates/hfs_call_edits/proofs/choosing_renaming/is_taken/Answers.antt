use Rattle.hfs_catalog.specs.Tree.{catalog_of}
use Rattle.hfs_catalog.specs.Lookups.{child_named}
use Rattle.hfs_call_edits.proofs.RenameChoice.{taken_some}
use Rattle.hfs_call_edits.proofs.choosing_renaming.is_taken.Goals as goal

pub returns-in-Some : goal.returns-in-Some
returns-in-Some g c =
    taken_some (child_named (catalog_of (g.N.Nodes.nodes c.args.nodes.now)) c.args.dir c.args.name.now) c.in-Some.item c.own_id.result c.args.id c.in-Some.ensures c.own_id.ensures
