-- The item of the name is a folder's or a file's.
use Rattle.hfs_catalog.specs.Tree.{catalog_of}
use Rattle.hfs_call_edits.specs.Choosing.{child_to_change}
use Rattle.hfs_call_edits.proofs.Choices.{next_folder, next_file}
use Rattle.hfs_call_edits.proofs.choosing.file_to_change.Goals as goal

pub returns-in-Folder-clause-chosen : goal.returns-in-Folder-clause-chosen
returns-in-Folder-clause-chosen g c =
    next_folder (child_to_change c.args.mdb.now (catalog_of (g.N.Nodes.nodes c.args.nodes.now)) c.args.dir c.args.name.now) c.in-Ok.placed.item c.in-Ok.ensures.chosen _ c.in-Folder.is

pub returns-in-File-clause-chosen : goal.returns-in-File-clause-chosen
returns-in-File-clause-chosen g c =
    next_file (child_to_change c.args.mdb.now (catalog_of (g.N.Nodes.nodes c.args.nodes.now)) c.args.dir c.args.name.now) c.in-Ok.placed.item c.in-Ok.ensures.chosen c.in-File.file c.in-File.is
