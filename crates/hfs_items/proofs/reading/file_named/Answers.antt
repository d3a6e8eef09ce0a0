-- The item of the name is a folder's or a file's.
use Rattle.hfs_catalog.specs.Tree.{catalog_of}
use Rattle.hfs_items.proofs.FolderLemmas.{folder_there}
use Rattle.hfs_items.proofs.Files.{of_folder, of_file}
use Rattle.hfs_items.proofs.reading.file_named.Goals as goal

pub returns-in-Folder : goal.returns-in-Folder
returns-in-Folder g c =
    let catalog = catalog_of (g.N.Nodes.nodes c.args.nodes.now) in
    of_folder catalog c.args.dir c.args.name.now c.in-Some.ensures.0 (folder_there catalog c.args.dir _ _ c.folder.ensures c.is_none.ensures c.if-is_none.false)
    c.in-Some-lookup.item _ _ _ c.in-Some.ensures.1 c.refusal-in-Folder.ensures c.in-Some-lookup.ensures c.in-Folder.is

pub returns-in-File : goal.returns-in-File
returns-in-File g c =
    let catalog = catalog_of (g.N.Nodes.nodes c.args.nodes.now) in
    of_file catalog c.args.dir c.args.name.now c.in-Some.ensures.0 (folder_there catalog c.args.dir _ _ c.folder.ensures c.is_none.ensures c.if-is_none.false)
    c.in-Some-lookup.item _ _ c.in-Some.ensures.1 c.in-Some-lookup.ensures c.in-File.is
