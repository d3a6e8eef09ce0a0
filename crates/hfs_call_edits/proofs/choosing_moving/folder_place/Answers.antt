-- The item of a folder's ID is a folder.
use Rattle.hfs_catalog.specs.Tree.{catalog_of}
use Rattle.hfs_call_edits.proofs.FolderPlaces.{place_found, place_none}
use Rattle.hfs_call_edits.proofs.choosing_moving.folder_place.Goals as goal

pub returns-in-Folder : goal.returns-in-Folder
returns-in-Folder g c = place_found (catalog_of (g.N.Nodes.nodes c.args.nodes.now)) c.args.dir c.in_ok-item.item c.in_ok-item.ensures c.in-Folder.record c.in-Folder.is

pub returns-in-File : goal.returns-in-File
returns-in-File g c = place_none (catalog_of (g.N.Nodes.nodes c.args.nodes.now)) c.args.dir c.in_ok-item.item c.in_ok-item.ensures _ c.in-File.is
