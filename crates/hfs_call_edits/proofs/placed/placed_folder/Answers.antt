-- What has no thread is no folder; else the item of the ID is found by its thread, and is the folder, if it is one.
use Rattle.std.proofs.Common.{refl, sym, ◌∙◌, ap, Some, None}
use Rattle.std.specs.Option.{option_map}
use Rattle.hfs_catalog.specs.Lookups.{catalog_item}
use Rattle.hfs_catalog.specs.Tree.{catalog_of}
use Rattle.hfs_items.proofs.FolderLemmas.{unthreaded, item_by_thread, no_item, item_is_folder, item_is_file}
use Rattle.hfs_call_edits.proofs.placed.placed_folder.Goals as goal

pub returns-in_default-clause-folder : goal.returns-in_default-clause-folder
returns-in_default-clause-folder g c =
    sym (ap (option_map catalog_item) (unthreaded c.requires.next (catalog_of (g.N.Nodes.nodes c.args.nodes.now)) c.args.dir c.requires.catalog (cc)))

pub returns-in_default-seek_item-clause-folder : goal.returns-in_default-seek_item-clause-folder
returns-in_default-seek_item-clause-folder g c =
    let catalog = catalog_of (g.N.Nodes.nodes c.args.nodes.now) in
    no_item catalog c.args.dir None refl
    (item_by_thread c.requires.next catalog c.args.dir c.in-Some.thread None c.requires.catalog (sym c.thread.ensures ∙ c.in-Some.is) c.in_default-seek_item.ensures.named)

pub returns-in-Folder-clause-folder : goal.returns-in-Folder-clause-folder
returns-in-Folder-clause-folder g c =
    let catalog = catalog_of (g.N.Nodes.nodes c.args.nodes.now) in
    let item = c.in-Some-seek_item.placed.item in
    item_is_folder catalog c.args.dir item _
    (item_by_thread c.requires.next catalog c.args.dir c.in-Some.thread (Some item) c.requires.catalog (sym c.thread.ensures ∙ c.in-Some.is) c.in-Some-seek_item.ensures.named) c.in-Folder.is

pub returns-in-File-clause-folder : goal.returns-in-File-clause-folder
returns-in-File-clause-folder g c =
    let catalog = catalog_of (g.N.Nodes.nodes c.args.nodes.now) in
    let item = c.in-Some-seek_item.placed.item in
    item_is_file catalog c.args.dir item _
    (item_by_thread c.requires.next catalog c.args.dir c.in-Some.thread (Some item) c.requires.catalog (sym c.thread.ensures ∙ c.in-Some.is) c.in-Some-seek_item.ensures.named) c.in-File.is
