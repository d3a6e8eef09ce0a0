-- What has no thread is no folder; else the item of the ID is found by its thread, and is the folder, if it is one.
use Rattle.std.proofs.Common.{◌≡◌, None, sym, ◌∙◌, ap}
use Rattle.std.specs.Option.{option_map}
use Rattle.hfs_catalog.specs.Lookups.{catalog_item}
use Rattle.hfs_catalog.specs.Tree.{catalog_of}
use Rattle.hfs_items.proofs.FolderLemmas.{unthreaded, item_by_thread, no_item, item_is_folder, item_is_file}
use Rattle.hfs_items.proofs.reading.folder.Goals as goal

pub returns-in_default : goal.returns-in_default
returns-in_default g c =
    sym (ap (option_map catalog_item) (unthreaded c.requires.next (catalog_of (g.N.Nodes.nodes c.args.nodes.now)) c.args.dir c.requires.catalog (cc)))

pub returns-in_err-item : goal.returns-in_err-item
returns-in_err-item g c =
    let catalog = catalog_of (g.N.Nodes.nodes c.args.nodes.now) in
    let own = item_by_thread c.requires.next catalog c.args.dir c.in-Some.thread c.lookup.result c.requires.catalog (sym c.thread.ensures ∙ c.in-Some.is) c.lookup.ensures in
    let none : c.from_residual.result ≡ None = cc in
    none ∙ no_item catalog c.args.dir c.lookup.result (cc) own

pub returns-in-Folder : goal.returns-in-Folder
returns-in-Folder g c =
    let catalog = catalog_of (g.N.Nodes.nodes c.args.nodes.now) in
    item_is_folder catalog c.args.dir c.in_ok-item.item _
    (item_by_thread c.requires.next catalog c.args.dir c.in-Some.thread _ c.requires.catalog (sym c.thread.ensures ∙ c.in-Some.is) c.in_ok-item.ensures) c.in-Folder.is

pub returns-in-File : goal.returns-in-File
returns-in-File g c =
    let catalog = catalog_of (g.N.Nodes.nodes c.args.nodes.now) in
    item_is_file catalog c.args.dir c.in_ok-item.item _
    (item_by_thread c.requires.next catalog c.args.dir c.in-Some.thread _ c.requires.catalog (sym c.thread.ensures ∙ c.in-Some.is) c.in_ok-item.ensures) c.in-File.is
