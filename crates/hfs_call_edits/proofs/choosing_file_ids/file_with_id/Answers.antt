-- What has no thread is not chosen; else the item of the ID is a folder's or a file's.
use Rattle.std.proofs.Common.{◌≡◌, true, false, sym, ◌∙◌, ap}
use Rattle.std.specs.Prelude.{not}
use Rattle.hfs_catalog.specs.Tree.{catalog_of}
use Rattle.hfs_catalog.specs.Records.{has_thread}
use Rattle.hfs_items.proofs.FileIds.{thread_there as thread_known}
use Rattle.hfs_call_edits.proofs.FileIdChoices.{none_chosen, folder_of_id, file_of_id}
use Rattle.hfs_call_edits.proofs.choosing_file_ids.file_with_id.Goals as goal

pub returns-then-is_none : goal.returns-then-is_none
returns-then-is_none g c =
    let catalog = catalog_of (g.N.Nodes.nodes c.args.nodes.now) in
    let none : has_thread catalog c.args.id ≡ false = thread_known catalog c.args.id c.thread.result c.thread.ensures ∙ c.is_none.ensures ∙ ap not c.if-is_none.true in
    none_chosen c.args.mdb.now catalog c.args.id (sym c.in_default.ensures) c.requires.next c.requires.catalog none

pub returns-in-Folder : goal.returns-in-Folder
returns-in-Folder g c =
    folder_of_id c.args.mdb.now (catalog_of (g.N.Nodes.nodes c.args.nodes.now)) c.args.id (sym c.in_default.ensures) c.in-Some-by_id.item c.in-Some-by_id.ensures _ c.in-Folder.is

pub returns-in-File : goal.returns-in-File
returns-in-File g c =
    let catalog = catalog_of (g.N.Nodes.nodes c.args.nodes.now) in
    let has : has_thread catalog c.args.id ≡ true = thread_known catalog c.args.id c.thread.result c.thread.ensures ∙ c.is_none.ensures ∙ ap not c.if-is_none.false in
    file_of_id c.args.mdb.now catalog c.args.id (sym c.in_default.ensures) c.in-Some-by_id.item c.in-Some-by_id.ensures _ c.in-File.is has
