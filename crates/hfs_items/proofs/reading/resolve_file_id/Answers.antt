-- What has no thread is not found; else the item of the ID is a folder's or a file's.
use Rattle.std.proofs.Common.{◌≡◌, true, false, sym, ◌∙◌, ap}
use Rattle.std.specs.Prelude.{not}
use Rattle.hfs_catalog.specs.Tree.{catalog_of}
use Rattle.hfs_catalog.specs.Records.{has_thread}
use Rattle.hfs_items.proofs.FileIds.{thread_there, none_resolved, folder_resolved, file_resolved}
use Rattle.hfs_items.proofs.reading.resolve_file_id.Goals as goal

pub returns-then-is_none : goal.returns-then-is_none
returns-then-is_none g c =
    let catalog = catalog_of (g.N.Nodes.nodes c.args.nodes.now) in
    let none : has_thread catalog c.args.id ≡ false = thread_there catalog c.args.id c.thread.result c.thread.ensures ∙ c.is_none.ensures ∙ ap not c.if-is_none.true in
    c.refusal.ensures ∙ sym (none_resolved catalog c.args.id c.requires.next c.requires.catalog none)

pub returns-in-Folder : goal.returns-in-Folder
returns-in-Folder g c =
    c.refusal-in-Folder.ensures ∙ sym (folder_resolved (catalog_of (g.N.Nodes.nodes c.args.nodes.now)) c.args.id c.in-Some.item c.in-Some.ensures _ c.in-Folder.is)

pub returns-in-File : goal.returns-in-File
returns-in-File g c =
    let catalog = catalog_of (g.N.Nodes.nodes c.args.nodes.now) in
    let has : has_thread catalog c.args.id ≡ true = thread_there catalog c.args.id c.thread.result c.thread.ensures ∙ c.is_none.ensures ∙ ap not c.if-is_none.false in
    c.place_of.ensures ∙ sym (file_resolved catalog c.args.id c.in-Some.item c.in-Some.ensures _ c.in-File.is has)
