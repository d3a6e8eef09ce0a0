-- The item of the name is a folder's, or a file's with a thread or without one.
use Rattle.std.proofs.Common.{true, false, sym, ◌∙◌}
use Rattle.hfs_fields.specs.Records.{file_record_of}
use Rattle.std.specs.Prelude.{if◌then◌else◌, Ok, Err}
use Rattle.hfs_catalog.specs.Tree.{catalog_of}
use Rattle.hfs_catalog.specs.Records.{has_thread}
use Rattle.hfs_model.specs.declared.codes.TheConstants.{FILE_ID_EXISTS}
use Rattle.hfs_call_edits.specs.Choosing.{child_to_change}
use Rattle.hfs_items.proofs.FileIds.{thread_there as thread_known}
use Rattle.hfs_call_edits.proofs.FileIdChoices.{folder_refused, unless_asked}
use Rattle.hfs_call_edits.proofs.choosing_file_ids.file_without_id.Goals as goal

pub returns-then-is_some : goal.returns-then-is_some
returns-then-is_some g c =
    let catalog = catalog_of (g.N.Nodes.nodes c.args.nodes.now) in
    unless_asked (child_to_change c.args.mdb.now catalog c.args.dir c.args.name.now) c.in-Ok.item c.in-Ok.ensures catalog c.in-File.file c.in-File.is true
    (thread_known catalog c.in-File.file.id c.thread.result c.thread.ensures ∙ sym c.is_some.ensures ∙ c.if-is_some.true)

pub returns-in-Folder : goal.returns-in-Folder
returns-in-Folder g c =
    let catalog = catalog_of (g.N.Nodes.nodes c.args.nodes.now) in
    folder_refused (child_to_change c.args.mdb.now catalog c.args.dir c.args.name.now) c.in-Ok.item c.in-Ok.ensures
    (λ r. if has_thread catalog (file_record_of r.1).id then Err FILE_ID_EXISTS else Ok r) _ c.in-Folder.is

pub returns-else-is_some : goal.returns-else-is_some
returns-else-is_some g c =
    let catalog = catalog_of (g.N.Nodes.nodes c.args.nodes.now) in
    unless_asked (child_to_change c.args.mdb.now catalog c.args.dir c.args.name.now) c.in-Ok.item c.in-Ok.ensures catalog c.in-File.file c.in-File.is false
    (thread_known catalog c.in-File.file.id c.thread.result c.thread.ensures ∙ sym c.is_some.ensures ∙ c.if-is_some.false)
