-- A file has a thread where one is found.
use Rattle.std.proofs.Common.{◌≡◌, Option, sym, ◌∙◌, ap}
use Rattle.std.specs.Prelude.{is_some}
use Rattle.hfs_catalog.specs.Records.{Record, has_thread, is_thread_of}
use Rattle.hfs_fields.specs.Records.{thread_record_of}
use Rattle.hfs_fields.specs.declared.thread_record.ThreadRecord.{ThreadRecord}
use Rattle.hfs_catalog.specs.Lookups.{thread_of}
use Rattle.hfs_catalog.specs.Tree.{catalog_of}
use Rattle.hfs_items.specs.Told.{file_info, body_info, item_info}
use Rattle.hfs_items.specs.Brief.{in_detail}
use Rattle.hfs_items.specs.declared.reply.Detail.{Detail}
use Rattle.hfs_catalog.specs.declared.item.ItemRecord.{ItemRecord}
use Rattle.hfs_items.proofs.FoundLemmas.{is_some-find, is_some-option_map}
use Rattle.hfs_items.proofs.DetailLemmas.{folder-in_detail, file-brief}
use Rattle.hfs_items.proofs.reply.item_info.Goals as goal

pub returns-in-Folder : goal.returns-in-Folder
returns-in-Folder g c =
    let catalog = catalog_of (g.N.Nodes.nodes c.args.nodes.now) in
    c.folder_info.ensures ∙ folder-in_detail c.args.detail c.args.item.now.key c.in-Folder.folder
    ∙ sym (ap (λ (body : ItemRecord). in_detail c.args.detail (body_info catalog c.args.item.now.key body)) c.in-Folder.is)

pub returns-in-Full : goal.returns-in-Full
returns-in-Full g c =
    let catalog = catalog_of (g.N.Nodes.nodes c.args.nodes.now) in
    let found : c.is_some.result ≡ has_thread catalog c.in-File.file.id = c.is_some.ensures ∙ ap (λ (o : Option ThreadRecord). is_some o) c.thread.ensures ∙ is_some-option_map (λ (r : Record). thread_record_of r.1) (thread_of catalog c.in-File.file.id) ∙ is_some-find (is_thread_of c.in-File.file.id) catalog in
    c.file_info.ensures ∙ ap (λ b. file_info b c.args.item.now.key c.in-File.file) found ∙ sym (ap (body_info catalog c.args.item.now.key) c.in-File.is)
    ∙ sym (ap (λ (detail : Detail). in_detail detail (item_info catalog c.args.item.now)) c.in-Full.is)

pub returns-in-Brief : goal.returns-in-Brief
returns-in-Brief g c =
    let catalog = catalog_of (g.N.Nodes.nodes c.args.nodes.now) in
    c.file_info-in-Brief.ensures ∙ file-brief (has_thread catalog c.in-File.file.id) c.args.item.now.key c.in-File.file
    ∙ (λ i. in_detail (sym c.in-Brief.is i) (body_info catalog c.args.item.now.key (sym c.in-File.is i)))
