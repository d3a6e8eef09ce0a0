-- The folder was looked up in the catalog's nodes.
use Rattle.std.proofs.Common.{◌∙◌}
use Rattle.std.specs.Option.{option_map}
use Rattle.hfs_catalog.specs.Lookups.{catalog_item}
use Rattle.hfs_check.specs.Parts.{catalog_in}
use Rattle.hfs_items.proofs.ReplyLemmas.{by_nodes}
use Rattle.hfs_items.specs.Told.{folder_with}
use Rattle.hfs_call_edits.proofs.Parents.{no_parent, parent_found, no_file_parent}
use Rattle.hfs_call_edits.proofs.editing.Editing.parent.Goals as goal

pub returns-in-None : goal.returns-in-None
returns-in-None g c =
    let old = g.B.Blocks.blocks c.args.self.now in
    no_parent (catalog_in old) c.args.dir (c.in-None.ensures ∙ by_nodes (λ catalog. option_map catalog_item (folder_with catalog c.args.dir)) old _ c.nodes.ensures.nodes)

pub returns-in-Folder : goal.returns-in-Folder
returns-in-Folder g c =
    let old = g.B.Blocks.blocks c.args.self.now in
    parent_found (catalog_in old) c.args.dir c.in-Some.item (c.in-Some.ensures ∙ by_nodes (λ catalog. option_map catalog_item (folder_with catalog c.args.dir)) old _ c.nodes.ensures.nodes) c.in-Folder.folder c.in-Folder.is

pub returns-in-File : goal.returns-in-File
returns-in-File g c =
    let old = g.B.Blocks.blocks c.args.self.now in
    absurd (no_file_parent (catalog_in old) c.args.dir c.in-Some.item (c.in-Some.ensures ∙ by_nodes (λ catalog. option_map catalog_item (folder_with catalog c.args.dir)) old _ c.nodes.ensures.nodes) c.in-File.field-0 c.in-File.is)
