-- The item at the place before the index.
use Rattle.std.proofs.Common.{refl, sym, ◌∙◌, ap, Some, None}
use Rattle.std.specs.Prelude.{map}
use Rattle.hfs_model.specs.declared.reply.Info.{Info}
use Rattle.hfs_model.specs.declared.reply.Value.TheVariants as value
use Rattle.hfs_model.specs.Replies.{success}
use Rattle.hfs_catalog.specs.Lookups.{catalog_item, children_of}
use Rattle.hfs_catalog.specs.Tree.{catalog_of}
use Rattle.hfs_items.proofs.FolderLemmas.{folder_there}
use Rattle.hfs_items.proofs.DetailLemmas.{indexed_at}
use Rattle.hfs_items.proofs.reading.get_indexed.Goals as goal

pub returns-in-Some : goal.returns-in-Some
returns-in-Some g c =
    let catalog = catalog_of (g.N.Nodes.nodes c.args.nodes.now) in
    c.success.ensures
    ∙ ap (λ (i : Info). success (value.One i)) c.item_info.ensures
    ∙ sym (indexed_at catalog c.args.dir (map catalog_item (children_of catalog c.args.dir)) refl c.args.index c.if-index-eq0.false
    (folder_there catalog c.args.dir _ _ c.folder.ensures c.is_none.ensures c.if-is_none.false) (Some c.in-Some.item) c.in-Some.ensures)

pub returns-in-None : goal.returns-in-None
returns-in-None g c =
    let catalog = catalog_of (g.N.Nodes.nodes c.args.nodes.now) in
    c.refusal-in-None.ensures
    ∙ sym (indexed_at catalog c.args.dir (map catalog_item (children_of catalog c.args.dir)) refl c.args.index c.if-index-eq0.false
    (folder_there catalog c.args.dir _ _ c.folder.ensures c.is_none.ensures c.if-is_none.false) None c.in-None.ensures)
