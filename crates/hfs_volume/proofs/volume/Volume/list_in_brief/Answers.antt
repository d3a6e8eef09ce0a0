use Rattle.std.proofs.Common.{◌≡◌, ◌∙◌, ap, subst}
use Rattle.std.specs.Prelude.{IfOk}
use Rattle.hfs_catalog.specs.Tree.{catalog_of}
use Rattle.hfs_model.specs.declared.reply.Reply.{Reply}
use Rattle.hfs_items.specs.Brief.{without_ids}
use Rattle.hfs_items.proofs.ReplyLemmas.{lists}
use Rattle.hfs_items.proofs.DetailLemmas.{listed_in-brief}
use Rattle.hfs_volume.proofs.volume.Volume.list_in_brief.Goals as goal

pub returns : goal.returns
returns c =
    subst (λ (r : Reply). IfOk c.list.result (λ reply. reply ≡ r))
    (listed_in-brief (catalog_of c.catalog_nodes.result) c.args.dir ∙ ap without_ids (lists _ _ _ c.catalog_nodes.ensures.entries c.args.dir)) c.list.ensures
