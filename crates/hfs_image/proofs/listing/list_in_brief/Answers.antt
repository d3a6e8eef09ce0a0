-- The nodes of the catalog lie among what was read.
use Rattle.std.proofs.Common.{◌≡◌, ◌∙◌, sym, subst}
use Rattle.std.specs.Prelude.{IfOk}
use Rattle.hfs_blocks.specs.Blocks.{nodes_in}
use Rattle.hfs_model.specs.declared.reply.Reply.{Reply}
use Rattle.hfs_items.specs.Brief.{listed_in}
use Rattle.hfs_items.proofs.ReplyLemmas.{by_nodes}
use Rattle.hfs_items.specs.Told.{IsCatalog}
use Rattle.hfs_source.specs.Sparse.{sparse}
use Rattle.hfs_items.proofs.QueryLawsProved.{catalog_answers-sound}
use Rattle.hfs_items.specs.declared.reply.Detail.TheVariants as detail
use Rattle.hfs_image.proofs.listing.list_in_brief.Goals as goal

pub list-requires : goal.list-requires
list-requires c =
    subst IsCatalog (sym ((λ i. nodes_in (sparse (c.volume.ensures.read i)) (c.deref.ensures.value i)) ∙ c.requires.trees.catalog.same))
    (catalog_answers-sound c.args.volume.now.count (sparse c.args.volume.now.read) c.requires.sound)

pub returns : goal.returns
returns c =
    subst (λ (r : Reply). IfOk c.list.result (λ reply. reply ≡ r))
    (by_nodes (λ catalog. listed_in detail.Brief catalog c.args.dir) (sparse c.args.volume.now.read) _
    ((λ i. nodes_in (sparse (c.volume.ensures.read i)) (c.deref.ensures.value i)) ∙ c.requires.trees.catalog.same)) c.list.ensures
