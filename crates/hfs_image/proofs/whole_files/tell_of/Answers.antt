-- The nodes of the catalog lie among what was read.
use Rattle.std.proofs.Common.{◌∙◌, sym, subst}
use Rattle.hfs_blocks.specs.Blocks.{nodes_in}
use Rattle.hfs_items.proofs.ReplyLemmas.{by_nodes}
use Rattle.hfs_source.specs.Sparse.{sparse}
use Rattle.hfs_items.proofs.QueryLawsProved.{catalog_answers-sound}
use Rattle.hfs_items.specs.Told as told
use Rattle.hfs_image.proofs.whole_files.tell_of.Goals as goal

pub get_cat_info-requires : goal.get_cat_info-requires
get_cat_info-requires c =
    subst told.IsCatalog (sym ((λ i. nodes_in (sparse (c.volume.ensures.read i)) (c.deref.ensures.value i)) ∙ c.requires.trees.catalog.same))
    (catalog_answers-sound c.args.volume.now.count (sparse c.args.volume.now.read) c.requires.sound)

pub returns : goal.returns
returns c =
    c.get_cat_info.ensures
    ∙ by_nodes (λ catalog. told.cat_info catalog c.args.dir c.args.name.now) (sparse c.args.volume.now.read) _
    ((λ i. nodes_in (sparse (c.volume.ensures.read i)) (c.deref.ensures.value i)) ∙ c.requires.trees.catalog.same)
