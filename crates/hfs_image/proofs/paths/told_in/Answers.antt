-- The nodes of the catalog lie among what was read.
use Rattle.std.proofs.Common.{◌∙◌, sym, subst}
use Rattle.hfs_blocks.specs.Blocks.{nodes_in}
use Rattle.hfs_catalog.specs.Records.{Catalog}
use Rattle.hfs_items.proofs.ReplyLemmas.{by_nodes}
use Rattle.hfs_items.specs.Told.{IsCatalog, cat_info, dir_info}
use Rattle.hfs_source.specs.Sparse.{sparse}
use Rattle.hfs_image.specs.Paths.{told_at}
use Rattle.hfs_items.proofs.QueryLawsProved.{catalog_answers-sound}
use Rattle.hfs_image.proofs.paths.told_in.Goals as goal

pub path_told-requires : goal.path_told-requires
path_told-requires c =
    subst IsCatalog (sym ((λ i. nodes_in (sparse (c.volume.ensures.read i)) (c.deref.ensures.value i)) ∙ c.requires.trees.catalog.same))
    (catalog_answers-sound c.args.volume.now.count (sparse c.args.volume.now.read) c.requires.sound)

pub returns : goal.returns
returns c =
    c.path_told.ensures
    ∙ by_nodes (λ (catalog : Catalog). told_at (cat_info catalog) (dir_info catalog 2) c.args.names.now) (sparse c.args.volume.now.read) _
    ((λ i. nodes_in (sparse (c.volume.ensures.read i)) (c.deref.ensures.value i)) ∙ c.requires.trees.catalog.same)
