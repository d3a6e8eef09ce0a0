-- The nodes of the catalog lie among what was read.
use Rattle.std.proofs.Common.{◌≡◌, ◌∙◌, sym, subst}
use Rattle.hfs_blocks.specs.Blocks.{nodes_in}
use Rattle.hfs_catalog.specs.Records.{Catalog}
use Rattle.hfs_items.proofs.ReplyLemmas.{by_nodes}
use Rattle.hfs_items.specs.Told.{IsCatalog}
use Rattle.std.specs.Prelude.{IfOk}
use Rattle.hfs_source.specs.Sparse.{sparse}
use Rattle.hfs_items.proofs.QueryLawsProved.{catalog_answers-sound}
use Rattle.hfs_image.proofs.listing.catalog_records.Goals as goal

pub read_records-requires-clause-structure : goal.read_records-requires-clause-structure
read_records-requires-clause-structure c =
    (subst IsCatalog (sym ((λ i. nodes_in (sparse (c.volume.ensures.read i)) (c.deref.ensures.value i)) ∙ c.requires.trees.catalog.same))
    (catalog_answers-sound c.args.count (sparse c.args.read.now) c.requires.sound)).tree.structure

pub read_records-requires-clause-counts : goal.read_records-requires-clause-counts
read_records-requires-clause-counts c =
    (subst IsCatalog (sym ((λ i. nodes_in (sparse (c.volume.ensures.read i)) (c.deref.ensures.value i)) ∙ c.requires.trees.catalog.same))
    (catalog_answers-sound c.args.count (sparse c.args.read.now) c.requires.sound)).tree.counts

pub returns : goal.returns
returns c =
    subst (λ (r : Catalog). IfOk c.read_records.result (λ records. records.items ≡ r))
    (by_nodes (λ catalog. catalog) (sparse c.args.read.now) _
    ((λ i. nodes_in (sparse (c.volume.ensures.read i)) (c.deref.ensures.value i)) ∙ c.requires.trees.catalog.same)) c.read_records.ensures
