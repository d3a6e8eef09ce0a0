-- the nodes of the catalog lie in its runs
use Rattle.std.proofs.Common.{◌≡◌, ◌∙◌, sym, subst}
use Rattle.std.specs.Prelude.{IfOk}
use Rattle.hfs_blocks.specs.Blocks.{nodes_in}
use Rattle.hfs_catalog.specs.Records.{Catalog}
use Rattle.hfs_catalog.specs.Tree.{IsCatalogTree}
use Rattle.hfs_page.proofs.DiskLemmas.{catalog-by}
use Rattle.hfs_check.proofs.LawsProved.{trees_are_sound}
use Rattle.hfs_page.proofs.disk.catalog_records.Goals as goal

pub read_records-requires-clause-structure : goal.read_records-requires-clause-structure
read_records-requires-clause-structure g c =
    (subst IsCatalogTree (sym ((λ i. nodes_in (g.B.Blocks.blocks c.args.blocks.now) (c.deref.ensures.value i)) ∙ c.requires.trees.catalog.same))
    (trees_are_sound (g.B.Blocks.total c.args.blocks.now) (g.B.Blocks.blocks c.args.blocks.now) c.requires.sound).1).structure

pub read_records-requires-clause-counts : goal.read_records-requires-clause-counts
read_records-requires-clause-counts g c =
    (subst IsCatalogTree (sym ((λ i. nodes_in (g.B.Blocks.blocks c.args.blocks.now) (c.deref.ensures.value i)) ∙ c.requires.trees.catalog.same))
    (trees_are_sound (g.B.Blocks.total c.args.blocks.now) (g.B.Blocks.blocks c.args.blocks.now) c.requires.sound).1).counts

pub returns : goal.returns
returns g c =
    subst (λ (r : Catalog). IfOk c.read_records.result (λ records. records.items ≡ r))
    (catalog-by (g.B.Blocks.blocks c.args.blocks.now) _ ((λ i. nodes_in (g.B.Blocks.blocks c.args.blocks.now) (c.deref.ensures.value i)) ∙ c.requires.trees.catalog.same)) c.read_records.ensures
