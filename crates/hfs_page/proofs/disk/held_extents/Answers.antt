-- the nodes of the extents tree lie in its runs
use Rattle.std.proofs.Common.{◌≡◌, ◌∙◌, sym, subst}
use Rattle.std.specs.Prelude.{IfOk, List}
use Rattle.hfs_blocks.specs.Blocks.{nodes_in}
use Rattle.hfs_space.specs.TreeKeys.{IsExtentsTree}
use Rattle.hfs_page.specs.declared.parts.Holding.{Holding}
use Rattle.hfs_page.proofs.DiskLemmas.{overflow-by, catalog-file, holdings-by}
use Rattle.hfs_check.proofs.LawsProved.{trees_are_sound}
use Rattle.hfs_page.proofs.disk.held_extents.Goals as goal

pub volume_holdings-requires-clause-tree : goal.volume_holdings-requires-clause-tree
volume_holdings-requires-clause-tree g c =
    subst IsExtentsTree (sym ((λ i. nodes_in (g.B.Blocks.blocks c.args.blocks.now) (c.deref.ensures.value i)) ∙ c.requires.trees.extents.same))
    (trees_are_sound (g.B.Blocks.total c.args.blocks.now) (g.B.Blocks.blocks c.args.blocks.now) c.requires.sound).0

pub volume_holdings-requires-clause-catalog : goal.volume_holdings-requires-clause-catalog
volume_holdings-requires-clause-catalog g c =
    c.deref-2.ensures.value ∙ catalog-file (g.B.Blocks.blocks c.args.blocks.now) c.args.volume.now.mdb _ _ c.requires.mdb
    ((λ i. nodes_in (g.B.Blocks.blocks c.args.blocks.now) (c.deref.ensures.value i)) ∙ c.requires.trees.extents.same) c.requires.trees.catalog_file

pub returns : goal.returns
returns g c =
    subst (λ (h : List Holding). IfOk c.volume_holdings.result (λ held. held.items ≡ h))
    (holdings-by (g.B.Blocks.blocks c.args.blocks.now) c.args.volume.now.mdb _ c.args.records.now c.requires.mdb
    (overflow-by (g.B.Blocks.blocks c.args.blocks.now) _ ((λ i. nodes_in (g.B.Blocks.blocks c.args.blocks.now) (c.deref.ensures.value i)) ∙ c.requires.trees.extents.same))
    c.requires.records) c.volume_holdings.ensures
