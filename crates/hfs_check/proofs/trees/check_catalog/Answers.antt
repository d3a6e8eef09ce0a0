use Rattle.std.proofs.Common.{◌∙◌, ap, subst, Option, ℕ}
use Rattle.hfs_btree_checks.specs.Shape.{shape_fault, has_counts}
use Rattle.hfs_catalog.specs.Tree.{cat_keys}
use Rattle.hfs_check.specs.Faults.{catalog_fault}
use Rattle.hfs_check.specs.Parts.{catalog_nodes}
use Rattle.hfs_check.proofs.Opened.{Answers, catalog_fault-right, catalog_nodes-is, has-bytes}
use Rattle.hfs_space.proofs.LawsProved.{no_tree_file_fault}
use Rattle.hfs_check.proofs.trees.check_catalog.Goals as goal

pub check_catalog_shape-requires : goal.check_catalog_shape-requires
check_catalog_shape-requires g c =
    has-bytes no_tree_file_fault (g.B.Blocks.blocks c.args.blocks.now) c.args.mdb.now c.args.extents.now c.args.mdb.now.catalog_file_size _
    c.requires.sound.whole_size c.requires.file c.requires.runs.same

pub returns : goal.returns
returns g c =
    let blocks = g.B.Blocks.blocks c.args.blocks.now in
    let mdb = c.args.mdb.now in
    let same = c.requires.runs.same ∙ catalog_nodes-is blocks mdb c.args.extents.now c.requires.is c.requires.extents in
    subst (λ (place : Option ℕ). Answers 4 place c.check_catalog_shape.result)
    (ap (shape_fault cat_keys mdb.catalog_file_size) same ∙ catalog_fault-right mdb c.args.extents.now _ c.requires.file
    ∙ ap (λ extents. catalog_fault (has_counts cat_keys (catalog_nodes blocks)) mdb extents (catalog_nodes blocks)) c.requires.extents)
    c.check_catalog_shape.ensures.fault
