use Rattle.std.proofs.Common.{◌∙◌, ap, subst, Option, ℕ}
use Rattle.hfs_check.specs.Answers.{extents_tree_fault}
use Rattle.hfs_check.proofs.Opened.{Answers, extents_fault-right, extents_nodes-is, has-bytes}
use Rattle.hfs_space.proofs.LawsProved.{no_tree_file_fault}
use Rattle.hfs_check.proofs.trees.check_extents.Goals as goal

pub check_extents_tree-requires : goal.check_extents_tree-requires
check_extents_tree-requires g c =
    has-bytes no_tree_file_fault (g.B.Blocks.blocks c.args.blocks.now) c.args.mdb.now c.args.mdb.now.extents_file c.args.mdb.now.extents_file_size _
    c.requires.sound.whole_size c.requires.file c.requires.runs.same

pub returns : goal.returns
returns g c =
    let blocks = g.B.Blocks.blocks c.args.blocks.now in
    let mdb = c.args.mdb.now in
    let same = c.requires.runs.same ∙ extents_nodes-is blocks mdb c.requires.is in
    subst (λ (place : Option ℕ). Answers 3 place c.check_extents_tree.result)
    (ap (extents_tree_fault mdb.extents_file_size) same ∙ extents_fault-right mdb _ c.requires.file)
    c.check_extents_tree.ensures
