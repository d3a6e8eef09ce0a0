use Rattle.std.proofs.Common.{◌≡◌, rules}
use Rattle.hfs_image.proofs.Found.{has-bytes, tree-right, tree-wrong}
use Rattle.hfs_space.proofs.LawsProved.{no_tree_file_fault}
use Rattle.hfs_check.specs.declared.mount_fault.MountFault.TheVariants as fault
use Rattle.hfs_image.proofs.finding.is_extents_tree_right.Goals as goal

pub check_extents_tree-requires : goal.check_extents_tree-requires
check_extents_tree-requires g c =
    has-bytes (g.B.Blocks.blocks c.args.blocks.now) c.args.mdb.now c.requires.is c.args.extents_tree.now c.requires.runs.numbers c.requires.file
    no_tree_file_fault c.requires.sound.whole_size

pub returns-in-Ok : goal.returns-in-Ok
returns-in-Ok g c =
    tree-right (g.B.Blocks.blocks c.args.blocks.now) c.args.mdb.now c.requires.is c.args.extents_tree.now c.requires.runs.numbers c.requires.file
    c.in-Ok.ensures

pub returns-in-Err : goal.returns-in-Err
returns-in-Err g c =
    let other : c.in-Err.field-0 ≡ fault.Memory → ⊥ = search rules in
    tree-wrong (g.B.Blocks.blocks c.args.blocks.now) c.args.mdb.now c.requires.is c.args.extents_tree.now c.requires.runs.numbers c.requires.file
    c.in-Err.field-0 other c.in-Err.ensures
