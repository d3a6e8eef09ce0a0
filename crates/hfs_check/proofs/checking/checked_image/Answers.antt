use Rattle.std.proofs.Common.{arith}
use Rattle.hfs_blocks.specs.Blocks.{block_at, block_count}
use Rattle.hfs_check.specs.declared.mount_fault.MountFault.{MountFault}
use Rattle.hfs_check.specs.Answers.{IsFaultOf}
use Rattle.hfs_check.specs.Faults.{blocks_fault, fault_of}
use Rattle.hfs_check.proofs.Opened.{image_wrong, err-mono}
use Rattle.hfs_check.proofs.checking.checked_image.Goals as goal

pub returns-clause-wrong : goal.returns-clause-wrong
returns-clause-wrong c =
    let image = c.args.image.now in
    err-mono (IsFaultOf (blocks_fault (block_count image) (block_at image))) (IsFaultOf (fault_of image))
    (λ (answer : MountFault) h. image_wrong image answer (omega arith) (omega arith) h) c.checked_blocks.result c.checked_blocks.ensures.wrong
