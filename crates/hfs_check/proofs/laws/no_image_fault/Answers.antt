use Rattle.hfs_check.proofs.LawsProved.{no_image_fault}
use Rattle.hfs_check.proofs.laws.no_image_fault.Goals as goal

pub returns : goal.returns
returns c = no_image_fault
