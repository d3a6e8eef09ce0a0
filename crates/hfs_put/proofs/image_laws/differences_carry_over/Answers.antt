use Rattle.hfs_put.proofs.Differences as proved
use Rattle.hfs_put.proofs.image_laws.differences_carry_over.Goals as goal

pub returns : goal.returns
returns c = proved.differences_carry_over
