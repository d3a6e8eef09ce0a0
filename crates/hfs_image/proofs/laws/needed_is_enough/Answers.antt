use Rattle.hfs_image.proofs.LawsProved.{needed_is_enough}
use Rattle.hfs_image.proofs.laws.needed_is_enough.Goals as goal

pub returns : goal.returns
returns c = needed_is_enough
