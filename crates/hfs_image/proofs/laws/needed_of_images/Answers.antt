use Rattle.hfs_image.proofs.LawsProved.{needed_of_images}
use Rattle.hfs_image.proofs.laws.needed_of_images.Goals as goal

pub returns : goal.returns
returns c = needed_of_images
