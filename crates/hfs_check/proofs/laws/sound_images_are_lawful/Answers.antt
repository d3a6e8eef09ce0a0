use Rattle.hfs_check.proofs.LawsProved.{sound_images_are_lawful}
use Rattle.hfs_check.proofs.laws.sound_images_are_lawful.Goals as goal

pub returns : goal.returns
returns c = sound_images_are_lawful
