use Rattle.hfs_format.proofs.NewImageLemmas.{new_images-sound}
use Rattle.hfs_format.proofs.format_laws.new_images_are_sound.Goals as goal

pub returns : goal.returns
returns c = new_images-sound
