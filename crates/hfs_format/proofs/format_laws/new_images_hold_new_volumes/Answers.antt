use Rattle.hfs_format.proofs.NewImageLemmas.{new_images-hold}
use Rattle.hfs_format.proofs.format_laws.new_images_hold_new_volumes.Goals as goal

pub returns : goal.returns
returns c = new_images-hold
