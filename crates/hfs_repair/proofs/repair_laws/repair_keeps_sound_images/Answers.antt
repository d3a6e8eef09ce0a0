use Rattle.hfs_repair.proofs.Repaired.{keeps-sound}
use Rattle.hfs_repair.proofs.repair_laws.repair_keeps_sound_images.Goals as goal

pub returns : goal.returns
returns c = keeps-sound
