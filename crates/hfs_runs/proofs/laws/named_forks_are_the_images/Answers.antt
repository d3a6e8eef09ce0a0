use Rattle.hfs_runs.proofs.ForksOfLines as forks
use Rattle.hfs_runs.proofs.laws.named_forks_are_the_images.Goals as goal

pub returns : goal.returns
returns c = forks.named_forks_are_the_images
