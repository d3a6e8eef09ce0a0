use Rattle.hfs_put.proofs.LaidForkLemmas as proved
use Rattle.hfs_put.proofs.image_laws.laid_forks_are_read.Goals as goal

pub returns : goal.returns
returns c = proved.laid_forks_are_read
