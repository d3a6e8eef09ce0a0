use Rattle.hfs_put.proofs.ComingForks as proved
use Rattle.hfs_put.proofs.file_laws.laid_forks_are_arrivals.Goals as goal

pub returns : goal.returns
returns c = λ host items places runs bytes same. proved.laid_forks_are_arrivals host items places same runs bytes
