use Rattle.hfs_put.proofs.ComingForks as proved
use Rattle.hfs_put.proofs.file_laws.whole_forks_come.Goals as goal

pub returns : goal.returns
returns c = proved.whole_forks_come
