use Rattle.hfs_put.proofs.WholeFiles as proved
use Rattle.hfs_put.proofs.file_laws.put_files_have_directory.Goals as goal

pub returns : goal.returns
returns c = proved.put_files_have_directory
