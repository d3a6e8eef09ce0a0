use Rattle.hfs_put.proofs.SavedPuts as proved
use Rattle.hfs_put.proofs.image_laws.saved_is_put.Goals as goal

pub returns : goal.returns
returns c = proved.saved_is_put
