use Rattle.hfs_put.proofs.PutAlike as proved
use Rattle.hfs_put.proofs.image_laws.alike_volumes_are_put_alike.Goals as goal

pub returns : goal.returns
returns c = proved.alike_volumes_are_put_alike
