use Rattle.hfs_fields.proofs.KeyOrder.{ext_key_order}
use Rattle.hfs_fields.proofs.key.ext_key_order_laws.Goals as goal

pub returns : goal.returns
returns c = ext_key_order
