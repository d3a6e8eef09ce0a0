use Rattle.hfs_fields.proofs.KeyOrder.{cat_key_order}
use Rattle.hfs_fields.proofs.key.cat_key_order_laws.Goals as goal

pub returns : goal.returns
returns c = cat_key_order
