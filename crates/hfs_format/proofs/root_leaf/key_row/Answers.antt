use Rattle.std.proofs.Common.{arith}
use Rattle.hfs_fields.specs.KeyForms.{length-cat_leaf_bytes}
use Rattle.hfs_format.proofs.root_leaf.key_row.Goals as goal

pub write-requires : goal.write-requires
write-requires c = let whole = length-cat_leaf_bytes (record { parent = c.args.parent; name = c.args.name }) in omega (arith, whole)
