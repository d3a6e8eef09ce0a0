use Rattle.std.proofs.Common.{length, ap, ◌∙◌, refl, arith}
use Rattle.hfs_fields.specs.Keys.{is_cat_key, cat_key_of}
use Rattle.hfs_fields.specs.KeyForms.{cat_leaf_bytes, length-cat_leaf_bytes}
use Rattle.hfs_fields.proofs.KeyFormLemmas.{is_cat_key-leaf, cat_key_of-leaf}
use Rattle.hfs_fields.proofs.Written.{written}
use Rattle.hfs_fields.proofs.key.CatKey.write.Goals as goal

pub copy_to-requires : goal.copy_to-requires
copy_to-requires c =
    let whole = length-cat_leaf_bytes c.args.self.now in
    let same = ap length c.bytes-length.ensures.bytes in
    omega (arith, whole, same)

pub returns-clause-written : goal.returns-clause-written
unfolding cat_leaf_bytes
returns-clause-written c = written _ c.push_zeros.new.self (cat_leaf_bytes c.args.self.now) c.args.bytes.now _ c.copy_to.ensures (cc) refl

pub returns-clause-key : goal.returns-clause-key
returns-clause-key c = ap is_cat_key (returns-clause-written c) ∙ is_cat_key-leaf c.args.self.now _ c.laid-row.ensures.value

pub returns-clause-back : goal.returns-clause-back
returns-clause-back c = ap cat_key_of (returns-clause-written c) ∙ cat_key_of-leaf c.args.self.now _ c.laid-row.ensures.value
