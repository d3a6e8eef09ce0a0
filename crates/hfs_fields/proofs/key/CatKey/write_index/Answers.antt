use Rattle.std.proofs.Common.{◌≡◌, ◌++◌, length, arith}
use Rattle.std.proofs.lemmas.List.{length-append}
use Rattle.byteorder.specs.Endian.{big_bytes}
use Rattle.hfs_fields.specs.KeyForms.{cat_index_bytes, cat_index_record}
use Rattle.hfs_fields.proofs.KeyFormLemmas.{length-cat_index_bytes}
use Rattle.hfs_fields.proofs.Written.{written}
use Rattle.hfs_fields.proofs.key.CatKey.write_index.Goals as goal

pub returns-clause-written : goal.returns-clause-written
unfolding cat_index_record cat_index_bytes
returns-clause-written c =
    let key = c.args.self.now in
    let whole : length (cat_index_bytes key ++ big_bytes 4 c.args.child) ≡ 42 =
    omega (arith, length-append (cat_index_bytes key) (big_bytes 4 c.args.child), length-cat_index_bytes key c.laid-row.ensures.value.name) in
    written 42 c.push_u32.new.self (cat_index_bytes key ++ big_bytes 4 c.args.child) c.args.bytes.now _ c.copy_to.ensures (cc) whole
