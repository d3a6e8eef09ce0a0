use Rattle.std.proofs.Common.{◌≡◌, ◌++◌, length, arith}
use Rattle.std.proofs.lemmas.List.{length-append}
use Rattle.byteorder.specs.Endian.{big_bytes}
use Rattle.hfs_fields.specs.KeyForms.{ext_key_bytes, ext_index_record, length-ext_key_bytes}
use Rattle.hfs_fields.proofs.Written.{written}
use Rattle.hfs_fields.proofs.key.ExtKey.write_index.Goals as goal

pub returns-clause-written : goal.returns-clause-written
unfolding ext_index_record
returns-clause-written c =
    let key = c.args.self.now in
    let whole : length (ext_key_bytes key ++ big_bytes 4 c.args.child) ≡ 12 = omega (arith, length-append (ext_key_bytes key) (big_bytes 4 c.args.child), length-ext_key_bytes key) in
    written 12 c.push_u32.new.self (ext_key_bytes key ++ big_bytes 4 c.args.child) c.args.bytes.now _ c.copy_to.ensures (cc) whole
