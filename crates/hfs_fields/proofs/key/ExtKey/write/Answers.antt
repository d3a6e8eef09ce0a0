use Rattle.std.proofs.Common.{drop, ap, ◌∙◌}
use Rattle.hfs_fields.specs.Keys.{is_ext_key, ext_key_of}
use Rattle.hfs_fields.specs.KeyForms.{length-ext_key_bytes}
use Rattle.hfs_fields.proofs.KeyFormLemmas.{is_ext_key-written, ext_key_of-written}
use Rattle.hfs_fields.proofs.Written.{written}
use Rattle.hfs_fields.proofs.key.ExtKey.write.Goals as goal

pub returns-clause-written : goal.returns-clause-written
returns-clause-written c = written 8 c.laid.result _ c.args.bytes.now _ c.copy_to.ensures c.laid.ensures.bytes (length-ext_key_bytes c.args.self.now)

pub returns-clause-key : goal.returns-clause-key
returns-clause-key c =
    ap is_ext_key (written 8 c.laid.result _ c.args.bytes.now _ c.copy_to.ensures c.laid.ensures.bytes (length-ext_key_bytes c.args.self.now))
    ∙ is_ext_key-written c.args.self.now (drop 8 c.args.bytes.now)

pub returns-clause-back : goal.returns-clause-back
returns-clause-back c =
    ap ext_key_of (written 8 c.laid.result _ c.args.bytes.now _ c.copy_to.ensures c.laid.ensures.bytes (length-ext_key_bytes c.args.self.now))
    ∙ ext_key_of-written c.args.self.now (drop 8 c.args.bytes.now) c.laid.ensures.value
