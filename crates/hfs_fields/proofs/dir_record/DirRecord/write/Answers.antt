use Rattle.std.proofs.Common.{length, ap, ◌∙◌, arith}
use Rattle.hfs_fields.specs.Records.{begins_dir, dir_record_of}
use Rattle.hfs_fields.specs.RecordForms.{dir_record_bytes}
use Rattle.hfs_fields.proofs.RecordFormLemmas.{length-dir_record_bytes, begins_dir-written, dir_record_of-written}
use Rattle.hfs_fields.proofs.Written.{written}
use Rattle.hfs_fields.proofs.dir_record.DirRecord.write.Goals as goal

pub copy_to-requires : goal.copy_to-requires
copy_to-requires c =
    let whole = length-dir_record_bytes c.args.self.now c.laid.ensures.value in
    let same = ap length c.laid.ensures.bytes in
    omega (arith, whole, same)

pub returns-clause-written : goal.returns-clause-written
returns-clause-written c =
    written 70 c.laid.result (dir_record_bytes c.args.self.now) c.args.bytes.now _ c.copy_to.ensures c.laid.ensures.bytes (length-dir_record_bytes c.args.self.now c.laid.ensures.value)

pub returns-clause-begins : goal.returns-clause-begins
returns-clause-begins c = ap begins_dir (returns-clause-written c) ∙ begins_dir-written c.args.self.now _ c.laid.ensures.value

pub returns-clause-back : goal.returns-clause-back
returns-clause-back c = ap dir_record_of (returns-clause-written c) ∙ dir_record_of-written c.args.self.now _ c.laid.ensures.value
