use Rattle.std.proofs.Common.{length, ap, ◌∙◌, arith}
use Rattle.hfs_fields.specs.Records.{begins_file, file_record_of}
use Rattle.hfs_fields.specs.RecordForms.{file_record_bytes}
use Rattle.hfs_fields.proofs.RecordFormLemmas.{length-file_record_bytes, begins_file-written, file_record_of-written}
use Rattle.hfs_fields.proofs.Written.{written}
use Rattle.hfs_fields.proofs.file_record.FileRecord.write.Goals as goal

pub copy_to-requires : goal.copy_to-requires
copy_to-requires c =
    let whole = length-file_record_bytes c.args.self.now c.laid.ensures.value in
    let same = ap length c.laid.ensures.bytes in
    omega (arith, whole, same)

pub returns-clause-written : goal.returns-clause-written
returns-clause-written c =
    written 102 c.laid.result (file_record_bytes c.args.self.now) c.args.bytes.now _ c.copy_to.ensures c.laid.ensures.bytes (length-file_record_bytes c.args.self.now c.laid.ensures.value)

pub returns-clause-begins : goal.returns-clause-begins
returns-clause-begins c = ap begins_file (returns-clause-written c) ∙ begins_file-written c.args.self.now _ c.laid.ensures.value

pub returns-clause-back : goal.returns-clause-back
returns-clause-back c = ap file_record_of (returns-clause-written c) ∙ file_record_of-written c.args.self.now _ c.laid.ensures.value
