use Rattle.std.proofs.Common.{length, ap, ◌∙◌, arith}
use Rattle.hfs_fields.specs.Records.{begins_thread, thread_record_of}
use Rattle.hfs_fields.specs.RecordForms.{thread_record_bytes}
use Rattle.hfs_fields.proofs.RecordFormLemmas.{length-thread_record_bytes, begins_thread-written, thread_record_of-written}
use Rattle.hfs_fields.proofs.Written.{written}
use Rattle.hfs_fields.proofs.thread_record.ThreadRecord.write.Goals as goal

pub copy_to-requires : goal.copy_to-requires
copy_to-requires c =
    let whole = length-thread_record_bytes c.args.self.now c.laid.ensures.value in
    let same = ap length c.laid.ensures.bytes in
    omega (arith, whole, same)

pub returns-clause-written : goal.returns-clause-written
returns-clause-written c =
    written 46 c.laid.result (thread_record_bytes c.args.self.now) c.args.bytes.now _ c.copy_to.ensures c.laid.ensures.bytes (length-thread_record_bytes c.args.self.now c.laid.ensures.value)

pub returns-clause-begins : goal.returns-clause-begins
returns-clause-begins c = ap begins_thread (returns-clause-written c) ∙ begins_thread-written c.args.self.now _ c.laid.ensures.value

pub returns-clause-back : goal.returns-clause-back
returns-clause-back c = ap thread_record_of (returns-clause-written c) ∙ thread_record_of-written c.args.self.now _ c.laid.ensures.value
