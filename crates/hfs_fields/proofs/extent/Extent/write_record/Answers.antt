use Rattle.std.proofs.Common.{drop}
use Rattle.hfs_fields.specs.RecordForms.{extents_bytes}
use Rattle.hfs_fields.proofs.RecordFormLemmas.{length-extents_bytes, extents_at-read}
use Rattle.hfs_fields.proofs.Written.{written}
use Rattle.hfs_fields.proofs.extent.Extent.write_record.Goals as goal

pub returns-clause-written : goal.returns-clause-written
returns-clause-written c =
    written 12 c.laid_extents.result (extents_bytes c.args.extents.now) c.args.bytes.now _ c.copy_to.ensures c.laid_extents.ensures.bytes
    (length-extents_bytes c.args.extents.now c.laid_extents.ensures.value.three)

pub returns-clause-back : goal.returns-clause-back
returns-clause-back c = extents_at-read 0 c.args.extents.now _ (drop 12 c.args.bytes.now) (returns-clause-written c) c.laid_extents.ensures.value
