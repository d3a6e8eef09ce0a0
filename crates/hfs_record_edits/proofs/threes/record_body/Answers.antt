-- The three extents are read back.
use Rattle.hfs_record_edits.proofs.ThreeLemmas.{body-back}
use Rattle.hfs_record_edits.proofs.threes.record_body.Goals as goal

pub returns-clause-back : goal.returns-clause-back
returns-clause-back c = body-back c.write_record.new.bytes _ c.args.extents.now c.told-extents c.write_record.ensures.written c.write_record.ensures.back
