use Rattle.std.proofs.Common.{sym, ◌∙◌}
use Rattle.hfs_fields.specs.Records.{begins_thread, has_short_name, thread_record_of}
use Rattle.hfs_remains_forks.proofs.NamingLemmas.{begins-short, read-is}
use Rattle.hfs_remains_forks.proofs.records.read_thread.Goals as goal

pub returns-in-Some : goal.returns-in-Some
returns-in-Some c =
    let body = c.args.body.now in
    sym c.in-Some.is ∙ read-is c.read.result (begins_thread body) (has_short_name body) (thread_record_of body) (begins-short body c.requires) c.read.ensures

pub returns-in-None : goal.returns-in-None
returns-in-None c =
    let body = c.args.body.now in
    sym c.in-None.is ∙ read-is c.read.result (begins_thread body) (has_short_name body) (thread_record_of body) (begins-short body c.requires) c.read.ensures
