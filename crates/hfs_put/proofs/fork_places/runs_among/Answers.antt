-- Each record is one of the catalog's.
use Rattle.std.proofs.Common.{sym, subst}
use Rattle.hfs_catalog.specs.Records.{Catalog, Record}
use Rattle.hfs_fields.specs.Members.{In}
use Rattle.hfs_put.proofs.fork_places.runs_among.Goals as goal
use Rattle.hfs_fields.proofs.MemberLemmas.{in-at}

pub push_record-requires-clause-there : goal.push_record-requires-clause-there
push_record-requires-clause-there c =
    subst (λ (rs : Catalog). In c.entry-item.result rs) c.requires.records
    (subst (λ (r : Record). In r c.args.records.now) (sym c.entry-item.is) (in-at c.args.records.now c.loop-entry.entry-index c.entry-item.result c.loop-entry-test.true))
