use Rattle.std.proofs.Common.{sym, ap, ◌∙◌}
use Rattle.hfs_space.specs.Extents.{Overflow}
use Rattle.hfs_remains.specs.OverflowRecords.{record_at}
use Rattle.hfs_remains_forks.proofs.CountLemmas.{placed-none, placed-some}
use Rattle.hfs_remains_forks.proofs.chains.Chains.record.Goals as goal

pub returns-in-None : goal.returns-in-None
returns-in-None c =
    let a = c.args in
    sym (placed-none c.self.inside.records.now a.file a.fork a.block (sym c.record_place.ensures ∙ c.in-None.is))
    ∙ ap (λ (records : Overflow). record_at records a.file a.fork a.block) c.self.view_is

pub returns-in-Some : goal.returns-in-Some
returns-in-Some c =
    let a = c.args in
    placed-some c.self.inside.records.now a.file a.fork a.block c.in-Some.place c.get.result (sym c.record_place.ensures ∙ c.in-Some.is) c.get.ensures.lookup.0 c.get.ensures.lookup.1
    ∙ ap (λ (records : Overflow). record_at records a.file a.fork a.block) c.self.view_is
