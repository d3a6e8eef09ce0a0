-- One ID more was met.
use Rattle.hfs_source.specs.Sparse.{sparse}
use Rattle.hfs_runs.proofs.ForkPlaces.{met-gained, met-more, met-by}
use Rattle.hfs_runs.proofs.forks.push_once.Goals as goal

pub returns-clause-met : goal.returns-clause-met
returns-clause-met c =
    met-more c.args.working.now.count (sparse c.args.working.now.read) c.requires.sound c.args.ids.now.entries c.insert.new.self.entries c.push_file.new.runs.items c.args.file.now c.requires.file
    (met-gained (sparse c.args.working.now.read) c.args.ids.now.entries c.args.runs.now.items c.push_file.new.runs.items c.in_ok-push_file.ensures.gained c.requires.met)
    c.in_ok-push_file.ensures.forks
    (met-by c.args.ids.now.entries c.insert.new.self.entries c.args.file.now.id tt c.in_ok-insert.ensures.updates.0)
