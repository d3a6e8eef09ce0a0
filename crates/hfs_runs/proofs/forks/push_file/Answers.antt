-- Both forks came.
use Rattle.hfs_fields.proofs.OutcomeLemmas.{on_ok}
use Rattle.hfs_space.specs.declared.fork_kind.ForkKind.TheVariants.{Data, Resource}
use Rattle.hfs_source.specs.Sparse.{sparse}
use Rattle.hfs_runs.specs.NamedForks.{fork_blocks}
use Rattle.hfs_runs.proofs.ForkPlaces.{lie-more, pushed-among, pushed-gained}
use Rattle.hfs_runs.proofs.forks.push_file.Goals as goal

pub returns-clause-within : goal.returns-clause-within
returns-clause-within c =
    on_ok c.push_fork-2.result _ _ (λ came within.
    lie-more _ c.args.working.now.count c.push_fork.new.runs.items c.push_fork-2.new.runs.items came
    (lie-more _ c.args.working.now.count c.args.runs.now.items c.push_fork.new.runs.items c.in_ok-push_fork.ensures within)) c.push_fork-2.ensures

pub returns-clause-gained : goal.returns-clause-gained
returns-clause-gained c =
    on_ok c.push_fork-2.result _ _ (λ came.
    pushed-gained _ _ c.args.working.now.count c.args.runs.now.items c.push_fork.new.runs.items c.push_fork-2.new.runs.items c.in_ok-push_fork.ensures came) c.push_fork-2.ensures

pub returns-clause-forks : goal.returns-clause-forks
returns-clause-forks c =
    on_ok c.push_fork-2.result _ _ (λ came.
    pushed-among (fork_blocks (sparse c.args.working.now.read) c.args.file.now.id Data c.args.file.now.«data»)
    (fork_blocks (sparse c.args.working.now.read) c.args.file.now.id Resource c.args.file.now.resource) c.args.working.now.count c.args.runs.now.items c.push_fork.new.runs.items
    c.push_fork-2.new.runs.items c.in_ok-push_fork.ensures came) c.push_fork-2.ensures
