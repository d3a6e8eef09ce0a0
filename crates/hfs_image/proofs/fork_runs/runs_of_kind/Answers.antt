-- The bytes lie where the runs say.
use Rattle.std.proofs.Common.{refl}
use Rattle.hfs_image.proofs.ForkPlaces.{lies-known}
use Rattle.hfs_image.proofs.fork_runs.runs_of_kind.Goals as goal

pub returns-clause-bytes : goal.returns-clause-bytes
returns-clause-bytes c = lies-known c.args.volume.now.read c.args.volume.now.count c.requires.sound c.args.fork.now.file c.args.fork.now.kind c.args.fork.now.fields.now c.requires.fork
    (record { runs = c.in_ok-runs.runs; length = c.args.fork.now.fields.now.length }) c.in_ok-runs.ensures.runs refl
