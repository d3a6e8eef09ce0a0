use Rattle.hfs_runs.proofs.Small.{script_small}
use Rattle.hfs_runs.proofs.run_image.script_lines.Goals as goal

pub returns-in-Ok-clause-small : goal.returns-in-Ok-clause-small
returns-in-Ok-clause-small c = script_small c.args.now c.args.bytes.now c.in-Ok.script c.in-Ok.ensures
