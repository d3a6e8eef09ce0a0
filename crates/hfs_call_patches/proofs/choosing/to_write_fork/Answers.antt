-- The model's choice of what was found.
use Rattle.std.proofs.Common.{sym, subst}
use Rattle.std.specs.Prelude.{IfOk}
use Rattle.hfs_call_patches.specs.Found.{ChoosesWriteFork, IsWritable}
use Rattle.hfs_call_patches.proofs.Choices.{write_fork_chosen, writable_found}
use Rattle.hfs_call_patches.proofs.choosing.to_write_fork.Goals as goal

pub returns-clause-chooses : goal.returns-clause-chooses
returns-clause-chooses c =
    subst (ChoosesWriteFork c.args.found c.args.fork c.args.offset c.args.bytes.now) (sym c.if_writable.ensures) (write_fork_chosen c.args.found c.args.fork c.args.offset c.args.bytes.now)

pub returns-clause-within : goal.returns-clause-within
returns-clause-within c =
    subst (λ r. IfOk r (IsWritable c.args.found c.args.fork c.args.offset c.args.bytes.now)) (sym c.if_writable.ensures) (writable_found c.args.found c.args.fork c.args.offset c.args.bytes.now)
