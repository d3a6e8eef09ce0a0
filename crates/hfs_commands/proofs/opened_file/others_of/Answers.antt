-- What was held is held, and so it is told of that.
use Rattle.hfs_commands.proofs.HeldBytes.{others_held}
use Rattle.hfs_commands.proofs.opened_file.others_of.Goals as goal

pub returns-in-Ok-clause-known : goal.returns-in-Ok-clause-known
returns-in-Ok-clause-known g c =
    others_held c.args.file.now c.count_others.new.bytes c.in-Ok.others c.in-Ok.ensures.held c.in-Ok.ensures.later c.in-Ok.ensures.count
