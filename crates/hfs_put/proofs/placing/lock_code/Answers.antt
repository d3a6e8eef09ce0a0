use Rattle.std.proofs.Common.{◌∙◌, ap}
use Rattle.hfs_put.specs.PlacedSources.{directory_lock_code}
use Rattle.hfs_put.proofs.LockCodes.{lock-is}
use Rattle.hfs_put.proofs.placing.lock_code.Goals as goal

pub returns : goal.returns
returns c = c.directory_lock_code.ensures ∙ ap directory_lock_code c.directory.ensures ∙ lock-is c.args.volume.now.current
