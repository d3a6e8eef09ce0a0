-- A number below 2 ^ 32 is read again.
use Rattle.hfs_scripts.proofs.Written.{number_of-decimal}
use Rattle.hfs_scripts.proofs.argument_lists.number_field.Goals as goal

pub returns-clause-reads : goal.returns-clause-reads
returns-clause-reads c = number_of-decimal c.args.number c.ranges.number.fits
