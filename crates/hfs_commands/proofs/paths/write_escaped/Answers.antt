use Rattle.std.proofs.Output.{has_written_of_eq}
use Rattle.hfs_commands.proofs.Escapes.{escaped_byte-padded}
use Rattle.hfs_commands.proofs.paths.write_escaped.Goals as goal

pub returns : goal.returns
returns g c plain ok =
    let wrote = rw (c.in_radix.ensures, c.laid_out.ensures) at c.write.ensures.writes in
    has_written_of_eq _ _ _ _ _ (escaped_byte-padded c.args.byte c.ranges.byte.fits) (wrote plain ok)
