-- the first of the names that were tried is told, and none before one was tried
use Rattle.std.proofs.Common.{◌≡◌, string_bytes}
use Rattle.std.specs.Option.{option_map}
use Rattle.hfs_commands.specs.Paths.{taken_before}
use Rattle.hfs_commands.proofs.beside.create_beside.Given as goal

abbrev pub invariant-loop-number : goal.invariant-loop-number
invariant-loop-number g l = option_map (λ told. string_bytes told.path) l.leftover ≡ taken_before l.fn.path l.number
