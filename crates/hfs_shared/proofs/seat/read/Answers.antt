use Rattle.std.proofs.Common.{ap, ◌∙◌}
use Rattle.hfs_shared.proofs.Seeing.{enters, taken}
use Rattle.hfs_shared.proofs.seat.read.Goals as goal

pub enter_as-requires : goal.enter_as-requires
enter_as-requires c = enters _ _

pub returns-clause-met : goal.returns-clause-met
returns-clause-met c = taken _ _ _ c.in-Ok.reading.part.value c.args.met.now c.again-met.result c.in-Ok.ensures.1 c.requires.sits c.leave.ensures.1 (c.again-met.ensures ∙ ap (λ x. x.front) c.get-now.ensures)
