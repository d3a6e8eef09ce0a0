-- The name and the sum that were told make the line.
use Rattle.std.proofs.Common.{◌∙◌, ◌++◌}
use Rattle.std.specs.Prelude.{string_bytes}
use Rattle.hfs_commands.specs.Volumes.{line_of, volume_line}
use Rattle.hfs_commands.proofs.volumes.push_line_of.Goals as goal

pub returns-in-Ok-clause-line : goal.returns-in-Ok-clause-line
unfolding line_of
returns-in-Ok-clause-line g c = λ file h.
    c.in-Ok.ensures ∙ (λ i. string_bytes c.args.text.now
    ++ volume_line c.args.number c.args.found.now (c.in_ok-name.ensures.name file (c.in_ok-sum.ensures.held file h) i) (c.in_ok-sum.ensures.told file h i) c.args.others)
