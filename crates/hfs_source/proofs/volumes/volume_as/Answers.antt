-- The range, where a name was found.
use Rattle.std.proofs.Common.{◌∙◌, ap, sym}
use Rattle.std.specs.Option.{option_map}
use Rattle.hfs_source.specs.Ranges.{found_as, volume_as}
use Rattle.hfs_source.proofs.volumes.volume_as.Goals as goal

pub returns-in-Some-clause-found : goal.returns-in-Some-clause-found
unfolding volume_as
returns-in-Some-clause-found g c = λ file h.
    ap (option_map (λ _. found_as c.args.container c.args.range)) (sym c.in-Some.is ∙ c.in_ok-volume_name.ensures.name file h)

pub returns-in-None-clause-found : goal.returns-in-None-clause-found
unfolding volume_as
returns-in-None-clause-found g c = λ file h.
    ap (option_map (λ _. found_as c.args.container c.args.range)) (sym c.in-None.is ∙ c.in_ok-volume_name.ensures.name file h)
