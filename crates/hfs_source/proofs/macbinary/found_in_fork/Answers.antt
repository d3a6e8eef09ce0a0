-- A disk copy comes before a volume.
use Rattle.std.proofs.Common.{◌≡◌, ◌∙◌, ap, sym}
use Rattle.std.specs.Option.{option_or}
use Rattle.hfs_source.specs.declared.ranges.Container.TheVariants.{MacBinary}
use Rattle.hfs_source.specs.Ranges.{volume_as}
use Rattle.hfs_source.specs.MacBinary.{found_in_fork}
use Rattle.hfs_source.proofs.Handed.{handed}
use Rattle.hfs_source.proofs.macbinary.found_in_fork.Goals as goal

pub returns-in-Some-clause-found : goal.returns-in-Some-clause-found
unfolding found_in_fork
returns-in-Some-clause-found g c = λ file h.
    ap (λ o. option_or o (volume_as MacBinary c.args.fork file)) (sym c.in-Some.is ∙ c.in_ok-found.ensures.found file h)

pub returns-in-None-clause-found : goal.returns-in-None-clause-found
unfolding found_in_fork
returns-in-None-clause-found g c =
    handed c.volume_as.result (g.S.PlacedBytes.Holds c.volume_as.new.source) (λ found file. found ≡ volume_as MacBinary c.args.fork file) (λ found file. found ≡ found_in_fork c.args.fork file)
    (λ found file h last. last ∙ ap (λ o. option_or o (volume_as MacBinary c.args.fork file)) (sym c.in-None.is ∙ c.in_ok-found.ensures.found file (c.volume_as.ensures.held file h)))
    c.volume_as.ensures.found
