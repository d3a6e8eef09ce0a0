-- Steps of the program, as a log keeps them.
use Rattle.std.specs.Prelude.{List, ◌∷◌}
use Rattle.hfs_put_sources.specs.HostSteps.{HostStep, listed, looked, followed, read_so}
use Rattle.hfs_put_sources.specs.declared.log.Step.{Step}
use Rattle.hfs_put_sources.specs.declared.log.Step.TheVariants.{Listed, Looked, Followed, Read}

-- these steps, and then this one
abbrev pub with_step : List HostStep → Step → List HostStep
with_step steps (Listed folder entries) = listed folder.now entries.now ∷ steps
with_step steps (Looked path look) = looked path.now look ∷ steps
with_step steps (Followed path look) = followed path.now look ∷ steps
with_step steps (Read path log) = read_so path.now log.now.steps ∷ steps
