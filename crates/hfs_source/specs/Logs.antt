-- Steps of the program, as a log keeps them.
use Rattle.std.specs.Prelude.{List, ◌∷◌}
use Rattle.hfs_source.specs.Steps.{ReadStep, went, ended, came, lost}
use Rattle.hfs_source.specs.declared.log.Step.{Step}
use Rattle.hfs_source.specs.declared.log.Step.TheVariants.{Went, Ended, Came, Lost}

-- these steps, and then this one
abbrev pub with_step : List ReadStep → Step → List ReadStep
with_step steps (Went place) = went place ∷ steps
with_step steps (Ended place) = ended place ∷ steps
with_step steps (Came bytes) = came bytes.now ∷ steps
with_step steps Lost = lost ∷ steps
