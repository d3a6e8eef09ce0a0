-- Steps of the program, as a log keeps them.
use Rattle.std.specs.Prelude.{List, ◌∷◌}
use Rattle.std.specs.Time.{system_time_nanos}
use Rattle.hfs_bag.specs.SystemSteps.{Asked, SystemStep, made_folder, opened, wrote, timed, closed, moved, removed_file, found_folder, removed_folder, looked, listed, named, done, failed, makes_file}
use Rattle.hfs_bag.specs.declared.log.Step.{Step}
use Rattle.hfs_bag.specs.declared.log.Step.TheVariants.{MadeFolder, Opened, Wrote, Timed, Closed, Moved, RemovedFile, RemovedFolder, FoundFolder, Looked, Listed, Named}

-- what a step of the program asks
abbrev pub asked_by : Step → Asked
asked_by (MadeFolder path) = made_folder path.now
asked_by (Opened how path) = opened (makes_file how.now) path.now
asked_by (Wrote bytes) = wrote bytes.now
asked_by (Timed time) = timed (system_time_nanos time)
asked_by Closed = closed
asked_by (Moved from to) = moved from.now to.now
asked_by (RemovedFile path) = removed_file path.now
asked_by (RemovedFolder path) = removed_folder path.now
asked_by (FoundFolder path) = found_folder path.now
asked_by (Looked path there) = looked path.now there
asked_by (Listed path) = listed path.now
asked_by (Named bytes) = named bytes.now

-- these steps, and then this one, which was done, or which failed
abbrev pub with_step : List SystemStep → Step → List SystemStep
with_step steps step = done (asked_by step) ∷ steps

abbrev pub with_failed : List SystemStep → Step → List SystemStep
with_failed steps step = failed (asked_by step) ∷ steps
