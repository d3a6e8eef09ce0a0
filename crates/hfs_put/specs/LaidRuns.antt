-- The bytes of a list's forks, laid in the runs of an image in which they are to be.
use Rattle.std.specs.Prelude.{ℕ, ◌+◌, List, [], ◌∷◌, ◌++◌, length, take, drop, replicate, slice_get, Option, Some, None}
use Rattle.hfs_model.specs.declared.call.Fork.{Fork}
use Rattle.hfs_model.specs.declared.call.Fork.TheVariants.{DataFork, ResFork}
use Rattle.hfs_put_plan.specs.Put.{Arrival}
use Rattle.hfs_put_sources.specs.declared.fork_run.ForkRun.{ForkRun}

-- the bytes that are put for one of an item's forks; there are none where there is no item
abbrev pub fork_bytes : Option Arrival → Fork → List ℕ
fork_bytes (Some a) DataFork = a.data_fork
fork_bytes (Some a) ResFork = a.resource_fork
fork_bytes None fork = []

-- the first so many of some bytes, with zeros after their end
abbrev pub filled : ℕ → List ℕ → List ℕ
filled len bytes = take len (bytes ++ replicate len 0)

-- the fork's bytes from the one that is at the run's beginning, with zeros after the fork's end
abbrev pub run_bytes : List Arrival → ForkRun → List ℕ
run_bytes arrivals run = filled run.len (drop run.offset (fork_bytes (slice_get arrivals run.item) run.fork))

-- bytes with others in the place of some, from a byte on
abbrev pub laid_at : ℕ → List ℕ → List ℕ → List ℕ
laid_at place bytes file = take place file ++ (bytes ++ drop (place + length bytes) file)

-- an image with the bytes of the forks in the place of its own in these runs
abbrev pub laid : List Arrival → List ForkRun → List ℕ → List ℕ
laid arrivals [] image = image
laid arrivals (run ∷ runs) image = laid_at run.place (run_bytes arrivals run) (laid arrivals runs image)
