-- The bytes of a file in which forks are laid.
use Rattle.std.specs.Prelude.{◌≡◌, ℕ, ◌+◌, IsTrue, List, [], ◌∷◌, ◌++◌, length, take, drop, replicate, slice_get, Option, Some, None}
use Rattle.hfs_model.specs.declared.call.Fork.{Fork}
use Rattle.hfs_put_sources.specs.Forks.{fork_bytes}
use Rattle.hfs_put_sources.specs.Items.{PlannedItem}
use Rattle.hfs_put_sources.specs.Trees.{Tree}
use Rattle.hfs_put_sources.specs.declared.fork_run.ForkRun.{ForkRun}
use Rattle.hfs_put.specs.Runs.{lie_in}

-- ---- what is in a run

-- the first so many of some bytes, with zeros after their end
abbrev pub filled : ℕ → List ℕ → List ℕ
filled len bytes = take len (bytes ++ replicate len 0)

-- there are no bytes where there is no item
abbrev pub bytes_of : Tree → Option PlannedItem → Fork → List ℕ
bytes_of host (Some item) fork = fork_bytes host item fork
bytes_of host None fork = []

-- the fork's bytes from the one that is at the run's beginning, with zeros after the fork's end
abbrev pub run_bytes : Tree → List PlannedItem → ForkRun → List ℕ
run_bytes host items run = filled run.len (drop run.offset (bytes_of host (slice_get items run.item) run.fork))

-- ---- the file

-- a file with these bytes in the place of its own from a byte on
abbrev pub laid_at : ℕ → List ℕ → List ℕ → List ℕ
laid_at place bytes file = take place file ++ (bytes ++ drop (place + length bytes) file)

-- a file with the bytes of forks in the place of its own in these runs, which count their places from its byte `start`
abbrev pub laid : ℕ → Tree → List PlannedItem → List ForkRun → List ℕ → List ℕ
laid start host items [] file = file
laid start host items (run ∷ runs) file = laid_at (start + run.place) (run_bytes host items run) (laid start host items runs file)

-- the image is one of these files, in which the runs lie, with the forks of one of these trees laid in it
pub record IsLaid (Files : List ℕ → Type 0) (Hosts : Tree → Type 0) (start : ℕ) (items : List PlannedItem) (runs : List ForkRun) (image : List ℕ) : Type 0 where
  pub file : List ℕ
  pub host : Tree
  pub of_files : Files file
  pub of_hosts : Hosts host
  pub inside : IsTrue (lie_in start runs file)
  pub is : image ≡ laid start host items runs file
