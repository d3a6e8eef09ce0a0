-- What a host's tree gives for a list. Each law is what a function of src/laws.rt ensures.
use Rattle.std.specs.Prelude.{◌≡◌, ℕ, List, length, map}
use Rattle.std.specs.List.{zip}
use Rattle.hfs_put.specs.Laid as forks
use Rattle.hfs_put.specs.Laid.{filled}
use Rattle.hfs_model.specs.declared.call.Fork.{Fork}
use Rattle.hfs_model.specs.declared.call.Fork.TheVariants.{DataFork, ResFork}
use Rattle.hfs_put_plan.specs.declared.items.PutItem.{PutItem}
use Rattle.hfs_put_plan.specs.Put.{Arrival}
use Rattle.hfs_put.specs.LaidRuns as image
use Rattle.hfs_put_sources.specs.Forks.{fork_bytes, fork_span}
use Rattle.hfs_put_sources.specs.Items.{PlannedItem}
use Rattle.hfs_put_sources.specs.Trees.{Tree}
use Rattle.hfs_put_sources.specs.declared.fork_run.ForkRun.{ForkRun}

-- ---- the bytes that are put

-- of a fork as many as were planned: those that the tree has, and zeros after them where these are fewer
abbrev pub coming_bytes : Tree → PlannedItem → Fork → List ℕ
coming_bytes host item fork = filled (fork_span item.plan fork).len (fork_bytes host item fork)

-- an item with its place on the disk, and the bytes of its forks
abbrev pub arrival_of : Tree → PlannedItem × PutItem → Arrival
arrival_of host pair =
    record { item = pair.1; data_fork = coming_bytes host pair.0 DataFork; resource_fork = coming_bytes host pair.0 ResFork }

-- all items of a list, each with its place on the disk
abbrev pub arrivals_of : Tree → List PlannedItem → List PutItem → List Arrival
arrivals_of host items places = map (arrival_of host) (zip items places)

-- ---- the laws

-- what the tree has whole is put as it is there
abbrev pub WholeForksCome : Type 0
WholeForksCome =
    (host : Tree) (item : PlannedItem) (fork : Fork) → length (fork_bytes host item fork) ≡ (fork_span item.plan fork).len
    → coming_bytes host item fork ≡ fork_bytes host item fork

-- the forks of the tree in the runs of an image are the bytes that are put in these runs
abbrev pub LaidForksAreArrivals : Type 0
LaidForksAreArrivals =
    (host : Tree) (items : List PlannedItem) (places : List PutItem) (runs : List ForkRun) (bytes : List ℕ) → length places ≡ length items
    → forks.laid 0 host items runs bytes ≡ image.laid (arrivals_of host items places) runs bytes
