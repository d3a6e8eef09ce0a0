-- Forks of items that are to be put, and their bytes in a tree.
use Rattle.std.specs.Prelude.{ℕ, if◌then◌else◌, List, [], take, drop, Option, Some, None}
use Rattle.hfs_model.specs.declared.call.Fork.{Fork}
use Rattle.hfs_model.specs.declared.call.Fork.TheVariants.{DataFork, ResFork}
use Rattle.hfs_put_sources.specs.declared.plan.ForkSpan.{ForkSpan}
use Rattle.hfs_put_sources.specs.declared.plan.ItemPlan.{ItemPlan}
use Rattle.hfs_put_sources.specs.Items.{PlannedItem}
use Rattle.hfs_put_sources.specs.Trees.{Tree}

-- the path of the file in which a fork lies, if there is one: a MacBinary file has both; else the resource fork is in what
-- belongs to the item by its name
abbrev pub fork_path : PlannedItem → Fork → Option (List ℕ)
fork_path item DataFork = Some item.path
fork_path item ResFork = if item.plan.is_macbinary then Some item.path else item.double

-- where it lies there
abbrev pub fork_span : ItemPlan → Fork → ForkSpan
fork_span plan DataFork = plan.data_fork
fork_span plan ResFork = plan.resource_fork

abbrev pub span_bytes : Tree → Option (List ℕ) → ForkSpan → List ℕ
span_bytes host (Some path) span = take span.len (drop span.start (host.bytes path))
span_bytes host None span = []

-- the bytes of a fork of an item, as a tree has them
abbrev pub fork_bytes : Tree → PlannedItem → Fork → List ℕ
fork_bytes host item fork = span_bytes host (fork_path item fork) (fork_span item.plan fork)
