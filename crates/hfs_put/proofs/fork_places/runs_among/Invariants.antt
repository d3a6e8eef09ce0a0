-- The runs of the records so far.
use Rattle.std.proofs.Common.{◌≡◌, take}
use Rattle.std.specs.BTreeMap as tree
use Rattle.std.specs.List.{flat_map}
use Rattle.std.specs.Ordering.{nat_cmp}
use Rattle.hfs_blocks.specs.Blocks.{block_at}
use Rattle.hfs_put.specs.ForkRuns.{record_runs}
use Rattle.hfs_put.proofs.fork_places.runs_among.Given as goal

abbrev pub invariant-loop-entry : goal.invariant-loop-entry
invariant-loop-entry l = l.runs.items ≡ flat_map (record_runs (block_at l.volume.current) (tree.get nat_cmp l.places)) (take l.entry-index l.records)
