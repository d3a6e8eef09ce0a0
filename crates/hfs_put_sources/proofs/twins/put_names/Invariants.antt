-- The names so far, and behind them those of the items that are left.
use Rattle.std.proofs.Common.{◌≡◌, ◌++◌, drop, map}
use Rattle.hfs_put_sources.specs.Walks.{put_name_of}
use Rattle.hfs_put_sources.proofs.twins.put_names.Given as goal

abbrev pub invariant-loop-item : goal.invariant-loop-item
invariant-loop-item l = l.names.items ++ map put_name_of (drop l.item-index l.items) ≡ map put_name_of l.items
