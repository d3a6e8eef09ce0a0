-- The names so far, and behind them those of what is left.
use Rattle.std.proofs.Common.{◌≡◌, ◌++◌, drop, map}
use Rattle.hfs_put_plan.specs.declared.entries.Entry.{Entry}
use Rattle.hfs_put_sources.specs.Trees.{Listed}
use Rattle.hfs_put_sources.proofs.order.named_entries.Given as goal

abbrev pub invariant-loop-entry : goal.invariant-loop-entry
invariant-loop-entry l =
    map (λ (entry : Entry). entry.name.now) l.named.items ++ map (λ (entry : Listed). entry.name) (drop l.entry-index l.entries)
    ≡ map (λ (entry : Listed). entry.name) l.entries
