use Rattle.std.proofs.Common.{ℕ, ◌≡◌, Some}
use Rattle.std.proofs.lemmas.List.Elements.{All-weaker}
use Rattle.std.specs.Ordering.{nat_cmp}
use Rattle.std.specs.declared.ops.Bound.TheVariants.{Included, Unbounded}
use Rattle.std.specs.BTreeMap as tree
use Rattle.std.specs.BTreeMap.Range.{IsEntryInRange}
use Rattle.hfs_viewers.specs.declared.row.Row.{Row}
use Rattle.hfs_viewers.proofs.table.Table.rows_from.Goals as goal

pub returns : goal.returns
returns c =
    All-weaker (IsEntryInRange nat_cmp (Included c.args.id) Unbounded c.args.self.now.by_id) (λ (e : ℕ × Row). tree.get nat_cmp c.args.self.now.by_id e.0 ≡ Some e.1)
    (λ e is. is.1) c.range.result (c.range.ensures.in_range tt).0
