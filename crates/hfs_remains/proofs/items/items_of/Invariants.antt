-- The items so far, and those of the records that are left, are all.
use Rattle.std.proofs.Common.{◌≡◌, []}
use Rattle.hfs_remains.specs.Items.{items_behind, KnowItems}
use Rattle.hfs_remains.proofs.items.items_of.Given as goal

abbrev pub invariant-loop-found : goal.invariant-loop-found
invariant-loop-found l = record {
  makes : items_behind l.items.items l.found-iterator.rest.items ≡ items_behind [] l.fn.records.items;
  known : KnowItems l.rows l.ids l.items.items;
}
