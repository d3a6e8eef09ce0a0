-- The closure compares by the items' names.
use Rattle.std.proofs.Common.{◌≡◌, ap, rules}
use Rattle.std.specs.Ordering.{is_lt}
use Rattle.std.proofs.lemmas.List.Sorted.{answers_always}
use Rattle.hfs_put_plan.specs.declared.entries.Entry.{Entry}
use Rattle.hfs_put_plan.specs.Entries.{by_item}
use Rattle.hfs_put_plan.proofs.EntryOrder.{by_item-order}
use Rattle.hfs_put_plan.proofs.sorting.sort_entries.Goals as goal

pub returns : goal.returns
returns c = record {
  same = c.sort_unstable_by.ensures.permutation;
  order = c.sort_unstable_by.ensures.sorted (λ (x y : Entry). is_lt (by_item x y)) by_item-order
      (answers_always _ _ _ (λ f a r g h. ap is_lt (let e : r ≡ by_item a.0.now a.1.0.now = search rules in e)));
}
