-- The closure compares by the items' names.
use Rattle.std.proofs.Common.{◌≡◌, ap, rules}
use Rattle.std.specs.Ordering.{is_lt}
use Rattle.std.proofs.lemmas.List.Sorted.{answers_always}
use Rattle.hfs_put_sources.specs.Folders.{by_name}
use Rattle.hfs_put_sources.specs.Trees.{Listed}
use Rattle.hfs_put_sources.proofs.EntryOrder.{by_name-order}
use Rattle.hfs_put_sources.proofs.order.sort_entries.Goals as goal

pub returns : goal.returns
returns c = record {
  same = c.sort_unstable_by.ensures.permutation;
  order = c.sort_unstable_by.ensures.sorted (λ (x y : Listed). is_lt (by_name x y)) by_name-order
      (answers_always _ _ _ (λ f a r g h. ap is_lt (let e : r ≡ by_name a.0.now a.1.0.now = search rules in e)));
}
