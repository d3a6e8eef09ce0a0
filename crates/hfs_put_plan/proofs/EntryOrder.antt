-- The order of a folder's entries is a total one.
use Rattle.std.specs.Cmp.{IsTotalOrder, IsStrictWeakOrder, bool_cmp_total}
use Rattle.std.specs.Cmp.Lexicographic.{on_texts}
use Rattle.std.specs.Ordering.{is_lt}
use Rattle.std.proofs.lemmas.Cmp.{on_total, then_total}
use Rattle.std.proofs.lemmas.List.Sorted.{ranks_by}
use Rattle.hfs_put_plan.specs.declared.entries.Entry.{Entry}
use Rattle.hfs_put_plan.specs.Entries.{by_item, is_double, item_of}

by_item-total : IsTotalOrder by_item
by_item-total = then_total (on_texts (λ (e : Entry). item_of e.name.now)) (on_total (λ (e : Entry). is_double e.name.now) bool_cmp_total)

pub by_item-order : IsStrictWeakOrder (λ (x y : Entry). is_lt (by_item x y))
by_item-order = ranks_by {R = by_item} by_item-total (λ (e : Entry). e)
