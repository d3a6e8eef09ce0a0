-- The order of what lies in a folder is a total one.
use Rattle.std.specs.Cmp.{IsTotalOrder, IsStrictWeakOrder, bool_cmp_total}
use Rattle.std.specs.Cmp.Lexicographic.{on_texts}
use Rattle.std.specs.Ordering.{is_lt}
use Rattle.std.proofs.lemmas.Cmp.{on_total, then_total}
use Rattle.std.proofs.lemmas.List.Sorted.{ranks_by}
use Rattle.hfs_put_plan.specs.Entries.{is_double, item_of}
use Rattle.hfs_put_sources.specs.Folders.{by_name}
use Rattle.hfs_put_sources.specs.Trees.{Listed}

by_name-total : IsTotalOrder by_name
by_name-total = then_total (on_texts (λ (e : Listed). item_of e.name)) (on_total (λ (e : Listed). is_double e.name) bool_cmp_total)

pub by_name-order : IsStrictWeakOrder (λ (x y : Listed). is_lt (by_name x y))
by_name-order = ranks_by {R = by_name} by_name-total (λ (e : Listed). e)
