-- The order of the places of items.
use Rattle.std.specs.Prelude.{ℕ, List}
use Rattle.std.specs.declared.cmp.Ordering.{Ordering}
use Rattle.std.specs.Ordering.{nat_cmp, ordering_then}
use Rattle.std.specs.Cmp.{IsTotalOrder, then_total, on_total, nat_cmp_total}
use Rattle.std.specs.Cmp.Lexicographic.{nat_list_cmp_total}
use Rattle.hfs_fields.specs.Order.{folded, name_cmp}
use Rattle.hfs_viewers.specs.declared.place.Place.{Place}

-- by the parent's ID, then by name
abbrev pub place_cmp : Place → Place → Ordering
place_cmp x y = ordering_then (nat_cmp x.parent y.parent) (name_cmp x.name y.name)

pub place_cmp_total : IsTotalOrder place_cmp
place_cmp_total = then_total (on_total (λ k. k.parent) nat_cmp_total) (on_total (λ k. folded k.name) nat_list_cmp_total)

abbrev pub place : ℕ → List ℕ → Place
place parent name = record { parent = parent; name = name }
