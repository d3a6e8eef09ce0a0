-- How many children a folder has once an item is new.
use Rattle.std.proofs.Common.{◌≡◌, ℕ, ◌+◌, List, [], ◌∷◌, cond, refl, sym, ◌∙◌, ap, arith, Some, None}
use Rattle.std.specs.declared.cmp.Ordering.TheVariants.{Less, Equal, Greater}
use Rattle.std.specs.Ordering.{nat_cmp, is_eq}
use Rattle.std.specs.Cmp.{nat_cmp_total}
use Rattle.std.specs.FinMap as map
use Rattle.std.specs.FinMap.Entries.{by_order, put}
use Rattle.std.proofs.lemmas.List.Sums.{sum_by-cons}
use Rattle.hfs_model.specs.declared.item.Item.{Item}
use Rattle.hfs_model.specs.Volume.{Items, Entry}
use Rattle.hfs_model.specs.Children.{valence}
use Rattle.hfs_model.proofs.Facts.{none_is_some}
use Rattle.hfs_model.proofs.ChildCounts.{one_child}

cons : (dir : ℕ) (e : Entry) (es : List Entry) → valence (e ∷ es) dir ≡ one_child dir e + valence es dir
cons dir e es = sum_by-cons (one_child dir) e es

put_new : (es : List Entry) (k : ℕ) (x : Item) (dir : ℕ) → map.find nat_cmp k es ≡ None → valence (put nat_cmp k x es) dir ≡ one_child dir (k, x) + valence es dir
put_new [] k x dir none = cons dir (k, x) []
put_new (e ∷ es) k x dir none = elim (nat_cmp k e.0) as (λ r. cond (is_eq r) (Some e.1) (map.find nat_cmp k es) ≡ None → valence (by_order r ((k, x) ∷ e ∷ es) ((e.0, x) ∷ es) (e ∷ put nat_cmp k x es)) dir ≡ one_child dir (k, x) + valence (e ∷ es) dir) [
  | Less ↦ λ _. cons dir (k, x) (e ∷ es)
  | Equal ↦ λ here. absurd (none_is_some (Some e.1) e.1 here refl)
  | Greater ↦ λ later. omega (arith, cons dir e (put nat_cmp k x es), cons dir e es, put_new es k x dir later)
] none

-- with a new item
pub count_new : (m : Items) (k : ℕ) (x : Item) (dir : ℕ) → map.get m k ≡ None → valence (map.entries (map.insert m k x)) dir ≡ one_child dir (k, x) + valence (map.entries m) dir
count_new m k x dir none = ap (λ (l : List Entry). valence l dir) (map.entries-insert nat_cmp_total m k x) ∙ put_new (map.entries m) k x dir (sym (map.get-entries m k) ∙ none)
