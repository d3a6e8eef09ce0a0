-- The entries with another ID: what is left where an item goes.
use Rattle.std.proofs.Common.{◌≡◌, ℕ, Bool, true, false, cond, not, List, refl, sym, ◌∙◌, ap, None}
use Rattle.std.specs.Prelude.{T}
use Rattle.std.specs.Ordering.{nat_cmp, eq_by_cmp, is_eq}
use Rattle.std.specs.Cmp.{nat_cmp_total, alike_right, eq_by_cmp_equiv}
use Rattle.std.specs.FinMap as map
use Rattle.std.specs.FinMap.Entries.{where_key, is_sorted, is_sorted-where_key, find-where_key}
use Rattle.hfs_model.specs.Volume.{Entry}

-- the entries with another ID
abbrev pub others : ℕ → List Entry → List Entry
others k es = where_key nat_cmp (λ y. not (eq_by_cmp nat_cmp k y)) es

-- ---- lemmas

turned : {A : Type 0} (b : Bool) (x y : A) → cond (not b) x y ≡ cond b y x
turned true x y = refl
turned false x y = refl

pub remove_is : (es : List Entry) (k : ℕ) → T (is_sorted nat_cmp es) → map.remove (map.from_sorted {R = nat_cmp} es) k ≡ map.from_sorted (others k es)
remove_is es k h = map.same_map nat_cmp_total map.nat_cmp-IsAntisymmetric _ _ (λ q.
    map.get-remove nat_cmp_total _ k q
    ∙ ap (cond (eq_by_cmp nat_cmp q k) None) (map.get-from_sorted nat_cmp es q h)
    ∙ sym (map.get-from_sorted nat_cmp (others k es) q (is_sorted-where_key nat_cmp (λ y. not (eq_by_cmp nat_cmp k y)) es h)
    ∙ find-where_key nat_cmp (λ y. not (eq_by_cmp nat_cmp k y)) q (λ x t. ap (λ r. not (is_eq r)) (sym (alike_right nat_cmp_total q x k t))) es
    ∙ turned (eq_by_cmp nat_cmp k q) _ _ ∙ ap (λ b. cond b None (map.find nat_cmp q es)) ((eq_by_cmp_equiv nat_cmp_total).symm k q)))
