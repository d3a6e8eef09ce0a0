-- The laws of the orders of keys.
use Rattle.std.proofs.Common.{◌≡◌, ℕ, ◌∙◌, ap, refl}
use Rattle.std.specs.declared.cmp.Ordering.{Ordering}
use Rattle.std.specs.declared.cmp.Ordering.TheVariants.{Less, Equal, Greater}
use Rattle.std.specs.Ordering.{nat_cmp, ordering_then}
use Rattle.std.specs.Cmp.{tied_itself, nat_cmp_total}
use Rattle.std.specs.FinMap.{nat_cmp-IsAntisymmetric}
use Rattle.hfs_fields.specs.Order.{folded, name_cmp}
use Rattle.hfs_fields.specs.Keys.{cat_cmp, cat_cmp_total, IsCatKeyOrder, ext_cmp, ext_cmp_total, IsExtKeyOrder}
use Rattle.hfs_fields.specs.declared.key.CatKey.{CatKey}
use Rattle.hfs_fields.specs.declared.key.ExtKey.{ExtKey}
use Rattle.hfs_fields.specs.Order.{name_order}

-- two steps of an order are equal where both are
pub both : (a b : Ordering) → ordering_then a b ≡ Equal → (a ≡ Equal) × (b ≡ Equal)
both Less b e = cc
both Equal b e = (refl, e)
both Greater b e = cc

joined : (a b : Ordering) → a ≡ Equal → b ≡ Equal → ordering_then a b ≡ Equal
joined a b e f = ap (λ (o : Ordering). ordering_then o b) e ∙ f

pub same : (x y : ℕ) → x ≡ y → nat_cmp x y ≡ Equal
same x y e = ap (λ (n : ℕ). nat_cmp n y) e ∙ tied_itself nat_cmp_total y

pub cat_key_order : IsCatKeyOrder cat_cmp
cat_key_order = record {
  total = cat_cmp_total;
  equal = λ x y. (there x y, back x y);
}
  where
    there : (x y : CatKey) → cat_cmp x y ≡ Equal → (x.parent ≡ y.parent) × (folded x.name ≡ folded y.name)
    there x y e =
        let two = both (nat_cmp x.parent y.parent) (name_cmp x.name y.name) e in
        (nat_cmp-IsAntisymmetric x.parent y.parent two.0, (name_order.equal_folded x.name y.name).0 two.1)

    back : (x y : CatKey) → (x.parent ≡ y.parent) × (folded x.name ≡ folded y.name) → cat_cmp x y ≡ Equal
    back x y e = joined (nat_cmp x.parent y.parent) (name_cmp x.name y.name) (same x.parent y.parent e.0) ((name_order.equal_folded x.name y.name).1 e.1)

pub ext_key_order : IsExtKeyOrder ext_cmp
ext_key_order = record {
  total = ext_cmp_total;
  equal = λ x y. (there x y, λ e. ap (λ (k : ExtKey). ext_cmp k y) e ∙ tied_itself ext_cmp_total y);
}
  where
    rebuilt : (x y : ExtKey) → x.file ≡ y.file → x.fork ≡ y.fork → x.block ≡ y.block → x ≡ y
    rebuilt x y e f g = λ i. record { fork = f i; file = e i; block = g i }

    there : (x y : ExtKey) → ext_cmp x y ≡ Equal → x ≡ y
    there x y e =
        let first = both (nat_cmp x.file y.file) (ordering_then (nat_cmp x.fork y.fork) (nat_cmp x.block y.block)) e in
        let rest = both (nat_cmp x.fork y.fork) (nat_cmp x.block y.block) first.1 in
        rebuilt x y (nat_cmp-IsAntisymmetric x.file y.file first.0) (nat_cmp-IsAntisymmetric x.fork y.fork rest.0) (nat_cmp-IsAntisymmetric x.block y.block rest.1)
