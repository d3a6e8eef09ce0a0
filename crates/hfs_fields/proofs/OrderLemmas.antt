-- Orders of numbers and of keys.
use Rattle.std.specs.declared.cmp.Ordering.{Ordering}
use Rattle.std.specs.Bool.{Decides}
use Rattle.std.specs.Ordering.{is_lt, ordering_reverse, is_eq, nat_cmp}
use Rattle.std.proofs.Common.{◌≡◌, refl, true, true≢false, sym, ℕ, nat_eq, ◌<◌}
use Rattle.std.specs.declared.cmp.Ordering.TheVariants.{Less, Equal, Greater}
use Rattle.std.specs.Prelude.{◌≡◌, true, refl}
use Rattle.std.specs.BTreeMap.{is_at}
use Rattle.std.specs.Cmp.{unsigned_tied, nat_cmp_is}

pub less-by : (o : Ordering) → Decides (is_lt o) (o ≡ Less)
less-by Less = (λ _. refl, λ _. refl)
less-by Equal = (λ (h : is_lt Equal ≡ true). cc, λ (h : Equal ≡ Less). cc)
less-by Greater = (λ (h : is_lt Greater ≡ true). cc, λ (h : Greater ≡ Less). cc)

pub equal-own : (o : Ordering) → o ≡ ordering_reverse o → o ≡ Equal
equal-own Less e = cc
equal-own Equal e = refl
equal-own Greater e = cc

pub eq_is : (o : Ordering) → is_eq o ≡ true → o ≡ Equal
eq_is Less e = absurd (true≢false (sym e))
eq_is Equal e = refl
eq_is Greater e = absurd (true≢false (sym e))

pub same_number : (id : ℕ) → is_at (nat_cmp id) ≡ nat_eq id
same_number id = λ i k. unsigned_tied id k i

pub less : (x y : ℕ) → x < y → nat_cmp x y ≡ Less
less x y h = sym (nat_cmp_is x y Less h)

pub more : (x y : ℕ) → y < x → nat_cmp x y ≡ Greater
more x y h = sym (nat_cmp_is x y Greater h)
