-- The steps of the check of the order of records.
use Rattle.std.proofs.Common.{◌≡◌, ℕ, ◌+◌, ◌-◌, ◌<◌, ◌≤◌, Bool, true, false, ◌&&◌, [], ◌∷◌, ◌++◌, length, get_or, take, drop, refl, sym, ◌∙◌, ap, subst, arith}
use Rattle.std.specs.Ordering.{is_lt}
use Rattle.std.specs.List.{list_all}
use Rattle.std.proofs.lemmas.List.{take_more}
use Rattle.std.proofs.lemmas.List.Folds.{list_all-append}
use Rattle.hfs_fields.specs.Keys.{cat_cmp, cat_cmp_total}
use Rattle.hfs_fields.specs.Each.{Each}
use Rattle.hfs_btree.specs.Pairs.{Rises}
use Rattle.hfs_fields.proofs.ElementLemmas.{each-mono, each-right, each-append}
use Rattle.hfs_fields.specs.First.{first_failing}
use Rattle.hfs_catalog.specs.Records.{Record, Catalog}
use Rattle.hfs_catalog.specs.Faults.{is_above}
use Rattle.hfs_fields.proofs.OrderLemmas.{less-by as less_decides}
use Rattle.hfs_catalog.proofs.Places.{IsBefore, above_decides}

before_last : (xs : Catalog) (q : Record) → Rises cat_cmp (xs ++ q ∷ []) → Each (λ e. IsBefore e q) xs
before_last [] q h = tt
before_last (e ∷ es) q h = ((each-right (λ p. IsBefore e p) es (q ∷ []) h.0).0, before_last es q h.1)

rises_push : (xs : Catalog) (r : Record) → Rises cat_cmp xs → Each (λ e. IsBefore e r) xs → Rises cat_cmp (xs ++ r ∷ [])
rises_push [] r h before = (tt, tt)
rises_push (e ∷ es) r h before = (each-append (λ p. IsBefore e p) es (r ∷ []) h.0 (before.0, tt), rises_push es r h.1 before.1)

-- where those before are in order, what is above the last is above all
above_last : (xs : Catalog) (q r : Record) → Rises cat_cmp (xs ++ q ∷ []) → is_above (xs ++ q ∷ []) r ≡ is_lt (cat_cmp q.0 r.0)
unfolding is_above
above_last xs q r h = elim (is_lt (cat_cmp q.0 r.0)) as (λ (b : Bool). is_lt (cat_cmp q.0 r.0) ≡ b → is_above (xs ++ q ∷ []) r ≡ b) [
  | true ↦ λ e.
      let last : IsBefore q r = (less_decides (cat_cmp q.0 r.0)).0 e in
      (above_decides (xs ++ q ∷ []) r).1
      (each-append (λ p. IsBefore p r) xs (q ∷ []) (each-mono (λ p. IsBefore p q) (λ p. IsBefore p r) xs (λ p less. cat_cmp_total.trans p.0 q.0 r.0 less last) (before_last xs q h)) (last, tt))
  | false ↦ λ e. list_all-append (λ p. is_lt (cat_cmp p.0 r.0)) xs (q ∷ []) ∙ ap (λ (b : Bool). list_all (λ p. is_lt (cat_cmp p.0 r.0)) xs && (b && true)) e ∙ none (list_all (λ p. is_lt (cat_cmp p.0 r.0)) xs)
] refl
  where
    none : (b : Bool) → (b && false) ≡ false
    none true = refl
    none false = refl

module _ (xs : Catalog) (i : ℕ) (q r : Record) where
  last_taken : 1 ≤ i → i < length xs → q ≡ get_or xs (i - 1) q → take i xs ≡ take (i - 1) xs ++ q ∷ []
  last_taken least lt is =
      let more : i - 1 + 1 ≡ i = omega arith in
      ap (λ (n : ℕ). take n xs) (sym more) ∙ take_more xs (i - 1) q (omega arith) ∙ ap (λ (p : Record). take (i - 1) xs ++ p ∷ []) (sym is)

  pub above_is : 1 ≤ i → i < length xs → q ≡ get_or xs (i - 1) q → Rises cat_cmp (take i xs) → is_above (take i xs) r ≡ is_lt (cat_cmp q.0 r.0)
  above_is least lt is h =
      let taken = last_taken least lt is in
      ap (λ (before : Catalog). is_above before r) taken ∙ above_last (take (i - 1) xs) q r (subst (λ (before : Catalog). Rises cat_cmp before) taken h)

  pub rises_more : i < length xs → r ≡ get_or xs i r → Rises cat_cmp (take i xs) → is_above (take i xs) r ≡ true → Rises cat_cmp (take (i + 1) xs)
  rises_more lt is h above =
      subst (λ (before : Catalog). Rises cat_cmp before) (sym (take_more xs i r lt ∙ ap (λ (p : Record). take i xs ++ p ∷ []) (sym is)))
      (rises_push (take i xs) r h ((above_decides (take i xs) r).0 above))

-- the first record is above none
pub one_rises : (xs : Catalog) → (first_failing is_above [] xs ≡ first_failing is_above (take 1 xs) (drop 1 xs)) × Rises cat_cmp (take 1 xs)
unfolding is_above
one_rises [] = (refl, tt)
one_rises (x ∷ xs) = (refl, (tt, tt))
