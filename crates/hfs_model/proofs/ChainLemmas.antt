-- Lemmas about the definitions of specs/Chains.antt.
use Rattle.std.proofs.Common.{◌≡◌, ℕ, zero, suc, ◌+◌, ◌<◌, ◌≤◌, Bool, true, false, cond, not, ◌&&◌, eqb, List, [], ◌∷◌, length, count_by, refl, sym, ap, subst, ◌∙◌, arith, Option, Some, None}
use Rattle.std.proofs.lemmas.Bool.{ne_eqb, eqb-true}
use Rattle.std.proofs.lemmas.List.Sums.{sum_by-cons, count_by-le-length}
use Rattle.hfs_model.specs.Chains.{Leads}

-- after n steps from x there is no further step
abbrev pub Ends : (ℕ → Option ℕ) → ℕ → ℕ → Type 0
Ends next zero x = next x ≡ None
Ends next (suc n) x = (z : ℕ) × (next x ≡ Some z) × Ends next n z

-- ---- lemmas

none_some : (o : Option ℕ) (x : ℕ) → o ≡ None → o ≡ Some x → ⊥
none_some o x e f = cc

same_some : (o : Option ℕ) (x y : ℕ) → o ≡ Some x → o ≡ Some y → x ≡ y
same_some o x y e f = cc

cons : (p : ℕ → Bool) (x : ℕ) (xs : List ℕ) → count_by p (x ∷ xs) ≡ cond (p x) 1 0 + count_by p xs
cons p x xs = sum_by-cons (λ (y : ℕ). cond (p y) 1 0) x xs

at_most : (a b : Bool) → cond (a && b) 1 0 ≤ cond a 1 0
at_most true true = omega arith
at_most true false = omega arith
at_most false b = omega arith

none_of_both : (a b : Bool) → b ≡ true → ◌≡◌ {A = ℕ} (cond (a && not b) 1 0) 0
none_of_both true b e = ap (λ (c : Bool). cond (not c) 1 0) e
none_of_both false b e = refl

no_more : (p q : ℕ → Bool) (xs : List ℕ) → count_by (λ y. p y && q y) xs ≤ count_by p xs
no_more p q [] = omega arith
no_more p q (x ∷ xs) = omega (arith, cons (λ y. p y && q y) x xs, cons p x xs, at_most (p x) (q x), no_more p q xs)

both : (a b : Bool) → a ≡ true → b ≡ false → (a && not b) ≡ true
both a b e f = λ i. e i && not (f i)

-- one that passes, taken away
fewer : (p : ℕ → Bool) (x : ℕ) (xs : List ℕ) → p x ≡ true → 0 < count_by (λ y. eqb y x) xs → count_by (λ y. p y && not (eqb y x)) xs + 1 ≤ count_by p xs
fewer p x [] passes some = absurd (omega arith)
fewer p x (y ∷ ys) passes some = elim (eqb y x) as (λ (b : Bool). eqb y x ≡ b → count_by (λ z. p z && not (eqb z x)) (y ∷ ys) + 1 ≤ count_by p (y ∷ ys)) [
  | true ↦ λ is.
      let one : ◌≡◌ {A = ℕ} (cond (p y) 1 0) 1 = ap (λ (b : Bool). cond b 1 0) (ap p (eqb-true y x is) ∙ passes) in
      omega (arith, cons (λ z. p z && not (eqb z x)) y ys, cons p y ys, none_of_both (p y) (eqb y x) is, one, no_more p (λ z. not (eqb z x)) ys)
  | false ↦ λ other.
      let none : ◌≡◌ {A = ℕ} (cond (eqb y x) 1 0) 0 = ap (λ (b : Bool). cond b 1 0) other in
      let later : 0 < count_by (λ z. eqb z x) ys = omega (arith, cons (λ z. eqb z x) y ys, none) in
      omega (arith, cons (λ z. p z && not (eqb z x)) y ys, cons p y ys, at_most (p y) (not (eqb y x)), fewer p x ys passes later)
] refl

module _ (next : ℕ → Option ℕ) where
  -- a chain ends at one place
  pub one_end : (m n x : ℕ) → Ends next m x → Ends next n x → m ≡ n
  one_end zero zero x a b = refl
  one_end zero (suc n) x a b = absurd (none_some (next x) b.0 a b.1)
  one_end (suc m) zero x a b = absurd (none_some (next x) a.0 b a.1)
  one_end (suc m) (suc n) x a b = ap suc (one_end m n b.0 (subst (λ (z : ℕ). Ends next m z) (same_some (next x) a.0 b.0 a.1 b.1) a.2) b.2)

  -- from further up it is longer
  pub from_above : (k n x y : ℕ) → Leads next k x y → Ends next n y → (m : ℕ) × (m ≡ k + n) × Ends next m x
  from_above zero n x y l e = (n, omega arith, subst (λ (z : ℕ). Ends next n z) (sym l) e)
  from_above (suc k) n x y l e = let rest = from_above k n l.0 y l.2 e in (suc rest.0, omega (arith, rest.1), (l.0, l.1, rest.2))

  -- what it leads to lies before its end
  pub before_end : (k n x y : ℕ) → Leads next k x y → Ends next n x → (m : ℕ) × (k + m ≡ n) × Ends next m y
  before_end zero n x y l e = (n, omega arith, subst (λ (z : ℕ). Ends next n z) l e)
  before_end (suc k) zero x y l e = absurd (none_some (next x) l.0 e l.1)
  before_end (suc k) (suc n) x y l e =
      let rest = before_end k n l.0 y l.2 (subst (λ (z : ℕ). Ends next n z) (same_some (next x) e.0 l.0 e.1 l.1) e.2) in
      (rest.0, omega (arith, rest.1), rest.2)

  -- a chain that ends never comes back to where it was
  pub never_back : (k n x : ℕ) → Ends next n x → Leads next (suc k) x x → ⊥
  never_back k n x e l =
      let longer = from_above (suc k) n x x l e in
      let same : longer.0 ≡ n = one_end longer.0 n x longer.2 e in
      omega (arith, longer.1, same)

  -- the last of its steps
  pub last_step : (n x y : ℕ) → Leads next (suc n) x y → (z : ℕ) × (next z ≡ Some y)
  last_step zero x y l = (x, l.1 ∙ ap Some l.2)
  last_step (suc n) x y l = last_step n l.0 y l.2

  -- where the steps begin at numbers of a list, a chain that ends has no more steps than the list has numbers
  module _ (numbers : List ℕ) (begins : (x y : ℕ) → next x ≡ Some y → 0 < count_by (λ z. eqb z x) numbers) where
    fits : (n x : ℕ) (p : ℕ → Bool) → Ends next n x → ((k y : ℕ) → k < n → Leads next k x y → p y ≡ true) → n ≤ count_by p numbers
    fits zero x p e on = omega arith
    fits (suc n) x p e on =
        let here : p x ≡ true = on 0 x (omega arith) refl in
        let rest : n ≤ count_by (λ y. p y && not (eqb y x)) numbers =
        fits n e.0 (λ y. p y && not (eqb y x)) e.2
        (λ k y lt l. both (p y) (eqb y x) (on (suc k) y (omega arith) (e.0, e.1, l)) (ne_eqb y x (λ (back : y ≡ x). never_back k (suc n) x e (e.0, e.1, subst (λ (z : ℕ). Leads next k e.0 z) back l)))) in
        omega (arith, rest, fewer p x numbers here (begins x e.0 e.1))

    pub no_longer : (n x : ℕ) → Ends next n x → n ≤ length numbers
    no_longer n x e = omega (arith, fits n x (λ _. true) e (λ k y lt l. refl), count_by-le-length (λ (_ : ℕ). true) numbers)

module _ (f g : ℕ → Option ℕ) where
  -- the same steps lead as far
  pub leads_still : ((x y : ℕ) → f x ≡ Some y → g x ≡ Some y) → (n x y : ℕ) → Leads f n x y → Leads g n x y
  leads_still same zero x y l = l
  leads_still same (suc n) x y l = (l.0, same x l.0 l.1, leads_still same n l.0 y l.2)

  -- the same steps but from k lead as far where the chain doesn't pass k
  pub leads_past : (k : ℕ) → ((x : ℕ) → (x ≡ k → ⊥) → g x ≡ f x) → (n x y : ℕ) → ((j : ℕ) → Leads f j x k → ⊥) → Leads f n x y → Leads g n x y
  leads_past k same zero x y apart l = l
  leads_past k same (suc n) x y apart l = (l.0, same x (λ (e : x ≡ k). apart 0 e) ∙ l.1, leads_past k same n l.0 y (λ j m. apart (suc j) (l.0, l.1, m)) l.2)
