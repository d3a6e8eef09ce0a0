-- Facts that several crates cite.
use Rattle.std.proofs.Common.{ℕ, Bool, zero, true, suc, ◌&&◌, ◌≡◌, ◌<◌, arith, inl, inr, ap, ◌∙◌, Option, None, refl, Some}
use Rattle.std.proofs.lemmas.Bool.{and_parts, cases_lt}
use Rattle.std.specs.Prelude.{◌⊎◌}
use Rattle.std.specs.Option.{is_none}

unfoldable pub each_below : ℕ → (ℕ → Bool) → Bool
each_below zero test = true
each_below (suc n) test = each_below n test && test n

pub last-or-below : (k n : ℕ) → k < suc n → (k < n) ⊎ (k ≡ n)
last-or-below k n h = elim (cases_lt k n) [ inl below ↦ inl below | inr above ↦ inr (omega arith) ]

pub at-each : (n : ℕ) (test : ℕ → Bool) → each_below n test ≡ true → (k : ℕ) → k < n → test k ≡ true
unfolding each_below
at-each zero test e k lt = absurd (omega arith)
at-each (suc n) test e k lt =
    let two = and_parts (each_below n test) (test n) e in
    elim (last-or-below k n lt) [ inl below ↦ at-each n test two.0 k below | inr same ↦ ap test same ∙ two.1 ]

pub none-true : {A : Type 0} (o : Option A) → is_none o ≡ true → o ≡ None
none-true None h = refl
none-true (Some x) h = cc
