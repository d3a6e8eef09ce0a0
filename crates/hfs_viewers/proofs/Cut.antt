-- What is read of a list that is cut.
use Rattle.std.proofs.Common.{◌≡◌, ℕ, ◌+◌, ◌-◌, List, [], take, drop, ⊎_elim, sym, ap, ◌∙◌, arith, length-take}
use Rattle.std.specs.Prelude.{min}
use Rattle.std.proofs.lemmas.List.{take_all, take-take, drop_all, drop-take}
use Rattle.std.proofs.lemmas.Bool.{cases_lt}

module _ {X : Type 0} where
  -- what is read of the first bytes alone
  pub read-take : (c o n : ℕ) (xs : List X) → take c (drop o (take n xs)) ≡ take (min c (n - o)) (drop o xs)
  read-take c o n xs = ⊎_elim
      (λ within.
      let split : o + (n - o) ≡ n = omega arith in
      ap (λ k. take c (drop o (take k xs))) (sym split) ∙ ap (take c) (drop-take o (n - o) xs) ∙ cut (drop o xs) (n - o))
      (λ past.
      let none : 0 ≡ min c (n - o) = omega arith in
      ap (take c) (drop_all o (take n xs) (omega (arith, length-take n xs))) ∙ take_all c [] (omega arith) ∙ ap (λ k. take k (drop o xs)) none)
      (cases_lt o n)
    where
      cut : (ys : List X) (k : ℕ) → take c (take k ys) ≡ take (min c k) ys
      cut ys k = ⊎_elim
          (λ below. let e : c ≡ min c k = omega arith in take-take c k ys (omega arith) ∙ ap (λ m. take m ys) e)
          (λ above. let e : k ≡ min c k = omega arith in take_all c (take k ys) (omega (arith, length-take k ys)) ∙ ap (λ m. take m ys) e)
          (cases_lt c k)
