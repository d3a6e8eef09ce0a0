-- Tests of each number below a bound.
use Rattle.std.proofs.Common.{◌≡◌, ℕ, zero, suc, ◌<◌, Bool, true, false, refl, arith, inl, inr}
use Rattle.std.proofs.lemmas.Bool.{and_parts, and_left, and_right, and_from, cases_eq}
use Rattle.hfs_btree.specs.Node.{each_below}

pub each_below-at : (test : ℕ → Bool) (n k : ℕ) → each_below n test ≡ true → k < n → test k ≡ true
each_below-at test zero k h lt = absurd (omega arith)
each_below-at test (suc n) k h lt =
    let both = and_parts (each_below n test) (test n) h in
    elim (cases_eq k n) [ inl e ↦ rw e both.1 | inr d ↦ each_below-at test n k both.0 (omega arith) ]

pub each_below-fails : (test : ℕ → Bool) (n k : ℕ) → test k ≡ false → k < n → each_below n test ≡ false
each_below-fails test zero k h lt = absurd (omega arith)
each_below-fails test (suc n) k h lt =
    elim (cases_eq k n) [
      | inl e ↦ and_right _ _ (rw e at h)
      | inr d ↦ and_left _ _ (each_below-fails test n k h (omega arith))
    ]

pub each_below-from : (test : ℕ → Bool) (n : ℕ) → ((k : ℕ) → k < n → test k ≡ true) → each_below n test ≡ true
each_below-from test zero h = refl
each_below-from test (suc n) h = and_from _ _ (each_below-from test n (λ k lt. h k (omega arith))) (h n (omega arith))
