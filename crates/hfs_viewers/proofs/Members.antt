-- What a list holds.
use Rattle.std.proofs.Common.{◌≡◌, ℕ, zero, suc, List, ◌∷◌, refl, ap, arith}
use Rattle.std.specs.Prelude.{slice_get, ◌-◌}

-- what stands behind the first
pub passed_one : {A : Type 0} (x : A) (xs : List A) (n : ℕ) → (n ≡ 0 → ⊥) → slice_get (x ∷ xs) n ≡ slice_get xs (n - 1)
passed_one x xs zero some = absurd (some refl)
passed_one x xs (suc n) some = ap (slice_get xs) (let e : n ≡ suc n - 1 = omega arith in e)
