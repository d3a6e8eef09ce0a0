-- Bytes all of whose bits are set.
use Rattle.std.proofs.Common.{◌≡◌, ℕ, zero, suc, ◌+◌, ◌-◌, ◌*◌, ◌/◌, ◌%◌, ◌^◌, ◌<◌, inl, inr, true, List, get_or, refl, ap, ◌∙◌, arith}
use Rattle.std.specs.Prelude.{◌==◌}
use Rattle.std.proofs.lemmas.Bool.{cases_lt}
use Rattle.hfs_btree_edits.specs.MapPlaces.{AreAllSet}

-- each bit of 255 is set
bit_full : (r : ℕ) → r < 8 → ((255 / 2 ^ r) % 2 == 1) ≡ true
bit_full zero lt = refl
bit_full (suc zero) lt = refl
bit_full (suc (suc zero)) lt = refl
bit_full (suc (suc (suc zero))) lt = refl
bit_full (suc (suc (suc (suc zero)))) lt = refl
bit_full (suc (suc (suc (suc (suc zero))))) lt = refl
bit_full (suc (suc (suc (suc (suc (suc zero)))))) lt = refl
bit_full (suc (suc (suc (suc (suc (suc (suc zero))))))) lt = refl
bit_full (suc (suc (suc (suc (suc (suc (suc (suc r)))))))) lt = absurd (omega (arith, lt))

-- one more byte with all bits set
pub full_more : (bytes : List ℕ) (i : ℕ) → AreAllSet (8 * i) bytes → get_or bytes i 0 ≡ 255 → AreAllSet (8 * (i + 1)) bytes
full_more bytes i before full k lt within =
    elim (cases_lt k (8 * i)) [
      | inl less ↦ before k less within
      | inr more ↦ (
          let same : k / 8 ≡ i = omega (arith, lt, more) in
          ap (λ (p : ℕ). (get_or bytes p 0 / 2 ^ (7 - k % 8)) % 2 == 1) same
          ∙ ap (λ (b : ℕ). (b / 2 ^ (7 - k % 8)) % 2 == 1) full
          ∙ bit_full (7 - k % 8) (omega arith))
    ]
