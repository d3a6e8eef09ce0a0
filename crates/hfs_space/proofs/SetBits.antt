-- What setting a bit of bytes does.
use Rattle.std.proofs.Common.{◌≡◌, ◌≢◌, ℕ, ◌-◌, ◌*◌, ◌/◌, ◌%◌, ◌^◌, ◌<◌, ◌⊎◌, inl, inr, ⊎_elim, true, List, length, get_or, set, sym, ap, ◌∙◌, arith}
use Rattle.std.specs.Prelude.{◌==◌}
use Rattle.std.specs.Int.{bit_at, w8}
use Rattle.std.specs.Int.RustNames.{bit_or}
use Rattle.std.proofs.lemmas.Nat.Bits.{bit_at_set_same, bit_at_set_other}
use Rattle.std.proofs.lemmas.Bool.{cases_eq}
use Rattle.std.proofs.lemmas.List.{get_or-set_same, get_or-set_other}
use Rattle.hfs_space.specs.Bitmap.{is_marked}

-- the bytes with bit i set
abbrev pub with_set : List ℕ → ℕ → List ℕ
with_set bytes i = set bytes (i / 8) (bit_or (get_or bytes (i / 8) 0) (1 * 2 ^ (7 - i % 8) % 256))

pub is_marked-with_set_same : (bytes : List ℕ) (i : ℕ) → i < 8 * length bytes → is_marked (with_set bytes i) i ≡ true
is_marked-with_set_same bytes i within =
    let lt : i / 8 < length bytes = omega arith in
    ap (λ b. bit_at b (7 - i % 8) == 1) (get_or-set_same bytes (i / 8) _ 0 lt)
    ∙ ap (λ x. x == 1) (bit_at_set_same w8 (get_or bytes (i / 8) 0) (7 - i % 8) (omega arith))

pub is_marked-with_set_other : (bytes : List ℕ) (i k : ℕ) → i < 8 * length bytes → (k < i) ⊎ (i < k) → is_marked (with_set bytes i) k ≡ is_marked bytes k
is_marked-with_set_other bytes i k within apart = ⊎_elim
    (λ same.
    let lt : i / 8 < length bytes = omega arith in
    let ne : 7 - k % 8 ≢ 7 - i % 8 = λ e. elim apart [ inl h ↦ omega arith | inr h ↦ omega arith ] in
    ap (λ p. bit_at (get_or (with_set bytes i) p 0) (7 - k % 8) == 1) same
    ∙ ap (λ b. bit_at b (7 - k % 8) == 1) (get_or-set_same bytes (i / 8) _ 0 lt)
    ∙ ap (λ x. x == 1) (bit_at_set_other w8 (get_or bytes (i / 8) 0) (7 - i % 8) (omega arith) (7 - k % 8) ne)
    ∙ ap (λ p. bit_at (get_or bytes p 0) (7 - k % 8) == 1) (sym same))
    (λ other. ap (λ b. bit_at b (7 - k % 8) == 1) (get_or-set_other bytes (i / 8) (k / 8) _ 0 other))
    (cases_eq (k / 8) (i / 8))
