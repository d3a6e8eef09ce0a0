-- Setting the bits of one more block of the bitmap.
use Rattle.std.proofs.Common.{◌≡◌, ◌≢◌, ℕ, ◌+◌, ◌-◌, ◌*◌, ◌/◌, ◌%◌, ◌<◌, ◌≤◌, ◌⊎◌, inl, inr, ⊎_elim, true, List, cond, sym, ap, ◌∙◌, arith, refl}
use Rattle.std.specs.Prelude.{min, max}
use Rattle.std.proofs.lemmas.Bool.{cases_eq, eq-eqb, ne_eqb}
use Rattle.hfs_blocks.proofs.LayerLemmas.{with_block}
use Rattle.hfs_space.specs.Bitmap.{is_marked, is_used}

-- the bits from first up to end are set below the bits of block i of the bitmap, and everything else is as it was
pub record IsClaiming (old new : ℕ → List ℕ) (start first end i : ℕ) : Type 0 where
  pub set : (n : ℕ) → first ≤ n → n < end → n < 4096 * i → is_used new start n ≡ true
  pub bits : (n : ℕ) → (n < first) ⊎ (end ≤ n) → is_used new start n ≡ is_used old start n
  pub blocks : (k : ℕ) → (k < start + first / 4096) ⊎ (start + i ≤ k) → new k ≡ old k

pub same-block : (blocks : ℕ → List ℕ) (n : ℕ) (b : List ℕ) → with_block blocks n b n ≡ b
same-block blocks n b = ap (λ t. cond t b (blocks n)) (eq-eqb n n refl)

pub other-block : (blocks : ℕ → List ℕ) (n k : ℕ) (b : List ℕ) → n ≢ k → with_block blocks n b k ≡ blocks k
other-block blocks n k b ne = ap (λ t. cond t b (blocks k)) (ne_eqb n k ne)

module _ (old new next : ℕ → List ℕ) (start first end i from to : ℕ) (bytes : List ℕ) (is_next : next ≡ with_block new (start + i) bytes)
    (is_from : from ≡ max first (i * 4096) - i * 4096) (is_to : to ≡ min end ((i + 1) * 4096) - i * 4096)
    (sets : (k : ℕ) → from ≤ k → k < to → is_marked bytes k ≡ true)
    (others : (k : ℕ) → (k < from) ⊎ (to ≤ k) → is_marked bytes k ≡ is_marked (new (start + i)) k)
    (reached : first / 4096 ≤ i) (claiming : IsClaiming old new start first end i) where
  here : (n : ℕ) → n / 4096 ≡ i → is_used next start n ≡ is_marked bytes (n % 4096)
  here n e = ap (λ b. is_marked b (n % 4096)) ((λ t. is_next t (start + e t)) ∙ same-block new (start + i) bytes)

  there : (n : ℕ) → (n / 4096 ≡ i → ⊥) → is_used next start n ≡ is_used new start n
  there n ne = ap (λ b. is_marked b (n % 4096)) ((λ t. is_next t (start + n / 4096)) ∙ other-block new (start + i) (start + n / 4096) bytes (λ e. ne (omega arith)))

  pub claiming-more : IsClaiming old next start first end (i + 1)
  claiming-more = record {
    set = λ n low high below. ⊎_elim
        (λ e. here n e ∙ sets (n % 4096) (omega arith) (omega arith))
        (λ ne. there n ne ∙ claiming.set n low high (omega arith))
        (cases_eq (n / 4096) i);
    bits = λ n apart. ⊎_elim
        (λ e. here n e ∙ others (n % 4096) (elim apart [ inl h ↦ inl (omega arith) | inr h ↦ inr (omega arith) ])
        ∙ ap (λ j. is_marked (new (start + j)) (n % 4096)) (sym e) ∙ claiming.bits n apart)
        (λ ne. there n ne ∙ claiming.bits n apart)
        (cases_eq (n / 4096) i);
    blocks = λ k apart. (λ t. is_next t k) ∙ other-block new (start + i) k bytes (λ e. elim apart [ inl h ↦ omega arith | inr h ↦ omega arith ])
        ∙ claiming.blocks k (elim apart [ inl h ↦ inl h | inr h ↦ inr (omega arith) ]);
  }
