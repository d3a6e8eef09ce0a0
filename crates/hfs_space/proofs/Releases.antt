-- Clearing the bits of one more block of the bitmap.
use Rattle.std.proofs.Common.{◌≡◌, ℕ, ◌+◌, ◌-◌, ◌*◌, ◌/◌, ◌%◌, ◌<◌, ◌≤◌, ◌⊎◌, inl, inr, ⊎_elim, false, List, sym, ap, ◌∙◌, arith}
use Rattle.std.specs.Prelude.{min, max}
use Rattle.std.proofs.lemmas.Bool.{cases_eq}
use Rattle.hfs_blocks.proofs.LayerLemmas.{with_block}
use Rattle.hfs_space.specs.Bitmap.{is_marked, is_used}
use Rattle.hfs_space.proofs.Claims.{same-block, other-block}

-- the bits from first up to end are clear below the bits of block i of the bitmap, and everything else is as it was
pub record IsReleasing (old new : ℕ → List ℕ) (start first end i : ℕ) : Type 0 where
  pub clear : (n : ℕ) → first ≤ n → n < end → n < 4096 * i → is_used new start n ≡ false
  pub bits : (n : ℕ) → (n < first) ⊎ (end ≤ n) → is_used new start n ≡ is_used old start n
  pub blocks : (k : ℕ) → (k < start + first / 4096) ⊎ (start + i ≤ k) → new k ≡ old k

module _ (old new next : ℕ → List ℕ) (start first end i from to : ℕ) (bytes : List ℕ) (is_next : next ≡ with_block new (start + i) bytes)
    (is_from : from ≡ max first (i * 4096) - i * 4096) (is_to : to ≡ min end ((i + 1) * 4096) - i * 4096)
    (clear : (k : ℕ) → from ≤ k → k < to → is_marked bytes k ≡ false)
    (others : (k : ℕ) → (k < from) ⊎ (to ≤ k) → is_marked bytes k ≡ is_marked (new (start + i)) k)
    (reached : first / 4096 ≤ i) (releasing : IsReleasing old new start first end i) where
  here : (n : ℕ) → n / 4096 ≡ i → is_used next start n ≡ is_marked bytes (n % 4096)
  here n e = ap (λ b. is_marked b (n % 4096)) ((λ t. is_next t (start + e t)) ∙ same-block new (start + i) bytes)

  there : (n : ℕ) → (n / 4096 ≡ i → ⊥) → is_used next start n ≡ is_used new start n
  there n ne = ap (λ b. is_marked b (n % 4096)) ((λ t. is_next t (start + n / 4096)) ∙ other-block new (start + i) (start + n / 4096) bytes (λ e. ne (omega arith)))

  pub releasing-more : IsReleasing old next start first end (i + 1)
  releasing-more = record {
    clear = λ n low high below. ⊎_elim
        (λ e. here n e ∙ clear (n % 4096) (omega arith) (omega arith))
        (λ ne. there n ne ∙ releasing.clear n low high (omega arith))
        (cases_eq (n / 4096) i);
    bits = λ n apart. ⊎_elim
        (λ e. here n e ∙ others (n % 4096) (elim apart [ inl h ↦ inl (omega arith) | inr h ↦ inr (omega arith) ])
        ∙ ap (λ j. is_marked (new (start + j)) (n % 4096)) (sym e) ∙ releasing.bits n apart)
        (λ ne. there n ne ∙ releasing.bits n apart)
        (cases_eq (n / 4096) i);
    blocks = λ k apart. (λ t. is_next t k) ∙ other-block new (start + i) k bytes (λ e. elim apart [ inl h ↦ omega arith | inr h ↦ omega arith ])
        ∙ releasing.blocks k (elim apart [ inl h ↦ inl h | inr h ↦ inr (omega arith) ]);
  }
