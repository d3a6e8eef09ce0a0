-- Of more numbers than there are values, two have one value.
use Rattle.std.proofs.Common.{◌≡◌, ℕ, zero, suc, ◌-◌, ◌<◌, ◌⊎◌, Bool, true, false, refl, sym, ap, ◌∙◌, subst, arith, inl, inr, eqb, ltb, eqb-true}
use Rattle.std.specs.Prelude.{if◌then◌else◌}
use Rattle.std.proofs.lemmas.Bool.{cases_lt, eqb-false, ltb-true, ltb-false}

-- two numbers with one value
pub record Repeats (count : ℕ) (value : ℕ → ℕ) : Type 0 where
  pub first : ℕ
  pub again : ℕ
  pub later : first < again
  pub within : again < count
  pub same : value first ≡ value again

-- the numbers without one of them
abbrev pub without : ℕ → ℕ → ℕ
without gone x = if ltb gone x then x - 1 else x

above : (gone x : ℕ) → ltb gone x ≡ true → without gone x ≡ x - 1
above gone x e = ap (λ (b : Bool). if b then x - 1 else x) e

below : (gone x : ℕ) → ltb gone x ≡ false → without gone x ≡ x
below gone x e = ap (λ (b : Bool). if b then x - 1 else x) e

less : (gone x : ℕ) → (x ≡ gone → ⊥) → ltb gone x ≡ false → x < gone
less gone x other e =
    elim (cases_lt x gone) [
      | inl lt ↦ lt
      | inr ge ↦ absurd (other (omega (arith, ge, ltb-false gone x e)))
    ]

pub without-below : (gone x count : ℕ) → x < suc count → gone < suc count → (x ≡ gone → ⊥) → without gone x < count
without-below gone x count few also other = by (ltb gone x) refl
  where
    by : (b : Bool) → ltb gone x ≡ b → without gone x < count
    by true e = omega (arith, above gone x e, ltb-true gone x e, few)
    by false e = omega (arith, below gone x e, less gone x other e, also)

pub without-same : (gone x y : ℕ) → (x ≡ gone → ⊥) → (y ≡ gone → ⊥) → without gone x ≡ without gone y → x ≡ y
without-same gone x y not_one not_other same = by (ltb gone x) (ltb gone y) refl refl
  where
    by : (a b : Bool) → ltb gone x ≡ a → ltb gone y ≡ b → x ≡ y
    by true true e f = omega (arith, above gone x e, above gone y f, ltb-true gone x e, ltb-true gone y f, same)
    by true false e f = absurd (omega (arith, above gone x e, below gone y f, ltb-true gone x e, less gone y not_other f, same))
    by false true e f = absurd (omega (arith, below gone x e, above gone y f, less gone x not_one e, ltb-true gone y f, same))
    by false false e f = sym (below gone x e) ∙ same ∙ below gone y f

-- a number that has a value, or that there is none
seek : (count : ℕ) (value : ℕ → ℕ) (wanted : ℕ) → ((k : ℕ) × (k < count) × (value k ≡ wanted)) ⊎ ((k : ℕ) → k < count → value k ≡ wanted → ⊥)
seek zero value wanted = inr (λ k under. absurd (omega (arith, under)))
seek (suc count) value wanted = by (eqb (value count) wanted) refl (seek count value wanted)
  where
    rest : (eqb (value count) wanted ≡ false) → ((k : ℕ) × (k < count) × (value k ≡ wanted)) ⊎ ((k : ℕ) → k < count → value k ≡ wanted → ⊥)
        → ((k : ℕ) × (k < suc count) × (value k ≡ wanted)) ⊎ ((k : ℕ) → k < suc count → value k ≡ wanted → ⊥)
    rest other (inl found) = inl (found.0, omega (arith, found.1), found.2)
    rest other (inr none) = inr (λ k under same.
        elim (cases_lt k count) [
          | inl lt ↦ none k lt same
          | inr ge ↦
              let last : k ≡ count = omega (arith, under, ge) in
              eqb-false (value count) wanted other (ap value (sym last) ∙ same)
        ])

    by : (b : Bool) → eqb (value count) wanted ≡ b → ((k : ℕ) × (k < count) × (value k ≡ wanted)) ⊎ ((k : ℕ) → k < count → value k ≡ wanted → ⊥)
        → ((k : ℕ) × (k < suc count) × (value k ≡ wanted)) ⊎ ((k : ℕ) → k < suc count → value k ≡ wanted → ⊥)
    by true e before = inl (count, omega arith, eqb-true (value count) wanted e)
    by false e before = rest e before

-- one number more than values
pub repeats : (count : ℕ) (value : ℕ → ℕ) → ((k : ℕ) → k < suc count → value k < count) → Repeats (suc count) value
repeats zero value few = absurd (omega (arith, few 0 (omega arith)))
repeats (suc count) value few = by (λ g under. repeats count g under) (seek (suc count) value (value (suc count)))
  where
    last : ℕ
    last = value (suc count)

    squeezed : ((k : ℕ) → k < suc count → value k ≡ last → ⊥) → Repeats (suc count) (λ k. without last (value k)) → Repeats (suc (suc count)) value
    squeezed none r = record {
      first = r.first;
      again = r.again;
      later = r.later;
      within = omega (arith, r.within);
      same = without-same last (value r.first) (value r.again) (none r.first (omega (arith, r.later, r.within))) (none r.again r.within) r.same;
    }

    by : ((g : ℕ → ℕ) → ((k : ℕ) → k < suc count → g k < count) → Repeats (suc count) g)
        → ((k : ℕ) × (k < suc count) × (value k ≡ last)) ⊎ ((k : ℕ) → k < suc count → value k ≡ last → ⊥) → Repeats (suc (suc count)) value
    by fewer (inl found) = record { first = found.0; again = suc count; later = found.1; within = omega arith; same = found.2 }
    by fewer (inr none) =
        squeezed none (fewer (λ k. without last (value k)) (λ k under.
        without-below last (value k) count (few k (omega (arith, under))) (few (suc count) (omega arith)) (none k under)))
