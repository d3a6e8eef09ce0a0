-- What one more block that was read makes of those that were read before.
use Rattle.std.proofs.Common.{◌≡◌, ℕ, zero, suc, ◌+◌, ◌-◌, ◌<◌, ◌≤◌, List, [], ◌∷◌, length, Option, IsSome, get_or, refl, sym, ap, ◌∙◌, subst, arith, ⊎_elim}
use Rattle.std.proofs.lemmas.Bool.{cases_eq, cases_lt}
use Rattle.std.specs.List.{flat_map, range_with_len}
use Rattle.hfs_fields.specs.Each.{Each}
use Rattle.hfs_fields.proofs.ElementLemmas.{each-append}
use Rattle.hfs_blocks.specs.declared.run.Run.{Run}
use Rattle.hfs_blocks.specs.Blocks.{run_of}
use Rattle.hfs_blocks.specs.Layers.{Numbered, changes}
use Rattle.hfs_source.specs.Sparse.{HasEach, HasGrown, StaysOf}
use Rattle.hfs_source.proofs.SparseLemmas.{has-grown, each-grown, stays-on}

-- ---- blocks in a row

pub each-range : (P : ℕ → Type 0) (a n : ℕ) → ((k : ℕ) → k < n → P (a + k)) → Each P (range_with_len a n)
each-range P a zero f = tt
each-range P a (suc n) f = (
  subst P (let e : a + 0 ≡ a = omega arith in e) (f 0 (omega arith)),
  each-range P (a + 1) n (λ k lt. subst P (let e : a + suc k ≡ a + 1 + k = omega arith in e) (f (suc k) (omega arith))),
)

pub each-runs : (P : ℕ → Type 0) (runs : List Run) (none : Run) → ((i : ℕ) → i < length runs → Each P (run_of (get_or runs i none))) → Each P (flat_map run_of runs)
each-runs P [] none f = tt
each-runs P (run ∷ runs) none f =
    each-append P (run_of run) (flat_map run_of runs) (f 0 (omega arith)) (each-runs P runs none (λ i lt. f (suc i) (omega arith)))

-- ---- one more

any-default : (runs : List Run) (i : ℕ) (a b : Run) → i < length runs → get_or runs i a ≡ get_or runs i b
any-default [] i a b lt = absurd (omega (arith, lt))
any-default (run ∷ runs) zero a b lt = refl
any-default (run ∷ runs) (suc i) a b lt = any-default runs i a b (omega (arith, lt))

module _ (old new : Numbered) (grown : HasGrown old new) where
  below : (i j : ℕ) → i < j + 1 → (i ≡ j → ⊥) → i < j
  below i j lt other = omega (arith, lt, other)

  -- of a range of blocks
  pub one-more : (first i : ℕ) → IsSome (changes new (first + i)) → ((k : ℕ) → k < i → IsSome (changes old (first + k)))
      → (k : ℕ) → k < i + 1 → IsSome (changes new (first + k))
  one-more first i here before k lt = ⊎_elim
      (λ (same : k ≡ i). subst (λ n. IsSome (changes new (first + n))) (sym same) here)
      (λ (other : k ≡ i → ⊥). has-grown old new grown (first + k) (before k (below k i lt other)))
      (cases_eq k i)

  -- of a row of runs
  pub one-run-more : (runs : List Run) (i : ℕ) (first : Run) → i < length runs → HasEach new (run_of (get_or runs i first))
      → ((k : ℕ) (none : Run) → k < i → HasEach old (run_of (get_or runs k none))) → (k : ℕ) (none : Run) → k < i + 1 → HasEach new (run_of (get_or runs k none))
  one-run-more runs i first within here before k none lt = ⊎_elim
      (λ (same : k ≡ i). subst (λ r. HasEach new (run_of r)) (any-default runs i first none within ∙ ap (λ n. get_or runs n none) (sym same)) here)
      (λ (other : k ≡ i → ⊥). each-grown old new grown (run_of (get_or runs k none)) (before k none (below k i lt other)))
      (cases_eq k i)

-- what is known of the image stays known
pub stays-later : (known later : Option (List ℕ)) (old middle new : Numbered) → later ≡ known → StaysOf known old middle → StaysOf later middle new → StaysOf known old new
stays-later known later old middle new e p q = stays-on known old middle new p (subst (λ o. StaysOf o middle new) e q)

-- ---- some more of a range

pub range-at : (P : ℕ → Type 0) (a n : ℕ) → Each P (range_with_len a n) → (k : ℕ) → k < n → P (a + k)
range-at P a zero each k lt = absurd (omega (arith, lt))
range-at P a (suc n) each zero lt = subst P (let e : a ≡ a + 0 = omega arith in e) each.0
range-at P a (suc n) each (suc k) lt =
    subst P (let e : a + 1 + k ≡ a + suc k = omega arith in e) (range-at P (a + 1) n each.1 k (omega (arith, lt)))

pub some-more : (old new : Numbered) → HasGrown old new → (first done step : ℕ) → ((k : ℕ) → k < done → IsSome (changes old (first + k)))
    → HasEach new (range_with_len (first + done) step) → (k : ℕ) → k < done + step → IsSome (changes new (first + k))
some-more old new grown first done step before here k lt = ⊎_elim
    (λ (low : k < done). has-grown old new grown (first + k) (before k low))
    (λ (high : done ≤ k).
    let place : first + done + (k - done) ≡ first + k = omega (arith, high) in
    subst (λ n. IsSome (changes new n)) place
    (range-at (λ n. IsSome (changes new n)) (first + done) step here (k - done) (omega (arith, high, lt))))
    (cases_lt k done)
