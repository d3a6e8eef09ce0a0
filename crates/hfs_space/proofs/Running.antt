-- Walking over blocks, from the first on, and noting the runs of free ones.
use Rattle.std.proofs.Common.{◌≡◌, ℕ, zero, suc, ◌+◌, ◌-◌, ◌<◌, ◌≤◌, Bool, true, false, cond, eqb, List, [], ◌∷◌, ◌++◌, refl, sym, ap, ◌∙◌, subst, arith, append_assoc, inl, inr}
use Rattle.std.specs.Prelude.{not, filter}
use Rattle.std.specs.List.{All, range_with_len}
use Rattle.std.proofs.lemmas.Bool.{eqb-true, eqb-false, cases_lt}
use Rattle.std.proofs.lemmas.List.{append-nil}
use Rattle.std.proofs.lemmas.List.Elements.{All-nil, All-push, All-append, All-weaker, filter-append}
use Rattle.std.proofs.lemmas.List.Concat.{flat_map-append}
use Rattle.hfs_fields.specs.declared.extent.Extent.{Extent}
use Rattle.hfs_space.specs.Extents.{extent_blocks}
use Rattle.hfs_space.specs.FreeRuns.{free_blocks, IsWhole, AreFreeRuns, IsRunning, run_before, is_taken}
use Rattle.hfs_space.proofs.Counted.{taken-nothing}
use Rattle.hfs_space.proofs.CountingLemmas.{range-more}

range-more-at : (a n m : ℕ) → m ≡ n + 1 → range_with_len a m ≡ range_with_len a n ++ (a + n) ∷ []
range-more-at a n m e = ap (range_with_len a) (let s : m ≡ suc n = omega (arith, e) in s) ∙ range-more a n

one-free : (used : ℕ → Bool) (i : ℕ) → used i ≡ false → filter (λ b. not (used b)) (i ∷ []) ≡ i ∷ []
one-free used i free = ap (λ t. cond (not t) (i ∷ []) []) free

one-used : (used : ℕ → Bool) (i : ℕ) → used i ≡ true → filter (λ b. not (used b)) (i ∷ []) ≡ []
one-used used i is = ap (λ t. cond (not t) (i ∷ []) []) is

free_blocks-next : (used : ℕ → Bool) (i : ℕ) → free_blocks used (i + 1) ≡ free_blocks used i ++ filter (λ b. not (used b)) (i ∷ [])
free_blocks-next used i =
    ap (filter (λ b. not (used b))) (range-more-at 0 i (i + 1) refl ∙ ap (λ k. range_with_len 0 i ++ k ∷ []) (let e : 0 + i ≡ i = omega arith in e))
    ∙ filter-append (λ b. not (used b)) (range_with_len 0 i) (i ∷ [])

pub free_blocks-free : (used : ℕ → Bool) (i : ℕ) → used i ≡ false → free_blocks used (i + 1) ≡ free_blocks used i ++ i ∷ []
free_blocks-free used i free = free_blocks-next used i ∙ ap (λ l. free_blocks used i ++ l) (one-free used i free)

pub free_blocks-used : (used : ℕ → Bool) (i : ℕ) → used i ≡ true → free_blocks used (i + 1) ≡ free_blocks used i
free_blocks-used used i is = free_blocks-next used i ∙ ap (λ l. free_blocks used i ++ l) (one-used used i is) ∙ append-nil (free_blocks used i)

pub running-none : (used : ℕ → Bool) (n : ℕ) → IsRunning used n 0 0 []
running-none used n = record { few = omega arith; blocks = refl; whole = All-nil (IsWhole used n); begins = λ some. absurd (omega (arith, some)) }

module _ (used : ℕ → Bool) (n i count : ℕ) (runs : List Extent) (h : IsRunning used n i count runs) where
  pub running-free : used i ≡ false → IsRunning used n (i + 1) (count + 1) runs
  running-free free = record {
    few = omega (arith, h.few);
    blocks =
        (λ t. extent_blocks runs ++ range-more-at (same t) count (count + 1) refl t)
        ∙ ap (λ k. extent_blocks runs ++ (range_with_len (i - count) count ++ k ∷ [])) (let e : i - count + count ≡ i = omega (arith, h.few) in e)
        ∙ sym (append_assoc (extent_blocks runs) (range_with_len (i - count) count) (i ∷ []))
        ∙ ap (λ l. l ++ i ∷ []) h.blocks ∙ sym (free_blocks-free used i free);
    whole = h.whole;
    begins = λ some. ap (λ k. used (k - 1)) same ∙ h.begins (omega (arith, some, h.few));
  }
    where
      same : i + 1 - (count + 1) ≡ i - count
      same = omega arith

  -- the runs with the one that ends before block i
  ended : List Extent
  ended = runs ++ run_before i count

  blocks-ended : extent_blocks (runs ++ run_before i count) ≡ free_blocks used i
  blocks-ended = flat_map-append (λ (e : Extent). range_with_len e.first e.count) runs (run_before i count) ∙ ap (λ l. extent_blocks runs ++ l) (by (eqb count 0) refl) ∙ h.blocks
    where
      by : (t : Bool) → eqb count 0 ≡ t → extent_blocks (cond t [] (record { first = i - count; count = count } ∷ [])) ≡ range_with_len (i - count) count
      by true none = ap (range_with_len (i - count)) (sym (eqb-true count 0 none))
      by false some = append-nil (range_with_len (i - count) count)

  whole-ended : i ≤ n → (i < n → used i ≡ true) → All (IsWhole used n) (runs ++ run_before i count)
  whole-ended le stops = All-append (IsWhole used n) runs (run_before i count) h.whole (by (eqb count 0) refl)
    where
      by : (t : Bool) → eqb count 0 ≡ t → All (IsWhole used n) (cond t [] (record { first = i - count; count = count } ∷ []))
      by true none = All-nil (IsWhole used n)
      by false other =
          let some : 0 < count = elim (cases_lt 0 count) [ inl lt ↦ lt | inr le ↦ absurd (eqb-false count 0 other (omega (arith, le))) ] in
          let end : i - count + count ≡ i = omega (arith, h.few) in
          All-push (IsWhole used n) [] (record { first = i - count; count = count }) (All-nil (IsWhole used n)) (record {
            some = some;
            within = omega (arith, end, le);
            begins = h.begins;
            ends = λ below. ap used end ∙ stops (omega (arith, end, below));
          })

  pub running-used : i ≤ n → used i ≡ true → IsRunning used n (i + 1) 0 (runs ++ run_before i count)
  running-used le is = record {
    few = omega arith;
    blocks = append-nil (extent_blocks (runs ++ run_before i count)) ∙ blocks-ended ∙ sym (free_blocks-used used i is);
    whole = whole-ended le (λ _. is);
    begins = λ some. ap used (let e : i + 1 - 0 - 1 ≡ i = omega arith in e) ∙ is;
  }

  running-last : i ≡ n → AreFreeRuns used n (runs ++ run_before i count)
  running-last e = record {
    blocks = blocks-ended ∙ ap (free_blocks used) e;
    whole = whole-ended (omega (arith, e)) (λ below. absurd (omega (arith, below, e)));
  }

  pub running-all : (end : ℕ) → i ≡ end → end ≡ n → AreFreeRuns used n (runs ++ run_before end count)
  running-all end at last = subst (λ (k : ℕ). AreFreeRuns used n (runs ++ run_before k count)) at (running-last (at ∙ last))

-- ---- several blocks at once

-- so many free ones
pub running-frees : (used : ℕ → Bool) (n i count : ℕ) (runs : List Extent) (more : ℕ) → IsRunning used n i count runs
    → ((k : ℕ) → i ≤ k → k < i + more → used k ≡ false) → IsRunning used n (i + more) (count + more) runs
running-frees used n i count runs zero h free =
    subst (λ (k : ℕ). IsRunning used n k (count + 0) runs) (let e : i ≡ i + 0 = omega arith in e)
    (subst (λ (k : ℕ). IsRunning used n i k runs) (let e : count ≡ count + 0 = omega arith in e) h)
running-frees used n i count runs (suc more) h free =
    let before = running-frees used n i count runs more h (λ k from below. free k from (omega (arith, below))) in
    let next = running-free used n (i + more) (count + more) runs before (free (i + more) (omega arith) (omega arith)) in
    subst (λ (k : ℕ). IsRunning used n k (count + suc more) runs) (let e : i + more + 1 ≡ i + suc more = omega arith in e)
    (subst (λ (k : ℕ). IsRunning used n (i + more + 1) k runs) (let e : count + more + 1 ≡ count + suc more = omega arith in e) next)

-- so many that are in use, and one more
pub running-useds : (used : ℕ → Bool) (n i count : ℕ) (runs : List Extent) (more : ℕ) → IsRunning used n i count runs → i + more ≤ n
    → ((k : ℕ) → i ≤ k → k < i + more + 1 → used k ≡ true) → IsRunning used n (i + more + 1) 0 (runs ++ run_before i count)
running-useds used n i count runs zero h within is =
    subst (λ (k : ℕ). IsRunning used n k 0 (runs ++ run_before i count)) (let e : i + 1 ≡ i + 0 + 1 = omega arith in e)
    (running-used used n i count runs h (omega (arith, within)) (is i (omega arith) (omega arith)))
running-useds used n i count runs (suc more) h within is =
    let all = runs ++ run_before i count in
    let before = running-useds used n i count runs more h (omega (arith, within)) (λ k from below. is k from (omega (arith, below))) in
    let next = running-used used n (i + more + 1) 0 all before (omega (arith, within)) (is (i + more + 1) (omega arith) (omega arith)) in
    subst (λ (k : ℕ). IsRunning used n k 0 all) (let e : i + more + 1 + 1 ≡ i + suc more + 1 = omega arith in e)
    (subst (λ (l : List Extent). IsRunning used n (i + more + 1 + 1) 0 l) (append-nil all) next)

-- ---- tests that agree

filter-same : (p q : ℕ → Bool) (a n : ℕ) → ((b : ℕ) → b < a + n → p b ≡ q b) → filter (λ b. not (p b)) (range_with_len a n) ≡ filter (λ b. not (q b)) (range_with_len a n)
filter-same p q a zero same = refl
filter-same p q a (suc n) same =
    (λ t. cond (not (same a (omega arith) t)) (a ∷ filter-same p q (a + 1) n (λ b lt. same b (omega (arith, lt))) t) (filter-same p q (a + 1) n (λ b lt. same b (omega (arith, lt))) t))

pub AreFreeRuns-same : (p q : ℕ → Bool) (n : ℕ) (runs : List Extent) → ((b : ℕ) → b < n → p b ≡ q b) → AreFreeRuns p n runs → AreFreeRuns q n runs
AreFreeRuns-same p q n runs same h = record {
  blocks = h.blocks ∙ filter-same p q 0 n (λ b lt. same b (omega (arith, lt)));
  whole = All-weaker (IsWhole p n) (IsWhole q n) (λ e w. record {
    some = w.some;
    within = w.within;
    begins = λ some. sym (same (e.first - 1) (omega (arith, w.within, w.some, some))) ∙ w.begins some;
    ends = λ below. sym (same (e.first + e.count) below) ∙ w.ends below;
  }) runs h.whole;
}

-- where nothing is taken
pub all-same : (used : ℕ → Bool) (n : ℕ) (runs : List Extent) → AreFreeRuns (is_taken used (record { first = 0; count = 0 })) n runs → AreFreeRuns used n runs
all-same used n runs h =
    AreFreeRuns-same (is_taken used (record { first = 0; count = 0 })) used n runs (λ b lt. taken-nothing used (record { first = 0; count = 0 }) b refl) h
