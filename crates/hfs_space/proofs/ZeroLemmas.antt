-- Runs of blocks of zeros: those that have a block, and their order.
use Rattle.std.proofs.Common.{◌≡◌, ℕ, ◌+◌, ◌-◌, ◌<◌, ◌≤◌, inl, inr, Bool, true, false, cond, ◌&&◌, ◌||◌, leb, ltb, List, [], ◌∷◌, length, take, drop, get_or, Some, None, refl, sym, ap, ◌∙◌, subst, arith}
use Rattle.std.specs.List.{sum_by, count_by, list_any}
use Rattle.std.specs.List.Sorted.{IsPermutation, IsNonDecreasingBy, IsPartitionedBy, IsPartitionPoint}
use Rattle.std.proofs.lemmas.Bool.{le-leb, lt-ltb, leb-true, leb-false, ltb-true, cases_lt, cases_Bool, and_parts, true≢false}
use Rattle.std.proofs.lemmas.List.{get_or-take, get_or-drop, get_or_default, length-take-le, length-drop}
use Rattle.std.proofs.lemmas.List.Folds.{list_any_at, list_any_none}
use Rattle.std.proofs.lemmas.List.Sums.{sum_by-cons, sum_by-take-drop, get_or-le-sum_by}
use Rattle.std.proofs.lemmas.List.Sorted.{IsPartitionedBy-leb, sum_by-IsPermutation, All-permutation}
use Rattle.hfs_blocks.specs.declared.run.Run.{Run}
use Rattle.hfs_space.specs.Parts.{zeros}
use Rattle.hfs_space.specs.Zeros.{is_of_run, AreOnce, AreApart, HaveSameBlocks, HaveBegun}

-- ---- whether a run has a block

pub in-run : (n : ℕ) (run : Run) → run.first ≤ n → n < run.first + run.count → is_of_run n run ≡ true
in-run n run low high = ap (λ b. b && ltb n (run.first + run.count)) (le-leb run.first n low) ∙ lt-ltb n (run.first + run.count) high

pub before-run : (n : ℕ) (run : Run) → n < run.first → is_of_run n run ≡ false
before-run n run low = elim (cases_Bool (is_of_run n run)) [
  | inl is ↦ absurd (let from = leb-true run.first n (and_parts (leb run.first n) (ltb n (run.first + run.count)) is).0 in omega (arith, from, low))
  | inr not ↦ not
]

pub behind-run : (n : ℕ) (run : Run) → run.first + run.count ≤ n → is_of_run n run ≡ false
behind-run n run high = elim (cases_Bool (is_of_run n run)) [
  | inl is ↦ absurd (let to = ltb-true n (run.first + run.count) (and_parts (leb run.first n) (ltb n (run.first + run.count)) is).1 in omega (arith, to, high))
  | inr not ↦ not
]

-- ---- the runs that have begun

begun-rises : (runs : List Run) → AreApart runs → IsNonDecreasingBy (λ run. run.first) runs
begun-rises runs apart i j d le lt = elim (cases_lt i j) [
  | inl less ↦ let end = apart i j d less lt in omega (arith, end)
  | inr more ↦ let same : i ≡ j = omega (arith, le, more) in subst (λ k. (get_or runs i d).first ≤ (get_or runs k d).first) same (omega arith)
]

pub begun-parted : (runs : List Run) (n : ℕ) → AreApart runs → IsPartitionedBy (λ run. leb run.first n) runs
begun-parted runs n apart = IsPartitionedBy-leb (λ (run : Run). run.first) runs n (begun-rises runs apart)

pub begun-point : (runs : List Run) (n p : ℕ) → p ≤ length runs → IsPartitionPoint (λ run. leb run.first n ≡ true) (λ run. leb run.first n ≡ false) runs p → HaveBegun runs n p
begun-point runs n p le point = record {
  within = le;
  before = λ i d lt. leb-true (get_or runs i d).first n (point.0 i d (omega arith) lt);
  behind = λ i d from lt. leb-false (get_or runs i d).first n (point.1 i d from lt);
}

pub none-begun : (runs : List Run) (n p : ℕ) → HaveBegun runs n p → p ≡ 0 → list_any (is_of_run n) runs ≡ false
none-begun runs n p h none = list_any_none (is_of_run n) runs (λ i d lt. before-run n (get_or runs i d) (h.behind i d (omega (arith, none)) lt))

pub last-begun : (runs : List Run) (n p : ℕ) → AreApart runs → HaveBegun runs n p → 0 < p → (d : Run) → list_any (is_of_run n) runs ≡ ltb (n - (get_or runs (p - 1) d).first) (get_or runs (p - 1) d).count
last-begun runs n p apart h some d =
    let run = get_or runs (p - 1) d in
    let low : run.first ≤ n = h.before (p - 1) d (omega (arith, some)) in
    let inside : p - 1 < length runs = (let le = h.within in omega (arith, le, some)) in
    elim (cases_lt n (run.first + run.count)) [
      | inl high ↦ list_any_at (is_of_run n) runs (p - 1) d inside (in-run n run low high) ∙ sym (lt-ltb (n - run.first) run.count (omega (arith, low, high)))
      | inr past ↦
          list_any_none (is_of_run n) runs (λ i e lt. elim (cases_lt i (p - 1)) [
            | inl less ↦
                let end = apart i (p - 1) e less inside in
                let begins : (get_or runs (p - 1) e).first ≤ n = h.before (p - 1) e (omega (arith, some)) in
                behind-run n (get_or runs i e) (omega (arith, end, begins))
            | inr more ↦ elim (cases_lt i p) [
              | inl last ↦
                  let same : p - 1 ≡ i = omega (arith, last, more) in
                  behind-run n (get_or runs i e)
                  (subst (λ k. (get_or runs k e).first + (get_or runs k e).count ≤ n) same
                  (subst (λ (r : Run). r.first + r.count ≤ n) (get_or_default runs (p - 1) d e inside) past))
              | inr later ↦ before-run n (get_or runs i e) (h.behind i e later lt)
            ]
          ])
          ∙ sym (not-below (n - run.first) run.count (omega (arith, past, low)))
    ]
  where
    not-below : (a b : ℕ) → b ≤ a → ltb a b ≡ false
    not-below a b le = elim (cases_Bool (ltb a b)) [ inl is ↦ absurd (let lt = ltb-true a b is in omega (arith, lt, le)) | inr not ↦ not ]

-- ---- the runs in order

-- two places have at most what the whole has
two-places : (f : Run → ℕ) (xs : List Run) (i j : ℕ) (d : Run) → i < j → j < length xs → f (get_or xs i d) + f (get_or xs j d) ≤ sum_by f xs
two-places f xs i j d less lt =
    let front = get_or-le-sum_by f (take j xs) i d (let long = length-take-le j xs (omega (arith, lt)) in omega (arith, less, long)) in
    let back = get_or-le-sum_by f (drop j xs) 0 d (let long = length-drop j xs in omega (arith, lt, long)) in
    let all = sum_by-take-drop f xs j in
    let one = ap f (get_or-take j xs i d less) in
    let two = ap f (get_or-drop j xs 0 d ∙ ap (λ k. get_or xs k d) (let e : j + 0 ≡ j = omega arith in e)) in
    omega (arith, front, back, all, one, two)

pub sorted-apart : (xs ys : List Run) → IsPermutation xs ys → IsNonDecreasingBy (λ run. run.first) ys → AreOnce xs → AreApart ys
sorted-apart xs ys same order once i j d less lt =
    let a = get_or ys i d in
    let b = get_or ys j d in
    let first : a.first ≤ b.first = order i j d (omega (arith, less)) lt in
    let some : 0 < b.count = All-permutation (λ (run : Run). 0 < run.count) xs ys same once.some j d lt in
    elim (cases_lt b.first (a.first + a.count)) [
      | inr apart ↦ apart
      | inl meet ↦
          let f : Run → ℕ = λ run. cond (is_of_run b.first run) 1 0 in
          let here : f a ≡ 1 = ap (λ (t : Bool). cond t 1 0) (in-run b.first a first meet) in
          let there : f b ≡ 1 = ap (λ (t : Bool). cond t 1 0) (in-run b.first b (omega arith) (omega (arith, some))) in
          let both = two-places f ys i j d less lt in
          let sums = sum_by-IsPermutation f xs ys same in
          let most : sum_by f xs ≤ 1 = once.once b.first in
          absurd (omega (arith, here, there, both, sums, most))
    ]

-- ---- whether one passes, by how many do

module _ (p : Run → Bool) where
  counted : (xs : List Run) → list_any p xs ≡ true → 0 < count_by p xs
  counted [] e = absurd (true≢false (sym e))
  counted (x ∷ xs) e = by (p x) refl e (λ h. counted xs h)
    where
      by : (t : Bool) → p x ≡ t → (t || list_any p xs) ≡ true → (list_any p xs ≡ true → 0 < count_by p xs) → 0 < count_by p (x ∷ xs)
      by true is h rest = let sum = sum_by-cons (λ (r : Run). cond (p r) 1 0) x xs in let one : ◌≡◌ {A = ℕ} (cond (p x) 1 0) 1 = ap (λ (b : Bool). cond b 1 0) is in omega (arith, sum, one)
      by false is h rest = let sum = sum_by-cons (λ (r : Run). cond (p r) 1 0) x xs in let more = rest h in omega (arith, sum, more)

  uncounted : (xs : List Run) → list_any p xs ≡ false → count_by p xs ≡ 0
  uncounted [] e = refl
  uncounted (x ∷ xs) e = by (p x) refl e (λ h. uncounted xs h)
    where
      by : (t : Bool) → p x ≡ t → (t || list_any p xs) ≡ false → (list_any p xs ≡ false → count_by p xs ≡ 0) → count_by p (x ∷ xs) ≡ 0
      by true is h rest = absurd (true≢false h)
      by false is h rest =
          let sum = sum_by-cons (λ (r : Run). cond (p r) 1 0) x xs in
          let none : ◌≡◌ {A = ℕ} (cond (p x) 1 0) 0 = ap (λ (b : Bool). cond b 1 0) is in
          let more = rest h in
          omega (arith, sum, none, more)

  any-counted : (xs : List Run) → list_any p xs ≡ ltb 0 (count_by p xs)
  any-counted xs = elim (cases_Bool (list_any p xs)) [
    | inl some ↦ some ∙ sym (lt-ltb 0 (count_by p xs) (counted xs some))
    | inr none ↦ none ∙ sym (ap (λ k. ltb 0 k) (uncounted xs none))
  ]

pub same-blocks : (xs ys : List Run) → IsPermutation xs ys → HaveSameBlocks xs ys
same-blocks xs ys same n =
    ap (λ (t : Bool). cond t (Some (zeros 512)) None)
    (any-counted (is_of_run n) ys ∙ ap (λ k. ltb 0 k) (sum_by-IsPermutation (λ (r : Run). cond (is_of_run n r) 1 0) xs ys same) ∙ sym (any-counted (is_of_run n) xs))
