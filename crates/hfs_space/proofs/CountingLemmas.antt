-- How many numbers below a bound pass a test.
use Rattle.std.proofs.Common.{◌≡◌, ℕ, zero, suc, ◌+◌, ◌<◌, ◌≤◌, Bool, cond, [], ◌∷◌, ◌++◌, refl, sym, ap, ◌∙◌, arith}
use Rattle.std.specs.Prelude.{count_by}
use Rattle.std.specs.List.{range_with_len}
use Rattle.std.proofs.lemmas.List.FromFn.{length-range_with_len}
use Rattle.std.proofs.lemmas.List.Sums.{count_by-le-length, sum_by_push}
use Rattle.hfs_space.specs.Bitmap.{count_below}

-- one more number
pub range-more : (a n : ℕ) → range_with_len a (suc n) ≡ range_with_len a n ++ (a + n) ∷ []
range-more a zero = ap (λ x. x ∷ []) (let e : a ≡ a + 0 = omega arith in e)
range-more a (suc n) =
    let e : a + 1 + n ≡ a + suc n = omega arith in
    ap (λ l. a ∷ l) (range-more (a + 1) n) ∙ ap (λ x. a ∷ range_with_len (a + 1) n ++ x ∷ []) e

pub count_below-suc : (p : ℕ → Bool) (n : ℕ) → count_below p (suc n) ≡ count_below p n + cond (p n) 1 0
count_below-suc p n =
    ap (count_by p) (range-more 0 n) ∙ sum_by_push (λ x. cond (p x) 1 0) (range_with_len 0 n) (0 + n)
    ∙ ap (λ x. count_below p n + cond (p x) 1 0) (let e : 0 + n ≡ n = omega arith in e)

pub count_below-le : (p : ℕ → Bool) (n : ℕ) → count_below p n ≤ n
count_below-le p n = omega (arith, count_by-le-length p (range_with_len 0 n), length-range_with_len 0 n)

-- the tests agree below the bound
pub count_below-same : (p q : ℕ → Bool) (n : ℕ) → ((k : ℕ) → k < n → p k ≡ q k) → count_below p n ≡ count_below q n
count_below-same p q zero same = refl
count_below-same p q (suc n) same =
    count_below-suc p n
    ∙ (λ i. count_below-same p q n (λ k h. same k (omega arith)) i + cond (same n (omega arith) i) 1 0)
    ∙ sym (count_below-suc q n)

-- the first a numbers, and then m more
pub count_below-add : (p : ℕ → Bool) (a m : ℕ) → count_below p (a + m) ≡ count_below p a + count_below (λ j. p (a + j)) m
count_below-add p a zero = omega (arith, ap (count_below p) (let e : a + 0 ≡ a = omega arith in e))
count_below-add p a (suc m) =
    let last = ap (count_below p) (let e : a + suc m ≡ suc (a + m) = omega arith in e) ∙ count_below-suc p (a + m) in
    let rest = count_below-add p a m in
    let more = count_below-suc (λ j. p (a + j)) m in
    omega (arith, last, rest, more)
