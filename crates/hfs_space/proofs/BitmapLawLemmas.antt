-- Laws of the bitmap.
use Rattle.std.specs.Prelude.{◌≡◌, ℕ, zero, suc, ◌+◌, ◌-◌, ◌<◌, ◌≤◌, Bool, true, false, not, if◌then◌else◌, List}
use Rattle.std.proofs.Common.{refl, ap, ◌∙◌, inl, inr, arith}
use Rattle.hfs_space.specs.Bitmap.{is_used, count_below, clear_count, AreClear, KeepsOthers}
use Rattle.hfs_space.proofs.CountingLemmas.{count_below-suc, count_below-same, count_below-add}

-- the bits of `count` allocation blocks from `first` on are set
abbrev pub AreUsed : (ℕ → List ℕ) → ℕ → ℕ → ℕ → Type 0
AreUsed blocks start first count = (n : ℕ) → first ≤ n → n < first + count → is_used blocks start n ≡ true

pub every : (p : ℕ → Bool) (n : ℕ) → ((k : ℕ) → k < n → p k ≡ true) → count_below p n ≡ n
every p zero h = refl
every p (suc n) h = count_below-suc p n ∙ (λ i. every p n (λ k lt. h k (omega arith)) i + (if h n (omega arith) i then 1 else 0)) ∙ (let e : n + 1 ≡ suc n = omega arith in e)

pub none : (p : ℕ → Bool) (n : ℕ) → ((k : ℕ) → k < n → p k ≡ false) → count_below p n ≡ 0
none p zero h = refl
none p (suc n) h = count_below-suc p n ∙ (λ i. none p n (λ k lt. h k (omega arith)) i + (if h n (omega arith) i then 1 else 0)) ∙ (let e : 0 + 0 ≡ 0 = omega arith in e)

-- releasing blocks that were marked makes as many more of them clear
pub clear_count-released : (old new : ℕ → List ℕ) (start first count total : ℕ) → AreUsed old start first count → AreClear new start first count → KeepsOthers old new start first count → first + count ≤ total
    → clear_count new start total ≡ clear_count old start total + count
clear_count-released old new start first count total were are others within =
    let p = λ (k : ℕ). not (is_used old start k) in
    let q = λ (k : ℕ). not (is_used new start k) in
    let rest = total - (first + count) in
    let split : total ≡ first + (count + rest) = omega arith in
    let before = count_below-same q p first (λ k lt. ap not (others.bits k (inl lt))) in
    let clear = every (λ j. q (first + j)) count (λ j lt. ap not (are (first + j) (omega arith) (omega arith))) in
    let used = none (λ j. p (first + j)) count (λ j lt. ap not (were (first + j) (omega arith) (omega arith))) in
    let behind = count_below-same (λ j. q (first + (count + j))) (λ j. p (first + (count + j))) rest (λ j lt. ap not (others.bits (first + (count + j)) (inr (omega arith)))) in
    let old_front = ap (count_below p) split ∙ count_below-add p first (count + rest) in
    let old_back = count_below-add (λ j. p (first + j)) count rest in
    let new_front = ap (count_below q) split ∙ count_below-add q first (count + rest) in
    let new_back = count_below-add (λ j. q (first + j)) count rest in
    omega (arith, before, clear, used, behind, old_front, old_back, new_front, new_back)
