-- How many blocks are free, when some of them are taken.
use Rattle.std.specs.Prelude.{◌≡◌, ℕ, zero, suc, ◌+◌, ◌-◌, ◌<◌, ◌≤◌, ◌⊎◌, Bool, true, false, not, ◌||◌, nat_le, nat_lt, if◌then◌else◌, List, length}
use Rattle.std.proofs.Common.{refl, ap, ◌∙◌, inl, inr, arith}
use Rattle.std.specs.List.{range_with_len}
use Rattle.std.proofs.lemmas.Bool.{le-leb, lt-leb, lt-ltb, le-ltb, and_left, and_right, and_from, or_right, cases_lt}
use Rattle.std.proofs.lemmas.List.Sums.{length-filter}
use Rattle.hfs_fields.specs.declared.extent.Extent.{Extent}
use Rattle.hfs_space.specs.Bitmap.{is_used, count_below, clear_count, KeepsOthers}
use Rattle.hfs_space.proofs.CountingLemmas.{count_below-same, count_below-add}
use Rattle.hfs_space.specs.Claimed.{AreSet}
use Rattle.hfs_space.specs.FreeRuns.{free_blocks, is_in, is_taken}
use Rattle.hfs_space.specs.Choice.{free_count}
use Rattle.hfs_space.proofs.BitmapLawLemmas.{every, none}

-- two tests that agree but for a row of numbers that the first passes and the second fails
pub fewer-pass : (p q : ℕ → Bool) (first count total : ℕ) → ((k : ℕ) → first ≤ k → k < first + count → p k ≡ true) → ((k : ℕ) → first ≤ k → k < first + count → q k ≡ false)
    → ((k : ℕ) → (k < first) ⊎ (first + count ≤ k) → q k ≡ p k) → first + count ≤ total → count_below q total + count ≡ count_below p total
fewer-pass p q first count total pass fail same within =
    let rest = total - (first + count) in
    let split : total ≡ first + (count + rest) = omega arith in
    let before = count_below-same q p first (λ k lt. same k (inl lt)) in
    let all = every (λ j. p (first + j)) count (λ j lt. pass (first + j) (omega arith) (omega arith)) in
    let no = none (λ j. q (first + j)) count (λ j lt. fail (first + j) (omega arith) (omega arith)) in
    let after = count_below-same (λ j. q (first + (count + j))) (λ j. p (first + (count + j))) rest (λ j lt. same (first + (count + j)) (inr (omega arith))) in
    let p_front = ap (count_below p) split ∙ count_below-add p first (count + rest) in
    let p_back = count_below-add (λ j. p (first + j)) count rest in
    let q_front = ap (count_below q) split ∙ count_below-add q first (count + rest) in
    let q_back = count_below-add (λ j. q (first + j)) count rest in
    omega (arith, before, all, no, after, p_front, p_back, q_front, q_back)

-- claiming blocks that were free makes so many fewer of them clear
pub clear_count-claimed : (old new : ℕ → List ℕ) (start first count total : ℕ) → ((n : ℕ) → first ≤ n → n < first + count → is_used old start n ≡ false) → AreSet new start first count → KeepsOthers old new start first count
    → first + count ≤ total → clear_count new start total + count ≡ clear_count old start total
clear_count-claimed old new start first count total were are others within =
    fewer-pass (λ (k : ℕ). not (is_used old start k)) (λ (k : ℕ). not (is_used new start k)) first count total (λ k low high. ap not (were k low high)) (λ k low high. ap not (are k low high))
    (λ k apart. ap not (others.bits k apart)) within

-- ---- the blocks of an extent

pub is_in-inside : (e : Extent) (b : ℕ) → e.first ≤ b → b < e.first + e.count → is_in e b ≡ true
is_in-inside e b low high = and_from (nat_le e.first b) (nat_lt b (e.first + e.count)) (le-leb e.first b low) (lt-ltb b (e.first + e.count) high)

pub is_in-outside : (e : Extent) (b : ℕ) → (b < e.first) ⊎ (e.first + e.count ≤ b) → is_in e b ≡ false
is_in-outside e b apart = elim apart [
  | inl low ↦ and_left (nat_le e.first b) (nat_lt b (e.first + e.count)) (lt-leb e.first b low)
  | inr high ↦ and_right (nat_le e.first b) (nat_lt b (e.first + e.count)) (le-ltb b (e.first + e.count) high)
]

or_false : (t : Bool) → (t || false) ≡ t
or_false true = refl
or_false false = refl

pub taken-inside : (used : ℕ → Bool) (e : Extent) (b : ℕ) → e.first ≤ b → b < e.first + e.count → is_taken used e b ≡ true
taken-inside used e b low high = or_right (used b) (is_in e b) (is_in-inside e b low high)

pub taken-outside : (used : ℕ → Bool) (e : Extent) (b : ℕ) → (b < e.first) ⊎ (e.first + e.count ≤ b) → is_taken used e b ≡ used b
taken-outside used e b apart = ap (λ t. used b || t) (is_in-outside e b apart) ∙ or_false (used b)

-- beside a row of free blocks so many fewer are free
pub free_count-beside : (used : ℕ → Bool) (n : ℕ) (e : Extent) → ((b : ℕ) → e.first ≤ b → b < e.first + e.count → used b ≡ false) → e.first + e.count ≤ n
    → free_count (is_taken used e) n + e.count ≡ free_count used n
free_count-beside used n e free within =
    fewer-pass (λ (k : ℕ). not (used k)) (λ (k : ℕ). not (is_taken used e k)) e.first e.count n (λ k low high. ap not (free k low high)) (λ k low high. ap not (taken-inside used e k low high))
    (λ k apart. ap not (taken-outside used e k apart)) within

-- an extent without blocks takes none
pub taken-nothing : (used : ℕ → Bool) (e : Extent) (b : ℕ) → e.count ≡ 0 → is_taken used e b ≡ used b
taken-nothing used e b empty = taken-outside used e b (elim (cases_lt b e.first) [ inl low ↦ inl low | inr high ↦ inr (omega (arith, high, empty)) ])

pub free_count-same : (p q : ℕ → Bool) (n : ℕ) → ((b : ℕ) → b < n → p b ≡ q b) → free_count p n ≡ free_count q n
free_count-same p q n same = count_below-same (λ b. not (p b)) (λ b. not (q b)) n (λ k lt. ap not (same k lt))

pub length-free_blocks : (used : ℕ → Bool) (n : ℕ) → length (free_blocks used n) ≡ free_count used n
length-free_blocks used n = length-filter (λ b. not (used b)) (range_with_len 0 n)
