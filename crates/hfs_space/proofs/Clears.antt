-- The clear bits of one more block of the bitmap.
use Rattle.std.proofs.Common.{◌≡◌, ℕ, ◌+◌, ◌-◌, ◌*◌, ◌/◌, ◌%◌, ◌<◌, ◌≤◌, not, List, sym, ap, ◌∙◌, arith}
use Rattle.std.specs.Prelude.{min}
use Rattle.hfs_space.specs.Bitmap.{is_marked, is_used, count_below, clear_count}
use Rattle.hfs_space.proofs.CountingLemmas.{count_below-add, count_below-same, count_below-le}

pub clear-block : (blocks : ℕ → List ℕ) (start total i bits : ℕ) → bits ≡ min 4096 (total - i * 4096) → 4096 * i < total
    → clear_count blocks start (min total (4096 * (i + 1))) ≡ clear_count blocks start (min total (4096 * i)) + count_below (λ j. not (is_marked (blocks (start + i)) j)) bits
clear-block blocks start total i bits e within =
    let unused = λ (k : ℕ). not (is_used blocks start k) in
    let split = count_below-add unused (4096 * i) bits in
    let here = count_below-same (λ j. unused (4096 * i + j)) (λ j. not (is_marked (blocks (start + i)) j)) bits
    (λ j h. let at : (4096 * i + j) / 4096 ≡ i = omega arith in let place : (4096 * i + j) % 4096 ≡ j = omega arith in (λ t. not (is_marked (blocks (start + at t)) (place t)))) in
    let before = ap (count_below unused) (let s : min total (4096 * i) ≡ 4096 * i = omega arith in s) in
    let after = ap (count_below unused) (let s : min total (4096 * (i + 1)) ≡ 4096 * i + bits = omega arith in s) in
    after ∙ split ∙ (λ t. sym before t + here t)

pub clear-few : (bytes : List ℕ) (bits n : ℕ) → n ≡ count_below (λ j. not (is_marked bytes j)) bits → bits ≤ 4096 → n ≤ 4096
clear-few bytes bits n is few = omega (arith, count_below-le (λ j. not (is_marked bytes j)) bits)

-- what is counted so far, and the clear bits of the block that was read
pub clear-step : (blocks : ℕ → List ℕ) (start total i bits free clear : ℕ) (bytes : List ℕ) → free ≡ clear_count blocks start (min total (4096 * i))
    → clear ≡ count_below (λ j. not (is_marked bytes j)) bits → bytes ≡ blocks (start + i) → bits ≡ min 4096 (total - i * 4096) → 4096 * i < total
    → free + clear ≡ clear_count blocks start (min total (4096 * (i + 1)))
clear-step blocks start total i bits free clear bytes so_far is read e within =
    (λ t. so_far t + (is ∙ ap (λ b. count_below (λ j. not (is_marked b j)) bits) read) t) ∙ sym (clear-block blocks start total i bits e within)
