-- Blocks that stand one behind the other, and bytes that were laid as such blocks.
use Rattle.std.proofs.Common.{◌≡◌, ℕ, zero, suc, ◌+◌, ◌*◌, ◌<◌, List, ◌++◌, length, drop, refl, sym, ap, ◌∙◌, arith, append_assoc, length-append}
use Rattle.std.specs.List.{flat_map, range_with_len}
use Rattle.std.proofs.lemmas.List.{drop-drop}
use Rattle.hfs_blocks.specs.Blocks.{block_count}
use Rattle.hfs_volume.specs.Laid.{laid_from, laid}

-- so many blocks from a number on
abbrev pub blocks_from : (ℕ → List ℕ) → ℕ → ℕ → List ℕ
blocks_from blocks first count = flat_map blocks (range_with_len first count)

-- each of them has 512 bytes
abbrev pub AreWholeFrom : (ℕ → List ℕ) → ℕ → ℕ → Type 0
AreWholeFrom blocks first count = (k : ℕ) → k < count → length (blocks (first + k)) ≡ 512

-- the laid blocks, and then what the bytes have behind as many
pub flat-laid_from : (f : ℕ → List ℕ) (c n : ℕ) (bytes : List ℕ) → laid_from f c n bytes ≡ blocks_from f n c ++ drop (512 * c) bytes
unfolding laid_from
flat-laid_from f zero n bytes = refl
flat-laid_from f (suc c) n bytes =
    let place : suc n ≡ n + 1 = omega arith in
    let all : 512 + 512 * c ≡ 512 * suc c = omega arith in
    ap (λ l. f n ++ l) (flat-laid_from f c (suc n) (drop 512 bytes)
    ∙ (λ i. blocks_from f (place i) c ++ drop (512 * c) (drop 512 bytes))
    ∙ ap (λ l. blocks_from f (n + 1) c ++ l) (drop-drop (512 * c) 512 bytes ∙ ap (λ m. drop m bytes) all))
    ∙ sym (append_assoc (f n) (blocks_from f (n + 1) c) (drop (512 * suc c) bytes))

pub flat-laid : (f : ℕ → List ℕ) (bytes : List ℕ) → laid f bytes ≡ blocks_from f 0 (block_count bytes) ++ drop (512 * block_count bytes) bytes
unfolding laid
flat-laid f bytes = flat-laid_from f (block_count bytes) 0 bytes

-- ---- blocks one behind the other

pub length-blocks_from : (f : ℕ → List ℕ) (n c : ℕ) → AreWholeFrom f n c → length (blocks_from f n c) ≡ 512 * c
length-blocks_from f n zero whole = refl
length-blocks_from f n (suc c) whole =
    let here : n ≡ n + 0 = omega arith in
    let first : length (f n) ≡ 512 = ap (λ j. length (f j)) here ∙ whole 0 (omega arith) in
    let rest = length-blocks_from f (n + 1) c (λ k lt.
    let there : n + 1 + k ≡ n + suc k = omega arith in
    ap (λ j. length (f j)) there ∙ whole (suc k) (omega (arith, lt))) in
    let all : length (f n) + length (blocks_from f (n + 1) c) ≡ 512 * suc c = omega (arith, first, rest) in
    length-append (f n) (blocks_from f (n + 1) c) ∙ all

pub blocks_from-add : (f : ℕ → List ℕ) (n a b : ℕ) → blocks_from f n (a + b) ≡ blocks_from f n a ++ blocks_from f (n + a) b
blocks_from-add f n zero b =
    let same : zero + b ≡ b = omega arith in
    let here : n ≡ n + 0 = omega arith in
    λ i. blocks_from f (here i) (same i)
blocks_from-add f n (suc a) b =
    let more : suc a + b ≡ suc (a + b) = omega arith in
    let there : n + 1 + a ≡ n + suc a = omega arith in
    ap (blocks_from f n) more
    ∙ ap (λ l. f n ++ l) (blocks_from-add f (n + 1) a b ∙ ap (λ k. blocks_from f (n + 1) a ++ blocks_from f k b) there)
    ∙ sym (append_assoc (f n) (blocks_from f (n + 1) a) (blocks_from f (n + suc a) b))

-- blocks that are the same, one for one
pub blocks_from-same : (f g : ℕ → List ℕ) (n m c : ℕ) → ((k : ℕ) → k < c → f (n + k) ≡ g (m + k)) → blocks_from f n c ≡ blocks_from g m c
blocks_from-same f g n m zero same = refl
blocks_from-same f g n m (suc c) same =
    let from : n ≡ n + 0 = omega arith in
    let to : m + 0 ≡ m = omega arith in
    let first : f n ≡ g m = ap f from ∙ same 0 (omega arith) ∙ ap g to in
    let rest = blocks_from-same f g (n + 1) (m + 1) c (λ k lt.
    let there : n + 1 + k ≡ n + suc k = omega arith in
    let back : m + suc k ≡ m + 1 + k = omega arith in
    ap f there ∙ same (suc k) (omega (arith, lt)) ∙ ap g back) in
    λ i. first i ++ rest i
