-- Blocks of bytes that were moved or cut.
use Rattle.std.proofs.Common.{◌≡◌, ℕ, ◌+◌, ◌-◌, ◌*◌, ◌<◌, ◌≤◌, List, ◌++◌, length, take, drop, slice_index_or, slice_range, sym, ap, ◌∙◌, arith, length-take, length-drop}
use Rattle.std.specs.List.{SameBelow, SameFrom, CopiedTo}
use Rattle.std.proofs.lemmas.List.{get_or-take, get_or-drop}
use Rattle.std.proofs.lemmas.List.{same_lists, drop_at, drop-drop, drop-take, drop-append-le, take-take, take-append-le}
use Rattle.hfs_blocks.specs.Blocks.{block_at}

pub whole-block : (bytes : List ℕ) (n : ℕ) → 512 * n + 512 ≤ length bytes → length (block_at bytes n) ≡ 512
whole-block bytes n there = omega (arith, there, length-take 512 (drop (512 * n) bytes), length-drop (512 * n) bytes)

block-ext : (xs ys : List ℕ) (m n : ℕ) → length (block_at ys m) ≡ length (block_at xs n)
    → ((k d : ℕ) → k < 512 → slice_index_or ys (512 * m + k) d ≡ slice_index_or xs (512 * n + k) d) → block_at ys m ≡ block_at xs n
block-ext xs ys m n long same = same_lists (block_at ys m) (block_at xs n) long (λ k d lt.
    let few : k < 512 = omega (arith, lt, length-take 512 (drop (512 * m) ys)) in
    get_or-take 512 (drop (512 * m) ys) k d few ∙ get_or-drop (512 * m) ys k d ∙ same k d few
    ∙ sym (get_or-take 512 (drop (512 * n) xs) k d few ∙ get_or-drop (512 * n) xs k d))

same-length : (xs ys : List ℕ) (k : ℕ) → length ys ≡ length xs → length (block_at ys k) ≡ length (block_at xs k)
same-length xs ys k long =
    omega (arith, long, length-take 512 (drop (512 * k) ys), length-drop (512 * k) ys, length-take 512 (drop (512 * k) xs), length-drop (512 * k) xs)

module _ (xs ys : List ℕ) (from to : ℕ) (order : to ≤ from) (there : 512 * from + 512 ≤ length xs) (long : length ys ≡ length xs) where
  pub moved-block : CopiedTo xs ys (from * 512) (to * 512) (from * 512 + 512 - from * 512) → block_at ys to ≡ block_at xs from
  moved-block copied = block-ext xs ys to from
      (whole-block ys to (omega (arith, order, there, long)) ∙ sym (whole-block xs from there))
      (λ k d lt. copied (512 * to + k) d (omega arith) (omega (arith, lt))
      ∙ ap (λ i. slice_index_or xs i d) (let e : from * 512 + (512 * to + k - to * 512) ≡ 512 * from + k = omega arith in e))

  pub blocks-before : SameBelow xs ys (to * 512) → (k : ℕ) → k < to → block_at ys k ≡ block_at xs k
  blocks-before same k lt = block-ext xs ys k k (same-length xs ys k long) (λ j d few. same (512 * k + j) d (omega (arith, lt, few)))

  pub blocks-behind : SameFrom xs ys (to * 512 + (from * 512 + 512 - from * 512)) → (k : ℕ) → from + 1 ≤ k → block_at ys k ≡ block_at xs k
  blocks-behind same k le = block-ext xs ys k k (same-length xs ys k long) (λ j d few. same (512 * k + j) d (omega (arith, order, le)))

-- what stands between the ends of a block is the block
pub range-block : (bytes : List ℕ) (n : ℕ) → slice_range bytes (n * 512) (n * 512 + 512) ≡ block_at bytes n
range-block bytes n =
    let long : n * 512 + 512 - n * 512 ≡ 512 = omega arith in
    let from : n * 512 ≡ 512 * n = omega arith in
    ap (λ k. take k (drop (n * 512) bytes)) long ∙ ap (λ k. take 512 (drop k bytes)) from

-- ---- bytes that were laid between others

-- block k of what stands behind n blocks
pub inner-block : (xs ys zs : List ℕ) (n k : ℕ) → length xs ≡ 512 * n → 512 * k + 512 ≤ length ys → block_at (xs ++ (ys ++ zs)) (n + k) ≡ block_at ys k
inner-block xs ys zs n k long there =
    let place : 512 * (n + k) ≡ 512 * n + 512 * k = omega arith in
    ap (λ m. take 512 (drop m (xs ++ (ys ++ zs)))) place
    ∙ ap (take 512) (sym (drop-drop (512 * k) (512 * n) (xs ++ (ys ++ zs))))
    ∙ ap (λ l. take 512 (drop (512 * k) l)) (drop_at xs (ys ++ zs) (512 * n) long)
    ∙ ap (take 512) (drop-append-le (512 * k) ys zs (omega (arith, there)))
    ∙ take-append-le 512 (drop (512 * k) ys) zs (omega (arith, there, length-drop (512 * k) ys))

-- of bytes that stand from a block's place on, block k is the one that comes so many behind it
pub from-block : (image into : List ℕ) (first k : ℕ) → into ≡ take (length into) (drop (512 * first) image) → 512 * k + 512 ≤ length into
    → block_at into k ≡ block_at image (first + k)
from-block image into first k e there =
    let split : length into ≡ 512 * k + (512 + (length into - 512 * k - 512)) = omega (arith, there) in
    let place : 512 * first + 512 * k ≡ 512 * (first + k) = omega arith in
    ap (λ l. block_at l k) (e ∙ ap (λ m. take m (drop (512 * first) image)) split)
    ∙ ap (take 512) (drop-take (512 * k) (512 + (length into - 512 * k - 512)) (drop (512 * first) image))
    ∙ take-take 512 (512 + (length into - 512 * k - 512)) (drop (512 * k) (drop (512 * first) image)) (omega arith)
    ∙ ap (take 512) (drop-drop (512 * k) (512 * first) image) ∙ ap (λ m. take 512 (drop m image)) place
