-- Laws of laying blocks over bytes.
use Rattle.std.specs.Prelude.{◌≡◌, ℕ, ◌+◌, ◌-◌, ◌*◌, ◌/◌, ◌<◌, ◌≤◌, List, ◌++◌, length, take, drop, Option, Some, None, unwrap_or, refl, zero, suc}
use Rattle.std.proofs.Common.{sym, ap, ◌∙◌, arith, ⊎_elim, append_assoc, length-append, length-drop, drop_at}
use Rattle.std.proofs.Math.Seq.{take-add}
use Rattle.std.proofs.lemmas.Bool.{cases_lt}
use Rattle.std.proofs.lemmas.List.{drop-drop, take_at, take-append-drop}
use Rattle.hfs_blocks.specs.Blocks.{block_at, block_count, length-block_at}
use Rattle.hfs_blocks.specs.Layers.{Changes, AreWithin, over}
use Rattle.hfs_volume.specs.Laid.{laid_from, laid, laid_over}

-- the first m blocks have 512 bytes each
abbrev pub AreBlocks : (ℕ → List ℕ) → ℕ → Type 0
AreBlocks blocks m = (n : ℕ) → n < m → length (blocks n) ≡ 512

pub length-laid_from : (f : ℕ → List ℕ) (m c n : ℕ) (bytes : List ℕ) → AreBlocks f m → n + c ≤ m → 512 * c ≤ length bytes → length (laid_from f c n bytes) ≡ length bytes
unfolding laid_from
length-laid_from f m zero n bytes whole within fits = refl
length-laid_from f m (suc c) n bytes whole within fits =
    let rest = length-laid_from f m c (suc n) (drop 512 bytes) whole (omega arith) (omega (arith, length-drop 512 bytes)) in
    omega (arith, length-append (f n) (laid_from f c (suc n) (drop 512 bytes)), whole n (omega arith), length-drop 512 bytes, rest)

laid_from-suc : (f : ℕ → List ℕ) (t c n : ℕ) (bytes : List ℕ) → t ≡ suc c → laid_from f t n bytes ≡ f n ++ laid_from f c (suc n) (drop 512 bytes)
unfolding laid_from
laid_from-suc f t c n bytes e = ap (λ x. laid_from f x n bytes) e

pub laid_from-zero : (f : ℕ → List ℕ) (t n : ℕ) (bytes : List ℕ) → t ≡ 0 → laid_from f t n bytes ≡ bytes
unfolding laid_from
laid_from-zero f t n bytes e = ap (λ x. laid_from f x n bytes) e

drop-suc_blocks : (k : ℕ) (bytes : List ℕ) → drop (512 * k) (drop 512 bytes) ≡ drop (512 * suc k) bytes
drop-suc_blocks k bytes =
    let e : 512 + 512 * k ≡ 512 * suc k = omega arith in
    drop-drop (512 * k) 512 bytes ∙ ap (λ x. drop x bytes) e

pub drop-laid_from : (f : ℕ → List ℕ) (m k c n : ℕ) (bytes : List ℕ) → AreBlocks f m → n + (k + c) ≤ m
    → drop (512 * k) (laid_from f (k + c) n bytes) ≡ laid_from f c (n + k) (drop (512 * k) bytes)
drop-laid_from f m zero c n bytes whole within =
    let e : zero + c ≡ c = omega arith in
    let e' : n ≡ n + zero = omega arith in
    ap (λ x. laid_from f x n bytes) e ∙ ap (λ x. laid_from f c x bytes) e'
drop-laid_from f m (suc k) c n bytes whole within =
    let rest = laid_from f (k + c) (suc n) (drop 512 bytes) in
    let e : suc n + k ≡ n + suc k = omega arith in
    sym (drop-suc_blocks k (laid_from f (suc k + c) n bytes))
    ∙ ap (λ l. drop (512 * k) (drop 512 l)) (laid_from-suc f (suc k + c) (k + c) n bytes (omega arith))
    ∙ ap (drop (512 * k)) (drop_at (f n) rest 512 (whole n (omega arith)))
    ∙ drop-laid_from f m k c (suc n) (drop 512 bytes) whole (omega arith)
    ∙ ap (λ x. laid_from f c x (drop (512 * k) (drop 512 bytes))) e
    ∙ ap (laid_from f c (n + suc k)) (drop-suc_blocks k bytes)

-- where k blocks are the bytes' own, so are the bytes
pub laid_from-run : (f : ℕ → List ℕ) (k c n : ℕ) (bytes : List ℕ) → ((j : ℕ) → j < k → f (n + j) ≡ block_at bytes j)
    → laid_from f (k + c) n bytes ≡ take (512 * k) bytes ++ laid_from f c (n + k) (drop (512 * k) bytes)
laid_from-run f zero c n bytes own =
    let e : zero + c ≡ c = omega arith in
    let e' : n ≡ n + zero = omega arith in
    ap (λ x. laid_from f x n bytes) e ∙ ap (λ x. laid_from f c x bytes) e'
laid_from-run f (suc k) c n bytes own =
    let e : suc n + k ≡ n + suc k = omega arith in
    let first : f n ≡ take 512 bytes = ap f (let z : n ≡ n + 0 = omega arith in z) ∙ own 0 (omega arith) in
    let six : 512 + 512 * k ≡ 512 * suc k = omega arith in
    laid_from-suc f (suc k + c) (k + c) n bytes (omega arith)
    ∙ ap (λ l. l ++ laid_from f (k + c) (suc n) (drop 512 bytes)) first
    ∙ ap (λ l. take 512 bytes ++ l) (laid_from-run f k c (suc n) (drop 512 bytes)
    (λ j h. let z : suc n + j ≡ n + suc j = omega arith in ap f z ∙ own (suc j) (omega arith) ∙ ap (take 512) (sym (drop-suc_blocks j bytes))))
    ∙ sym (append_assoc (take 512 bytes) (take (512 * k) (drop 512 bytes)) _)
    ∙ ap (λ l. l ++ laid_from f c (suc n + k) (drop (512 * k) (drop 512 bytes))) (sym (take-add 512 (512 * k) bytes) ∙ ap (λ x. take x bytes) six)
    ∙ ap (λ x. take (512 * suc k) bytes ++ laid_from f c x (drop (512 * k) (drop 512 bytes))) e
    ∙ ap (λ l. take (512 * suc k) bytes ++ laid_from f c (n + suc k) l) (drop-suc_blocks k bytes)

laid_from-laid_from : (h f : ℕ → List ℕ) (m c n : ℕ) (bytes : List ℕ) → AreBlocks f m → n + c ≤ m → laid_from h c n (laid_from f c n bytes) ≡ laid_from h c n bytes
unfolding laid_from
laid_from-laid_from h f m zero n bytes whole within = refl
laid_from-laid_from h f m (suc c) n bytes whole within =
    ap (λ l. h n ++ laid_from h c (suc n) l) (drop_at (f n) (laid_from f c (suc n) (drop 512 bytes)) 512 (whole n (omega arith)))
    ∙ ap (λ l. h n ++ l) (laid_from-laid_from h f m c (suc n) (drop 512 bytes) whole (omega arith))

pub length-laid : (f : ℕ → List ℕ) (bytes : List ℕ) → AreBlocks f (block_count bytes) → length (laid f bytes) ≡ length bytes
unfolding laid
length-laid f bytes whole = length-laid_from f (block_count bytes) (block_count bytes) 0 bytes whole (omega arith) (omega arith)

pub block_count-laid : (f : ℕ → List ℕ) (bytes : List ℕ) → AreBlocks f (block_count bytes) → block_count (laid f bytes) ≡ block_count bytes
block_count-laid f bytes whole = ap (λ n. n / 512) (length-laid f bytes whole)

-- what lies from block n on
pub drop-laid : (f : ℕ → List ℕ) (n : ℕ) (bytes : List ℕ) → AreBlocks f (block_count bytes) → n ≤ block_count bytes
    → drop (512 * n) (laid f bytes) ≡ laid_from f (block_count bytes - n) n (drop (512 * n) bytes)
unfolding laid
drop-laid f n bytes whole within =
    let m = block_count bytes in
    let e : m ≡ n + (m - n) = omega arith in
    let z : 0 + n ≡ n = omega arith in
    ap (λ x. drop (512 * n) (laid_from f x 0 bytes)) e
    ∙ drop-laid_from f m n (m - n) 0 bytes whole (omega arith)
    ∙ ap (λ x. laid_from f (m - n) x (drop (512 * n) bytes)) z

pub block_at-laid : (f : ℕ → List ℕ) (n : ℕ) (bytes : List ℕ) → AreBlocks f (block_count bytes) → n < block_count bytes → block_at (laid f bytes) n ≡ f n
block_at-laid f n bytes whole within =
    let m = block_count bytes in
    ap (take 512) (drop-laid f n bytes whole (omega arith) ∙ laid_from-suc f (m - n) (m - suc n) n _ (omega arith))
    ∙ take_at (f n) _ 512 (whole n within)

pub laid-own : (bytes : List ℕ) → laid (block_at bytes) bytes ≡ bytes
unfolding laid
laid-own bytes =
    let m = block_count bytes in
    let e : m ≡ m + 0 = omega arith in
    ap (λ x. laid_from (block_at bytes) x 0 bytes) e
    ∙ laid_from-run (block_at bytes) m 0 0 bytes (λ j h. let z : 0 + j ≡ j = omega arith in ap (block_at bytes) z)
    ∙ ap (λ l. take (512 * m) bytes ++ l) (laid_from-zero (block_at bytes) 0 (0 + m) _ refl)
    ∙ take-append-drop (512 * m) bytes

pub AreBlocks-over : (g : ℕ → Option (List ℕ)) (f : ℕ → List ℕ) (m : ℕ) → ((n : ℕ) (b : List ℕ) → g n ≡ Some b → length b ≡ 512) → AreBlocks f m → AreBlocks (over g f) m
AreBlocks-over g f m whole below n within = by (g n) refl
  where
    by : (o : Option (List ℕ)) → g n ≡ o → length (unwrap_or o (f n)) ≡ 512
    by None e = below n within
    by (Some b) e = whole n b e

-- what is behind the last block stays
pub block_at-laid_beyond : (f : ℕ → List ℕ) (n : ℕ) (bytes : List ℕ) → AreBlocks f (block_count bytes) → block_count bytes ≤ n → block_at (laid f bytes) n ≡ block_at bytes n
block_at-laid_beyond f n bytes whole beyond =
    let m = block_count bytes in
    let e : 512 * m + 512 * (n - m) ≡ 512 * n = omega arith in
    let split = λ (l : List ℕ). drop-drop (512 * (n - m)) (512 * m) l ∙ ap (λ x. drop x l) e in
    ap (take 512) (sym (split (laid f bytes)) ∙ ap (drop (512 * (n - m))) (drop-laid f m bytes whole (omega arith) ∙ laid_from-zero f (m - m) m _ (omega arith)) ∙ split bytes)

module _ (g : Changes) (bytes : List ℕ) (within : AreWithin g (block_count bytes)) where
  pub AreBlocks-within : AreBlocks (over g (block_at bytes)) (block_count bytes)
  AreBlocks-within = AreBlocks-over g (block_at bytes) (block_count bytes) (λ n b e. (within n b e).1) (length-block_at bytes)

  -- the blocks of what was laid are those that were laid
  pub block_at-laid_over : block_at (laid_over g bytes) ≡ over g (block_at bytes)
  block_at-laid_over i n = each n i
    where
      none : (n : ℕ) → block_count bytes ≤ n → (o : Option (List ℕ)) → g n ≡ o → block_at bytes n ≡ unwrap_or o (block_at bytes n)
      none n beyond None e = refl
      none n beyond (Some b) e = absurd (let w : n < block_count bytes = (within n b e).0 in omega arith)

      each : (n : ℕ) → block_at (laid_over g bytes) n ≡ over g (block_at bytes) n
      each n = ⊎_elim
          (λ below. block_at-laid (over g (block_at bytes)) n bytes AreBlocks-within below)
          (λ beyond. block_at-laid_beyond (over g (block_at bytes)) n bytes AreBlocks-within beyond ∙ none n beyond (g n) refl)
          (cases_lt n (block_count bytes))

-- where there are none, nothing changes
pub laid_over-nothing : (g : Changes) (bytes : List ℕ) → ((n : ℕ) → g n ≡ None) → laid_over g bytes ≡ bytes
laid_over-nothing g bytes none = ap (λ f. laid f bytes) (λ i n. ap (λ o. unwrap_or o (block_at bytes n)) (none n) i) ∙ laid-own bytes

-- laid twice, what is laid last is seen
pub laid-laid : (h f : ℕ → List ℕ) (bytes : List ℕ) → AreBlocks f (block_count bytes) → laid h (laid f bytes) ≡ laid h bytes
unfolding laid
laid-laid h f bytes whole =
    ap (λ n. laid_from h n 0 (laid f bytes)) (block_count-laid f bytes whole)
    ∙ laid_from-laid_from h f (block_count bytes) (block_count bytes) 0 bytes whole (omega arith)
