-- A fork whose bytes come in a row: those that have come, with zeros behind them.
use Rattle.std.proofs.Common.{◌≡◌, ⊎_elim, ℕ, suc, ◌+◌, ◌-◌, ◌<◌, ◌≤◌, true, false, ltb, leb, true≢false, List, [], ◌++◌, length, take, drop, replicate, sym, ◌∙◌, ap, arith, append-nil, append_assoc, length-append, length-drop, length-take}
use Rattle.std.specs.Prelude.{max}
use Rattle.std.proofs.lemmas.List.{take_all, take_at, drop_at, drop-drop, drop-take, take-take, take-append-drop, drop-replicate, length-replicate}
use Rattle.std.proofs.lemmas.Bool.Decides.{leb_tells}
use Rattle.hfs_model.specs.Forks.{resized, laid_over, written}
use Rattle.hfs_model.proofs.ForkLemmas.{resized-same}

-- the first n bytes, and zeros in the place of the others
abbrev pub partial : ℕ → List ℕ → List ℕ
partial n bytes = take n bytes ++ replicate (length bytes - n) 0

pub partial-none : (bytes : List ℕ) → partial 0 bytes ≡ replicate (length bytes) 0
partial-none bytes = let all : length bytes - 0 ≡ length bytes = omega arith in ap (λ (n : ℕ). replicate n 0) all

pub partial-all : (n : ℕ) (bytes : List ℕ) → length bytes ≤ n → partial n bytes ≡ bytes
partial-all n bytes whole =
    let none : length bytes - n ≡ 0 = omega (arith, whole) in
    (λ i. take_all n bytes whole i ++ replicate (none i) 0) ∙ append-nil bytes

pub length-partial : (n : ℕ) (bytes : List ℕ) → length (partial n bytes) ≡ length bytes
length-partial n bytes =
    omega (arith, length-append (take n bytes) (replicate (length bytes - n) 0), length-take n bytes, length-replicate {A = ℕ} (length bytes - n) 0)

-- ---- the next bytes are laid over the zeros

take-more : (n m : ℕ) (bytes : List ℕ) → take n bytes ++ take m (drop n bytes) ≡ take (n + m) bytes
take-more n m bytes =
    let within : n ≤ n + m = omega arith in
    (λ i. sym (take-take n (n + m) bytes within) i ++ sym (drop-take n m bytes) i) ∙ take-append-drop n (take (n + m) bytes)

-- behind as many more bytes there are as many zeros fewer
drop-partial : (n m : ℕ) (bytes : List ℕ) → n + m ≤ length bytes → drop (n + m) (partial n bytes) ≡ replicate (length bytes - (n + m)) 0
drop-partial n m bytes within =
    let front : length (take n bytes) ≡ n = omega (arith, within, length-take n bytes) in
    let left : (length bytes - n) - m ≡ length bytes - (n + m) = omega arith in
    sym (drop-drop m n (partial n bytes)) ∙ ap (drop m) (drop_at (take n bytes) (replicate (length bytes - n) 0) n front)
    ∙ drop-replicate m (length bytes - n) 0 ∙ ap (λ (k : ℕ). replicate k 0) left

pub partial-more : (n m : ℕ) (bytes : List ℕ) → n + m ≤ length bytes → laid_over n (take m (drop n bytes)) (partial n bytes) ≡ partial (n + m) bytes
partial-more n m bytes within =
    let front : length (take n bytes) ≡ n = omega (arith, within, length-take n bytes) in
    let long : length (take m (drop n bytes)) ≡ m = omega (arith, within, length-take m (drop n bytes), length-drop n bytes) in
    (λ i. take_at (take n bytes) (replicate (length bytes - n) 0) n front i
    ++ (take m (drop n bytes) ++ (ap (λ (k : ℕ). drop (n + k) (partial n bytes)) long ∙ drop-partial n m bytes within) i))
    ∙ sym (append_assoc (take n bytes) (take m (drop n bytes)) (replicate (length bytes - (n + m)) 0))
    ∙ ap (λ (l : List ℕ). l ++ replicate (length bytes - (n + m)) 0) (take-more n m bytes)

-- ---- bytes written within a fork

pub written-within : (offset : ℕ) (new old : List ℕ) → offset + length new ≤ length old → written offset new old ≡ laid_over offset new old
unfolding written
written-within offset new old within =
    let same : max (length old) (offset + length new) ≡ length old = omega (arith, within) in
    ap (λ (n : ℕ). laid_over offset new (resized n old)) same ∙ ap (λ (l : List ℕ). laid_over offset new l) (resized-same old)

-- none of an empty fork is kept
pub resized-empty : (n : ℕ) → resized n [] ≡ replicate n 0
unfolding resized
resized-empty n =
    let all : n - 0 ≡ n = omega arith in
    let none : 0 ≤ n = omega arith in
    λ i. take_all {A = ℕ} n [] none i ++ replicate (all i) 0

-- ---- tests of lengths

pub is-above : (a b : ℕ) → a ≤ b → ltb b a ≡ false
is-above a b most = ⊎_elim
    (λ (t : (ltb b a ≡ true) × (suc b ≤ a)). absurd (omega (arith, t.1)))
    (λ (t : (ltb b a ≡ false) × (a < suc b)). t.0)
    (leb_tells (suc b) a)

pub at-most : (a b : ℕ) → ltb b a ≡ false → a ≤ b
at-most a b not = ⊎_elim
    (λ (t : (ltb b a ≡ true) × (suc b ≤ a)). absurd (true≢false (sym t.0 ∙ not)))
    (λ (t : (ltb b a ≡ false) × (a < suc b)). omega (arith, t.1))
    (leb_tells (suc b) a)

pub is-within : (a b : ℕ) → leb a b ≡ true → a ≤ b
is-within a b t = ⊎_elim
    (λ (tells : (leb a b ≡ true) × (a ≤ b)). tells.1)
    (λ (tells : (leb a b ≡ false) × (b < a)). absurd (true≢false (sym t ∙ tells.0)))
    (leb_tells a b)

pub is-past : (a b : ℕ) → leb a b ≡ false → b < a
is-past a b not = ⊎_elim
    (λ (tells : (leb a b ≡ true) × (a ≤ b)). absurd (true≢false (sym tells.0 ∙ not)))
    (λ (tells : (leb a b ≡ false) × (b < a)). tells.1)
    (leb_tells a b)
