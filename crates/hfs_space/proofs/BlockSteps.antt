-- Whole blocks of a file that lie in one run, written at once.
use Rattle.std.proofs.Common.{◌≡◌, ℕ, zero, suc, ◌+◌, ◌-◌, ◌*◌, ◌/◌, ◌%◌, ◌<◌, ◌≤◌, ◌⊎◌, ⊎_elim, List, [], length, get_or, take, drop, Some, unwrap_or, sym, ap, ◌∙◌, subst, arith}
use Rattle.std.specs.Simd.{first_chunks}
use Rattle.std.proofs.lemmas.Bool.{cases_lt}
use Rattle.std.proofs.lemmas.List.{get_or-take, get_or-drop, length-drop, length-take-le}
use Rattle.hfs_blocks.specs.Layers.{Changes, over, AreWithin}
use Rattle.hfs_blocks.specs.Tables.{AreBlocks, HasLaid}
use Rattle.hfs_space.specs.Written.{KeepsBeside, HasPart, HasBlocks, AreDifferent}
use Rattle.hfs_space.proofs.PartSteps.{different-apart, HasPart-next}

-- ---- pieces of the same length

chunk-at : (w c : ℕ) (xs : List ℕ) (q k : ℕ) → q < c → k < w → get_or (get_or (first_chunks w c xs) q []) k 0 ≡ get_or xs (w * q + k) 0
chunk-at w zero xs q k lt small = absurd (omega (arith, lt))
chunk-at w (suc c) xs zero k lt small = get_or-take w xs k 0 small ∙ (let e : k ≡ w * 0 + k = omega arith in ap (λ i. get_or xs i 0) e)
chunk-at w (suc c) xs (suc q) k lt small =
    chunk-at w c (drop w xs) q k (omega (arith, lt)) small ∙ get_or-drop w xs (w * q + k) 0 ∙ ap (λ i. get_or xs i 0) (further w q k)
  where
    further : (w q k : ℕ) → w + (w * q + k) ≡ w * suc q + k
    further w q k = omega (arith, mul-suc-is w q)
      where
        mul-suc-is : (w q : ℕ) → w * suc q ≡ w + w * q
        mul-suc-is w q = search arith

-- each of the pieces is as long
chunk-long : (w c : ℕ) (xs : List ℕ) (q : ℕ) → q < c → w * c ≤ length xs → length (get_or (first_chunks w c xs) q []) ≡ w
chunk-long w zero xs q lt fits = absurd (omega (arith, lt))
chunk-long w (suc c) xs zero lt fits = length-take-le w xs (first w c (length xs) fits)
  where
    first : (w c n : ℕ) → w * suc c ≤ n → w ≤ n
    first w c n le = search arith
chunk-long w (suc c) xs (suc q) lt fits = chunk-long w c (drop w xs) q (omega (arith, lt)) (rest w c (length xs) (length (drop w xs)) fits (length-drop w xs))
  where
    rest : (w c n m : ℕ) → w * suc c ≤ n → m ≡ n - w → w * c ≤ m
    rest w c n m le is = search arith

pub pieces-long : (bytes : List ℕ) (run : List (List ℕ)) → run ≡ first_chunks 512 (length bytes / 512) bytes → length run ≡ length bytes / 512 → AreBlocks run
pieces-long bytes run are long i lt = ap (λ (l : List (List ℕ)). length (get_or l i [])) are ∙ chunk-long 512 (length bytes / 512) bytes i (omega (arith, lt, long)) (omega arith)

-- ---- the blocks that were put

module _ (first : ℕ) (bytes : List ℕ) (run : List (List ℕ)) (old new : Changes) (below : ℕ → List ℕ) (are : run ≡ first_chunks 512 (length bytes / 512) bytes)
    (long : length run ≡ length bytes / 512) (whole : length bytes % 512 ≡ 0) (laid : HasLaid first (length run) run old new) where
  pub blocks-put : HasBlocks first bytes (over old below) (over new below)
  blocks-put = record {
    given = λ i lt.
        let q = i / 512 in
        let few : q < length bytes / 512 = omega (arith, lt, whole) in
        ap (λ o. get_or (unwrap_or o (below (first + q))) (i % 512) 0) (laid.laid q (omega (arith, few, long)))
        ∙ ap (λ (l : List (List ℕ)). get_or (get_or l q []) (i % 512) 0) are
        ∙ chunk-at 512 (length bytes / 512) bytes q (i % 512) few (omega arith)
        ∙ ap (λ j. get_or bytes j 0) (let e : 512 * (i / 512) + i % 512 ≡ i = omega arith in e);
    before = λ n lt. ap (λ o. unwrap_or o (below n)) (laid.before n lt);
    behind = λ n le. ap (λ o. unwrap_or o (below n)) (laid.behind n (omega (arith, le, long)));
  }

  pub within-put : (total : ℕ) → first + length bytes / 512 ≤ total → AreWithin old total → AreWithin new total
  within-put total low within n b is = ⊎_elim
      (λ (lt : n < first). within n b (sym (laid.before n lt) ∙ is))
      (λ (ge : first ≤ n). ⊎_elim
      (λ (lt : n < first + length run).
      let i = n - first in
      let few : i < length run = omega (arith, ge, lt) in
      let same : first + i ≡ n = omega (arith, ge) in
      let e : Some (get_or run i []) ≡ Some b = sym (laid.laid i few) ∙ ap new same ∙ is in
      let block : get_or run i [] ≡ b = cc in
      (omega (arith, lt, long, low), sym (ap (λ (l : List ℕ). length l) block) ∙ pieces-long bytes run are long i few))
      (λ (le : first + length run ≤ n). within n b (sym (laid.behind n le) ∙ is))
      (cases_lt n (first + length run)))
      (cases_lt n first)

-- ---- blocks of a file

module _ (ns : List ℕ) (at first count : ℕ) (part : List ℕ) (old new : ℕ → List ℕ) (different : AreDifferent ns) (begins : at % 512 ≡ 0) (long : length part ≡ 512 * count)
    (inside : at / 512 + count ≤ length ns) (numbers : (i : ℕ) → i < count → get_or ns (at / 512 + i) 0 ≡ first + i) (put : HasBlocks first part old new) where
  -- a block beside the run is as it was
  apart : (n : ℕ) → ((i : ℕ) → i < count → n ≡ first + i → ⊥) → new n ≡ old n
  apart n none = ⊎_elim
      (λ (lt : n < first). put.before n lt)
      (λ (ge : first ≤ n). ⊎_elim
      (λ (lt : n < first + count). absurd (none (n - first) (omega (arith, ge, lt)) (let e : n ≡ first + (n - first) = omega (arith, ge) in e)))
      (λ (le : first + count ≤ n). put.behind n (omega (arith, le, long)))
      (cases_lt n (first + count)))
      (cases_lt n first)

  pub HasPart-blocks : HasPart ns at part old new
  HasPart-blocks = record {
    given = λ j lt.
        let q : (at + j) / 512 ≡ at / 512 + j / 512 = omega (arith, begins) in
        let r : (at + j) % 512 ≡ j % 512 = omega (arith, begins) in
        ap (λ i. get_or (new (get_or ns i 0)) ((at + j) % 512) 0) q
        ∙ ap (λ n. get_or (new n) ((at + j) % 512) 0) (numbers (j / 512) (omega (arith, lt, long)))
        ∙ ap (λ k. get_or (new (first + j / 512)) k 0) r ∙ put.given j lt;
    others = λ j within beside.
        ap (λ b. get_or b (j % 512) 0)
        (apart (get_or ns (j / 512) 0)
        (λ i lt same.
        different-apart ns different (j / 512) (at / 512 + i) (omega (arith, within)) (omega (arith, lt, inside))
        (λ e. ⊎_elim (λ (low : j < at). omega (arith, low, e, begins)) (λ (high : at + length part ≤ j). omega (arith, high, e, lt, long, begins)) beside)
        (same ∙ sym (numbers i lt))));
  }

  pub KeepsBeside-blocks : (most : ℕ) → length part ≤ most → KeepsBeside ns at most old new
  KeepsBeside-blocks most le k none =
      apart k
      (λ i lt same.
      none (at / 512 + i) (record { some = omega (arith, lt, long, le); starts = omega (arith, begins); ends = omega (arith, lt, long, le, begins) }) (omega (arith, lt, inside)) (numbers i lt ∙ sym same))

pub KeepsBeside-wider : (ns : List ℕ) (at few many : ℕ) (old new : ℕ → List ℕ) → few ≤ many → KeepsBeside ns at few old new → KeepsBeside ns at many old new
KeepsBeside-wider ns at few many old new le keeps k none =
    keeps k (λ i has lt. none i (record { some = (let s = has.some in omega (arith, s, le)); starts = has.starts; ends = (let e = has.ends in omega (arith, e, le)) }) lt)

-- ---- the bytes so far, and then those up to some end

pub some-long : (bytes : List ℕ) (done more : ℕ) → done + more ≤ length bytes → length (take (done + more - done) (drop done bytes)) ≡ more
some-long bytes done more fits =
    length-take-le (done + more - done) (drop done bytes) (omega (arith, length-drop done bytes, fits)) ∙ (let e : done + more - done ≡ more = omega arith in e)

pub HasPart-on : (ns : List ℕ) (offset : ℕ) (bytes : List ℕ) (done end : ℕ) (old mid new : ℕ → List ℕ) → done ≤ end → end ≤ length bytes → offset + length bytes ≤ 512 * length ns
    → HasPart ns offset (take done bytes) old mid → HasPart ns (offset + done) (take (end - done) (drop done bytes)) mid new → HasPart ns offset (take end bytes) old new
HasPart-on ns offset bytes done end old mid new low high fits first next =
    let sum : done + (end - done) ≡ end = omega (arith, low) in
    let same : end - done ≡ done + (end - done) - done = omega arith in
    subst (λ n. HasPart ns offset (take n bytes) old new) sum
    (HasPart-next ns offset bytes done (end - done) old mid new (omega (arith, low, high)) fits first
    (subst (λ n. HasPart ns (offset + done) (take n (drop done bytes)) mid new) same next))
