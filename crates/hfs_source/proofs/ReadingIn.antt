-- What blocks that were read together make of those that were read before.
use Rattle.std.proofs.Common.{◌≡◌, ℕ, ◌+◌, ◌-◌, ◌*◌, ◌<◌, ◌≤◌, inl, inr, List, ◌++◌, length, take, drop, Option, Some, None, IsSome, refl, sym, ap, ◌∙◌, subst, arith, true≢false, ⊎_elim, length-take, length-drop}
use Rattle.std.specs.List.{range_with_len}
use Rattle.std.proofs.lemmas.List.{take-append-le, drop-append-le, take-take, drop-take}
use borrow.Rule.Slice.PartMut.{put_mid, post_of}
use Rattle.hfs_blocks.specs.Blocks.{block_at}
use Rattle.hfs_blocks.specs.Layers.{Numbered, changes, KeepsWithin}
use Rattle.hfs_source.specs.Sparse.{HasEach, HasGrown, HoldsFrom, StaysOf}
use Rattle.hfs_source.specs.Held.{blocks_by, ArePlacedBelow, HasNone, HasSame, HoldsBlocks, IsPutIn, PutsInAll, PutsInOnly}
use Rattle.hfs_source.proofs.BlockBytes.{whole-block, inner-block, from-block}
use Rattle.hfs_source.proofs.Fetched.{each-range}
use Rattle.hfs_source.proofs.PuttingIn.{changes-by, other}

-- ---- the same blocks

pub same-by : (bytes later : List ℕ) (places : List (ℕ × Option ℕ)) (count : ℕ) → ArePlacedBelow places count
    → ((k : ℕ) → k < count → block_at later k ≡ block_at bytes k) → HasSame (blocks_by bytes places) (blocks_by later places)
same-by bytes later places count placed same = λ i n. (changes-by later places n ∙ other bytes later places places count placed same n ∙ sym (changes-by bytes places n)) i

module _ (old new : Numbered) (same : HasSame old new) where
  at : (n : ℕ) → changes new n ≡ changes old n
  at n = λ i. same i n

  pub same-grown : HasGrown old new
  same-grown n some = at n

  pub same-stays : (known : Option (List ℕ)) → StaysOf known old new
  same-stays None = tt
  same-stays (Some image) = λ of n block found. of n block (sym (at n) ∙ found)

  pub same-within : (total : ℕ) → KeepsWithin old new total
  same-within total within n b found = within n b (sym (at n) ∙ found)

  pub same-none : (first count : ℕ) → HasNone first count old → HasNone first count new
  same-none first count none k lt = at (first + k) ∙ none k lt

-- ---- the bytes that were cut, or of which some were read behind others

cut-block : (bytes : List ℕ) (n k : ℕ) → k < n → block_at (take (n * 512) bytes) k ≡ block_at bytes k
cut-block bytes n k lt =
    let split : n * 512 ≡ 512 * k + (512 + (n * 512 - 512 * k - 512)) = omega (arith, lt) in
    ap (λ m. take 512 (drop (512 * k) (take m bytes))) split ∙ ap (take 512) (drop-take (512 * k) (512 + (n * 512 - 512 * k - 512)) bytes)
    ∙ take-take 512 (512 + (n * 512 - 512 * k - 512)) (drop (512 * k) bytes) (omega arith)

pub trimmed-block : (bytes later : List ℕ) (n : ℕ) → later ≡ take (n * 512) bytes → (k : ℕ) → k < n → block_at later k ≡ block_at bytes k
trimmed-block bytes later n e k lt = ap (λ l. block_at l k) e ∙ cut-block bytes n k lt

-- what stands before the place is as it was, where the bytes were filled up, and some were laid behind it
pub kept-block : (bytes later rest : List ℕ) (n : ℕ) → 512 * n ≤ length bytes → later ≡ take (n * 512) bytes ++ rest → (k : ℕ) → k < n
    → block_at later k ≡ block_at bytes k
kept-block bytes later rest n le e k lt =
    ap (λ l. block_at l k) e
    ∙ ap (take 512) (drop-append-le (512 * k) (take (n * 512) bytes) rest (omega (arith, le, lt, length-take (n * 512) bytes)))
    ∙ take-append-le 512 (drop (512 * k) (take (n * 512) bytes)) rest (omega (arith, le, lt, length-take (n * 512) bytes, length-drop (512 * k) (take (n * 512) bytes)))
    ∙ cut-block bytes n k lt

-- bytes that were filled up or cut begin as they did
begins : (bytes base zeros : List ℕ) (n count : ℕ) → 512 * n ≤ length bytes → base ≡ take (n * 512 + count * 512) bytes ++ zeros
    → take (n * 512) base ≡ take (n * 512) bytes
begins bytes base zeros n count le e =
    ap (take (n * 512)) e
    ∙ take-append-le (n * 512) (take (n * 512 + count * 512) bytes) zeros
    (omega (arith, le, length-take (n * 512 + count * 512) bytes))
    ∙ take-take (n * 512) (n * 512 + count * 512) bytes (omega arith)

module _ (bytes base zeros later into : List ℕ) (n count : ℕ) (le : 512 * n ≤ length bytes) (filled : base ≡ take (n * 512 + count * 512) bytes ++ zeros)
    (laid : later ≡ put_mid (n * 512) (n * 512 + count * 512 - n * 512) base into) where
  beside : later ≡ take (n * 512) bytes ++ (into ++ post_of (n * 512) (n * 512 + count * 512 - n * 512) base)
  beside = laid ∙ ap (λ l. l ++ (into ++ post_of (n * 512) (n * 512 + count * 512 - n * 512) base)) (begins bytes base zeros n count le filled)

  pub filled-kept : (k : ℕ) → k < n → block_at later k ≡ block_at bytes k
  filled-kept = kept-block bytes later (into ++ post_of (n * 512) (n * 512 + count * 512 - n * 512) base) n le beside

  pub filled-holds : (known : Option (List ℕ)) (first : ℕ) → length into ≡ count * 512 → HoldsFrom known (512 * first) into
      → HoldsBlocks known first count n later
  filled-holds None first long held = tt
  filled-holds (Some image) first long held = λ k lt.
      ap (λ l. block_at l (n + k)) beside
      ∙ inner-block (take (n * 512) bytes) into (post_of (n * 512) (n * 512 + count * 512 - n * 512) base) n k
      (omega (arith, le, length-take (n * 512) bytes)) (omega (arith, lt, long))
      ∙ from-block image into first k held (omega (arith, lt, long))

-- ---- the blocks that were put in

module _ (first count start : ℕ) (raw : List ℕ) (old new : Numbered) (only : PutsInOnly first count start raw old new) where
  pub put-grown-all : HasNone first count old → HasGrown old new
  put-grown-all none n some = ⊎_elim
      (λ (same : changes new n ≡ changes old n). same)
      (λ (put : IsPutIn first count start raw new n).
      let gone : changes old n ≡ None = ap (changes old) put.number ∙ none put.k put.few in
      absurd (true≢false (sym (subst (λ o. IsSome o) gone some))))
      (only n)

  pub put-stays-all : (known : Option (List ℕ)) → HoldsBlocks known first count start raw → StaysOf known old new
  put-stays-all None holds = tt
  put-stays-all (Some image) holds = λ of n block found. ⊎_elim
      (λ (same : changes new n ≡ changes old n). of n block (sym same ∙ found))
      (λ (put : IsPutIn first count start raw new n).
      let both : Some block ≡ Some (block_at raw (start + put.k)) = sym found ∙ put.block in
      let own : block ≡ block_at raw (start + put.k) = cc in
      own ∙ holds put.k put.few ∙ ap (block_at image) (sym put.number))
      (only n)

  pub put-within-all : 512 * (start + count) ≤ length raw → (total : ℕ) → first + count ≤ total → KeepsWithin old new total
  put-within-all there total le within n b found = ⊎_elim
      (λ (same : changes new n ≡ changes old n). within n b (sym same ∙ found))
      (λ (put : IsPutIn first count start raw new n).
      let both : Some b ≡ Some (block_at raw (start + put.k)) = sym found ∙ put.block in
      let own : b ≡ block_at raw (start + put.k) = cc in
      ((let low : n < total = omega (arith, le, put.few, put.number) in low), ap length own ∙ whole-block raw (start + put.k) (omega (arith, there, put.few))))
      (only n)

pub put-has-all : (first count start : ℕ) (raw : List ℕ) (new : Numbered) → PutsInAll first count start raw new → HasEach new (range_with_len first count)
put-has-all first count start raw new all =
    each-range (λ n. IsSome (changes new n)) first count (λ k lt. subst (λ o. IsSome o) (sym (all k lt)) refl)

-- ---- and behind them what was read and isn't held was cut off

module _ (first count start : ℕ) (raw : List ℕ) (old read put new : Numbered) (before : HasSame old read) (only : PutsInOnly first count start raw read put)
    (behind : HasSame put new) where
  through : PutsInOnly first count start raw old new
  through n = ⊎_elim
      (λ (same : changes put n ≡ changes read n). inl (at put new behind n ∙ same ∙ at old read before n))
      (λ (own : IsPutIn first count start raw put n).
      inr (record { k = own.k; few = own.few; number = own.number; block = at put new behind n ∙ own.block }))
      (only n)

  pub read-grown : HasNone first count old → HasGrown old new
  read-grown = put-grown-all first count start raw old new through

  pub read-stays : (known : Option (List ℕ)) → HoldsBlocks known first count start raw → StaysOf known old new
  read-stays = put-stays-all first count start raw old new through

  pub read-within : 512 * (start + count) ≤ length raw → (total : ℕ) → first + count ≤ total → KeepsWithin old new total
  read-within = put-within-all first count start raw old new through

pub read-has : (first count start : ℕ) (raw : List ℕ) (put new : Numbered) → PutsInAll first count start raw put → HasSame put new
    → HasEach new (range_with_len first count)
read-has first count start raw put new all behind =
    put-has-all first count start raw new (λ k lt. at put new behind (first + k) ∙ all k lt)
