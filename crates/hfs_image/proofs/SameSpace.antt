-- What is counted in the same bitmap is the same.
use Rattle.std.proofs.Common.{◌≡◌, ℕ, zero, suc, ◌+◌, ◌/◌, ◌%◌, ◌<◌, Bool, List, [], ◌∷◌, ◌++◌, length, Some, None, refl, sym, ap, ◌∙◌, arith, cond}
use Rattle.std.specs.Prelude.{◌==◌, ◌||◌, ◌&&◌, not, if◌then◌else◌, count_by}
use Rattle.std.specs.List.{range_with_len}
use Rattle.std.specs.Option.{option_or}
use Rattle.std.proofs.lemmas.List.Sums.{sum_by-cons}
use Rattle.hfs_fields.specs.declared.mdb.Mdb.{Mdb}
use Rattle.hfs_fields.specs.Each.{Each}
use Rattle.hfs_fields.specs.First.{first_failing}
use Rattle.hfs_source.proofs.Fetched.{range-at}
use Rattle.hfs_space.specs.Bitmap.{bitmap_len, is_marked, is_used, count_below, clear_count}
use Rattle.hfs_space.specs.Faults.{block_fault, free_fault, space_fault, stray_count}
use Rattle.hfs_space.specs.Owners.{owners, is_block_sound, is_stray_block}
use Rattle.hfs_check.specs.Parts.{Blocks}
use Rattle.hfs_image.specs.Needed.{AgreeOn}

-- ---- numbers in a row

each-range : (P : ℕ → Type 0) (a n : ℕ) → ((k : ℕ) → k < a + n → P k) → Each P (range_with_len a n)
each-range P a zero f = tt
each-range P a (suc n) f = (f a (omega arith), each-range P (a + 1) n (λ k lt. f k (omega arith)))

-- ---- tests that answer the same

module _ (p q : ℕ → Bool) where
  abbrev Same : ℕ → Type 0
  Same n = p n ≡ q n

  count-same : (ns : List ℕ) → Each Same ns → count_by p ns ≡ count_by q ns
  count-same [] h = refl
  count-same (n ∷ ns) h =
      sum_by-cons (λ (k : ℕ). cond (p k) 1 0) n ns ∙ (λ i. cond (h.0 i) 1 0 + count-same ns h.1 i)
      ∙ sym (sum_by-cons (λ (k : ℕ). cond (q k) 1 0) n ns)

  first-same : (before ns : List ℕ) → Each Same ns → first_failing (λ _ n. p n) before ns ≡ first_failing (λ _ n. q n) before ns
  first-same before [] h = refl
  first-same before (n ∷ ns) h = λ i. if h.0 i then first-same (before ++ n ∷ []) ns h.1 i else Some (length before)

  below-same : (n : ℕ) → ((k : ℕ) → k < n → Same k) → count_below p n ≡ count_below q n
  below-same n f = count-same (range_with_len 0 n) (each-range Same 0 n (λ k lt. f k (omega (arith, lt))))

-- ---- the bitmap

module _ (old new : Blocks) (mdb : Mdb) (h : AgreeOn (range_with_len mdb.bitmap_start (bitmap_len mdb.allocation_blocks)) old new) where
  pub bit-same : (k : ℕ) → k < mdb.allocation_blocks → is_used new mdb.bitmap_start k ≡ is_used old mdb.bitmap_start k
  bit-same k lt =
      ap (λ (block : List ℕ). is_marked block (k % 4096))
      (range-at (λ n. new n ≡ old n) mdb.bitmap_start (bitmap_len mdb.allocation_blocks) h (k / 4096) (omega arith))

  pub clear-same : clear_count new mdb.bitmap_start mdb.allocation_blocks ≡ clear_count old mdb.bitmap_start mdb.allocation_blocks
  clear-same = below-same (λ k. not (is_used new mdb.bitmap_start k)) (λ k. not (is_used old mdb.bitmap_start k)) mdb.allocation_blocks (λ k lt. ap not (bit-same k lt))

  module _ (owned : List ℕ) where
    sound-same : (k : ℕ) → k < mdb.allocation_blocks → is_block_sound new mdb owned k ≡ is_block_sound old mdb owned k
    unfolding is_block_sound
    sound-same k lt = ap (λ (used : Bool). (owners owned k == 0) || ((owners owned k == 1) && used)) (bit-same k lt)

    stray-same : (k : ℕ) → k < mdb.allocation_blocks → is_stray_block new mdb owned k ≡ is_stray_block old mdb owned k
    unfolding is_stray_block
    stray-same k lt = ap (λ (used : Bool). (owners owned k == 0) && used) (bit-same k lt)

    pub strays-same : stray_count new mdb owned ≡ stray_count old mdb owned
    strays-same = below-same (is_stray_block new mdb owned) (is_stray_block old mdb owned) mdb.allocation_blocks stray-same

    block_fault-same : block_fault new mdb owned ≡ block_fault old mdb owned
    block_fault-same = first-same (is_block_sound new mdb owned) (is_block_sound old mdb owned) [] (range_with_len 0 mdb.allocation_blocks)
        (each-range (λ n. is_block_sound new mdb owned n ≡ is_block_sound old mdb owned n) 0 mdb.allocation_blocks
        (λ k lt. sound-same k (omega (arith, lt))))

    free_fault-same : free_fault new mdb ≡ free_fault old mdb
    free_fault-same = ap (λ (clear : ℕ). if mdb.free_blocks == clear then None else Some mdb.allocation_blocks) clear-same

    pub space_fault-same : space_fault new mdb owned ≡ space_fault old mdb owned
    unfolding space_fault
    space_fault-same = λ i. option_or (block_fault-same i) (free_fault-same i)
