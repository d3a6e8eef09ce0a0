-- The free blocks of a volume.
use Rattle.std.proofs.Common.{◌≡◌, inl, inr, ⊎_elim, ℕ, zero, suc, ◌+◌, ◌*◌, ◌/◌, ◌%◌, ◌<◌, ◌≤◌, Bool, true, false, cond, List, [], ◌∷◌, ◌++◌, length, map, refl, sym, ap, subst, ◌∙◌, arith, true≢false}
use Rattle.std.specs.Prelude.{filter, not}
use Rattle.std.specs.List.{All, flat_map, range_with_len}
use Rattle.std.proofs.Math.Nat.{suc-mul}
use Rattle.std.proofs.lemmas.List.Concat.{flat_map-append}
use Rattle.hfs_fields.specs.declared.extent.Extent.{Extent}
use Rattle.hfs_fields.specs.declared.mdb.Mdb.{Mdb}
use Rattle.hfs_fields.specs.Each.{Each}
use Rattle.hfs_fields.specs.Members.{In}
use Rattle.hfs_fields.proofs.ElementLemmas.{each-append}
use Rattle.hfs_blocks.specs.declared.run.Run.{Run}
use Rattle.hfs_blocks.specs.Blocks.{block_at, block_count, run_of}
use Rattle.hfs_blocks.specs.Layers.{Numbered, changes, over}
use Rattle.hfs_space.specs.Bitmap.{bitmap_len, is_marked, is_used}
use Rattle.hfs_space.specs.Extents.{AreExtentsWithin, IsExtentWithin, extent_blocks}
use Rattle.hfs_space.specs.Forks.{HasArea, blocks_each, run_in}
use Rattle.hfs_space.specs.ForkLaws.{block_numbers}
use Rattle.hfs_space.proofs.ForkLawLemmas.{range-add}
use Rattle.hfs_space.specs.FreeRuns.{AreFreeRuns, IsWhole, free_blocks}
use Rattle.hfs_check.specs.Agree.{AgreesBut}
use Rattle.hfs_check.specs.Parts.{Blocks, mdb_in}
use Rattle.hfs_check.specs.Sound.{IsMdbSound, IsSound}
use Rattle.hfs_volume.specs.Image.{patched}
use Rattle.hfs_volume.proofs.Laid.{AreBlocks-over, block_at-laid}
use Rattle.hfs_blocks.specs.Blocks.{length-block_at}
use Rattle.hfs_blocks.specs.Layers.{AreWhole}
use Rattle.hfs_copy.specs.GivenBack.{AreFreeIn, IsFreeBlock, blocks_of_one}
use Rattle.hfs_copy.specs.Keeping.{GainsExtents, GainsRuns, LieIn}

-- ---- the logical blocks of extents are those of their allocation blocks

one-extent : (mdb : Mdb) (first count : ℕ) → range_with_len (mdb.allocation_start + first * blocks_each mdb) (count * blocks_each mdb) ≡ flat_map (blocks_of_one mdb) (range_with_len first count)
one-extent mdb first zero = ap (λ n. range_with_len (mdb.allocation_start + first * blocks_each mdb) n) (let e : zero * blocks_each mdb ≡ 0 = omega arith in e)
one-extent mdb first (suc count) =
    let each = blocks_each mdb in
    let at = mdb.allocation_start + first * each in
    let more : suc count * each ≡ each + count * each = omega (arith, suc-mul count each) in
    let next : at + each ≡ mdb.allocation_start + (first + 1) * each = omega arith in
    ap (λ n. range_with_len at n) more ∙ range-add at each (count * each)
    ∙ ap (λ l. blocks_of_one mdb first ++ l) (ap (λ x. range_with_len x (count * each)) next ∙ one-extent mdb (first + 1) count)

in-order : (mdb : Mdb) (extents : List Extent) → block_numbers mdb extents ≡ flat_map (blocks_of_one mdb) (extent_blocks extents)
in-order mdb [] = refl
in-order mdb (e ∷ extents) =
    (λ i. one-extent mdb e.first e.count i ++ in-order mdb extents i)
    ∙ sym (flat_map-append (blocks_of_one mdb) (range_with_len e.first e.count) (extent_blocks extents))

-- ---- free allocation blocks

each-free : (used : ℕ → Bool) (total a m : ℕ) → a + m ≤ total → Each (λ b. (b < total) × (used b ≡ false)) (filter (λ b. not (used b)) (range_with_len a m))
each-free used total a zero le = tt
each-free used total a (suc m) le = by (each-free used total (a + 1) m (omega (arith, le))) (used a) refl
  where
    by : Each (λ b. (b < total) × (used b ≡ false)) (filter (λ b. not (used b)) (range_with_len (a + 1) m)) → (u : Bool) → used a ≡ u
        → Each (λ b. (b < total) × (used b ≡ false)) (cond (not u) (a ∷ filter (λ b. not (used b)) (range_with_len (a + 1) m)) (filter (λ b. not (used b)) (range_with_len (a + 1) m)))
    by rest true e = rest
    by rest false e = ((omega (arith, le), e), rest)

itself : (ns : List ℕ) → Each (λ n. In n ns) ns
itself ns = more ns (λ n i. i)
  where
    more : (ms : List ℕ) → ((n : ℕ) → In n ms → In n ns) → Each (λ n. In n ns) ms
    more [] inside = tt
    more (m ∷ ms) inside = (inside m (inl refl), more ms (λ n i. inside n (inr i)))

module _ (blocks : Blocks) where
  of-one : (b : ℕ) → b < (mdb_in blocks).allocation_blocks → is_used blocks (mdb_in blocks).bitmap_start b ≡ false → (ns : List ℕ)
      → Each (λ n. In n (blocks_of_one (mdb_in blocks) b)) ns → Each (IsFreeBlock blocks) ns
  of-one b within free [] h = tt
  of-one b within free (n ∷ ns) h = (record { b = b; within = within; free = free; has = h.0 }, of-one b within free ns h.1)

  all-free : (bs : List ℕ) → Each (λ b. (b < (mdb_in blocks).allocation_blocks) × (is_used blocks (mdb_in blocks).bitmap_start b ≡ false)) bs
      → Each (IsFreeBlock blocks) (flat_map (blocks_of_one (mdb_in blocks)) bs)
  all-free [] h = tt
  all-free (b ∷ bs) h =
      each-append (IsFreeBlock blocks) (blocks_of_one (mdb_in blocks) b) (flat_map (blocks_of_one (mdb_in blocks)) bs)
      (of-one b h.0.0 h.0.1 (blocks_of_one (mdb_in blocks) b) (itself (blocks_of_one (mdb_in blocks) b))) (all-free bs h.1)

-- the same bits in both
free-as : (used other : ℕ → Bool) (total : ℕ) → ((b : ℕ) → b < total → used b ≡ other b) → (bs : List ℕ) → Each (λ b. (b < total) × (used b ≡ false)) bs
    → Each (λ b. (b < total) × (other b ≡ false)) bs
free-as used other total same [] h = tt
free-as used other total same (b ∷ bs) h = ((h.0.0, sym (same b h.0.0) ∙ h.0.1), free-as used other total same bs h.1)

-- ---- as the functions have them

pub extents-within : (used : ℕ → Bool) (total : ℕ) (extents : List Extent) → All (IsWhole used total) extents → AreExtentsWithin total extents
extents-within used total extents h k none lt some = (h k none lt).within

pub bitmap-fits : (base current : List ℕ) (written : List ℕ) → AgreesBut written base current
    → (mdb_in (block_at current)).bitmap_start + bitmap_len (mdb_in (block_at current)).allocation_blocks ≤ block_count base
bitmap-fits base current written agrees =
    let mdb = agrees.sound.blocks.mdb in
    let counts : block_count current ≡ block_count base = ap (λ (n : ℕ). n / 512) agrees.len in
    by (mdb_in (block_at current)) (block_count current) (block_count base) mdb counts
  where
    by : (mdb : Mdb) (total other : ℕ) → IsMdbSound total mdb → total ≡ other → mdb.bitmap_start + bitmap_len mdb.allocation_blocks ≤ other
    by mdb total other sound same = omega (arith, sound.bitmap_before, sound.area, same)

pub free-in : (changed : Numbered) (base bytes current written : List ℕ) (mdb : Mdb) (count start : ℕ) (extents : List Extent) (old new : List Run)
    → AgreesBut written base current → current ≡ patched changed base → bytes ≡ base → AreWhole (changes changed) → mdb ≡ mdb_in (block_at current)
    → start ≡ mdb.bitmap_start → count ≡ mdb.allocation_blocks
    → AreFreeRuns (is_used (over (changes changed) (block_at bytes)) start) count extents → old ≡ [] → GainsExtents mdb extents old new
    → AreFreeIn (block_at current) (block_count current) new
free-in changed base bytes current written mdb count start extents old new agrees is same-base whole same-mdb same-start same-count free first gains =
    record {
      within = subst (LieIn (block_count current)) (sym runs-are) came.within;
      free = subst (Each (IsFreeBlock (block_at current))) (sym numbers) (all-free (block_at current) (extent_blocks extents) each);
    }
  where
    came : GainsRuns (block_numbers mdb extents) (block_count current) old new
    came = gains (block_count current) (subst (λ (m : Mdb). HasArea m (block_count current)) (sym same-mdb) agrees.sound.blocks.mdb.area)

    runs-are : new ≡ came.more
    runs-are = came.are ∙ ap (λ (l : List Run). l ++ came.more) first

    numbers : flat_map run_of new ≡ flat_map (blocks_of_one (mdb_in (block_at current))) (extent_blocks extents)
    numbers = ap (flat_map run_of) runs-are ∙ came.numbers_are ∙ ap (λ (m : Mdb). block_numbers m extents) same-mdb ∙ in-order (mdb_in (block_at current)) extents

    counts : block_count current ≡ block_count base
    counts = ap (λ (n : ℕ). n / 512) agrees.len

    seen : (n : ℕ) → n < block_count base → over (changes changed) (block_at base) n ≡ block_at current n
    seen n below =
        sym (ap (λ (b : List ℕ). block_at b n) is
        ∙ block_at-laid (over (changes changed) (block_at base)) n base
        (AreBlocks-over (changes changed) (block_at base) (block_count base) whole (length-block_at base)) below)

    at-bit : (b : ℕ) → b < (mdb_in (block_at current)).allocation_blocks → (mdb_in (block_at current)).bitmap_start + b / 4096 < block_count base
    at-bit b lt = by (mdb_in (block_at current)).bitmap_start (mdb_in (block_at current)).allocation_blocks (block_count base) (bitmap-fits base current written agrees) lt
      where
        by : (s c t : ℕ) → s + bitmap_len c ≤ t → b < c → s + b / 4096 < t
        by s c t fits lt = omega (arith, fits, lt)

    bits : (b : ℕ) → b < (mdb_in (block_at current)).allocation_blocks
        → is_used (over (changes changed) (block_at base)) (mdb_in (block_at current)).bitmap_start b ≡ is_used (block_at current) (mdb_in (block_at current)).bitmap_start b
    bits b lt = ap (λ (bytes : List ℕ). is_marked bytes (b % 4096)) (seen ((mdb_in (block_at current)).bitmap_start + b / 4096) (at-bit b lt))

    free-so : AreFreeRuns (is_used (over (changes changed) (block_at base)) (mdb_in (block_at current)).bitmap_start) (mdb_in (block_at current)).allocation_blocks extents
    free-so =
        subst (λ (p : List ℕ × ℕ × ℕ). AreFreeRuns (is_used (over (changes changed) (block_at p.0)) p.1) p.2 extents)
        (λ i. (same-base i, (same-start ∙ ap (λ (m : Mdb). m.bitmap_start) same-mdb) i, (same-count ∙ ap (λ (m : Mdb). m.allocation_blocks) same-mdb) i)) free

    each : Each (λ b. (b < (mdb_in (block_at current)).allocation_blocks) × (is_used (block_at current) (mdb_in (block_at current)).bitmap_start b ≡ false)) (extent_blocks extents)
    each =
        let used = is_used (over (changes changed) (block_at base)) (mdb_in (block_at current)).bitmap_start in
        let total = (mdb_in (block_at current)).allocation_blocks in
        free-as used (is_used (block_at current) (mdb_in (block_at current)).bitmap_start) total bits (extent_blocks extents)
        (subst (Each (λ b. (b < total) × (used b ≡ false))) (sym free-so.blocks) (each-free used total 0 total (omega arith)))
