-- Lemmas about the definitions of specs/ForkLengths.antt.
use Rattle.std.proofs.Common.{◌≡◌, ℕ, zero, suc, ◌+◌, ◌*◌, ◌%◌, ◌<◌, ◌≤◌, List, [], ◌∷◌, ◌++◌, length, ⊎_elim, refl, sym, ap, ◌∙◌, arith, length-append, length-take}
use Rattle.std.proofs.lemmas.List.Sums.{sum_by-cons}
use Rattle.std.proofs.lemmas.Bool.{cases_lt}
use Rattle.std.proofs.Math.Nat.{add-mul, mul-le-mul_right}
use Rattle.hfs_fields.specs.declared.extent.Extent.{Extent}
use Rattle.hfs_fields.specs.declared.mdb.Mdb.{Mdb}
use Rattle.hfs_space.specs.Extents.{IsExtentWithin, AreExtentsWithin, block_total}
use Rattle.hfs_space.specs.Forks.{HasArea, blocks_each, run_bytes, extent_bytes, fork_bytes}
use Rattle.hfs_space.specs.ForkLengths.{all_bytes, all_bytes-cons, all_bytes-nil}

no_blocks : (n each : ℕ) → n ≤ 0 → n * each ≡ 0
no_blocks zero each none = omega arith
no_blocks (suc n) each none = absurd (omega arith)

-- the bytes of so many allocation blocks, by the logical blocks
pub byte_total : (mdb : Mdb) (n : ℕ) → mdb.allocation_block_size % 512 ≡ 0 → n * mdb.allocation_block_size ≡ 512 * (n * blocks_each mdb)
byte_total mdb n whole =
    let each : mdb.allocation_block_size ≡ 512 * blocks_each mdb = omega (arith, whole) in
    ap (λ size. n * size) each ∙ swap (blocks_each mdb)
  where
    swap : (k : ℕ) → n * (512 * k) ≡ 512 * (n * k)
    swap k = omega arith

-- where an extent ends in the volume
pub extent-end : (mdb : Mdb) (total : ℕ) (e : Extent) → HasArea mdb total → IsExtentWithin mdb.allocation_blocks e → 0 < e.count
    → mdb.allocation_start + e.first * blocks_each mdb + e.count * blocks_each mdb ≤ total
extent-end mdb total e area within some =
    omega (arith, area, mul-le-mul_right (blocks_each mdb) (within some))

module _ (blocks : ℕ → List ℕ) (total : ℕ) (whole : (n : ℕ) → n < total → length (blocks n) ≡ 512) where
  pub length-run_bytes : (k n : ℕ) → n + k ≤ total → length (run_bytes blocks n k) ≡ 512 * k
  length-run_bytes zero n within = refl
  length-run_bytes (suc k) n within =
      omega (arith, length-append (blocks n) (run_bytes blocks (n + 1) k), whole n (omega arith), length-run_bytes k (n + 1) (omega arith))

  module _ (mdb : Mdb) (area : HasArea mdb total) where
    pub length-extent_bytes : (e : Extent) → IsExtentWithin mdb.allocation_blocks e → length (extent_bytes blocks mdb e) ≡ 512 * (e.count * blocks_each mdb)
    length-extent_bytes e within = ⊎_elim
        (λ some. length-run_bytes (e.count * blocks_each mdb) (mdb.allocation_start + e.first * blocks_each mdb) (extent-end mdb total e area within some))
        (λ none.
        let zero_blocks : e.count * blocks_each mdb ≡ 0 = no_blocks e.count (blocks_each mdb) none in
        ap (λ k. length (run_bytes blocks (mdb.allocation_start + e.first * blocks_each mdb) k)) zero_blocks ∙ omega (arith, zero_blocks))
        (cases_lt 0 e.count)

    length-all_bytes : (extents : List Extent) → AreExtentsWithin mdb.allocation_blocks extents → length (all_bytes blocks mdb extents) ≡ 512 * (block_total extents * blocks_each mdb)
    length-all_bytes [] within = ap length (all_bytes-nil blocks mdb) ∙ (let e : 0 ≡ 512 * (0 * blocks_each mdb) = omega arith in e)
    length-all_bytes (e ∷ rest) within =
        let first = length-extent_bytes e (within 0 e (omega arith)) in
        let others = length-all_bytes rest (λ k d lt. within (suc k) d (omega arith)) in
        let both = add-mul e.count (block_total rest) (blocks_each mdb) in
        let sum : length (extent_bytes blocks mdb e ++ all_bytes blocks mdb rest) ≡ 512 * ((e.count + block_total rest) * blocks_each mdb) = omega (arith, length-append (extent_bytes blocks mdb e) (all_bytes blocks mdb rest), first, others, both) in
        let counts : e.count + block_total rest ≡ block_total (e ∷ rest) = sym (sum_by-cons (λ (x : Extent). x.count) e rest) in
        ap length (all_bytes-cons blocks mdb e rest) ∙ sum ∙ ap (λ n. 512 * (n * blocks_each mdb)) counts

    -- the bytes of a fork are as many as its logical length, where its blocks have room for them
    pub length-fork_bytes : (extents : List Extent) (len : ℕ) → mdb.allocation_block_size % 512 ≡ 0 → AreExtentsWithin mdb.allocation_blocks extents → len ≤ block_total extents * mdb.allocation_block_size
        → length (fork_bytes blocks mdb extents len) ≡ len
    unfolding fork_bytes
    length-fork_bytes extents len even within room =
        let all = length-all_bytes extents within in
        let bytes = byte_total mdb (block_total extents) even in
        omega (arith, all, bytes, room, length-take len (all_bytes blocks mdb extents))
