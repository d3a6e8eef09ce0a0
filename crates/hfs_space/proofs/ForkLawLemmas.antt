-- Lemmas about the definitions of specs/ForkLaws.antt.
use Rattle.std.specs.Prelude.{◌≡◌, ℕ, zero, suc, ◌+◌, ◌*◌, List, [], ◌∷◌, ◌++◌, map, take, drop, Contains}
use Rattle.std.specs.List.{flat_map, range_with_len}
use Rattle.std.proofs.Common.{refl, sym, ap, ◌∙◌, arith}
use Rattle.std.proofs.Math.Seq.{take-add}
use Rattle.std.proofs.Math.Nat.{suc-mul}
use Rattle.std.proofs.lemmas.List.{drop-drop, map-append}
use Rattle.std.proofs.lemmas.List.Concat.{flat_map-append}
use Rattle.hfs_fields.specs.declared.extent.Extent.{Extent}
use Rattle.hfs_fields.specs.declared.mdb.Mdb.{Mdb}
use Rattle.hfs_blocks.specs.Blocks.{run_of, nodes_in}
use Rattle.hfs_space.specs.Extents.{extent_blocks}
use Rattle.hfs_space.specs.Forks.{blocks_each, run_in, file_blocks, fork_bytes, joined, read_from}
use Rattle.hfs_space.specs.ForkLaws.{block_numbers}

-- reading a piece and then the piece behind it is reading both at once
pub read_from-add : (bytes : List ℕ) (offset a b : ℕ) → read_from bytes offset (a + b) ≡ read_from bytes offset a ++ read_from bytes (offset + a) b
read_from-add bytes offset a b = take-add a b (drop offset bytes) ∙ ap (λ l. read_from bytes offset a ++ take b l) (drop-drop a offset bytes)

-- the logical blocks of an allocation block
abbrev pub allocation_block : (ℕ → List ℕ) → Mdb → ℕ → List (List ℕ)
allocation_block blocks mdb b = map blocks (range_with_len (mdb.allocation_start + b * blocks_each mdb) (blocks_each mdb))

pub range-add : (a m n : ℕ) → range_with_len a (m + n) ≡ range_with_len a m ++ range_with_len (a + m) n
range-add a zero n = (λ i. range_with_len (let e : a ≡ a + zero = omega arith in e i) (let e : zero + n ≡ n = omega arith in e i))
range-add a (suc m) n =
    let e : suc m + n ≡ suc (m + n) = omega arith in
    let e' : a + 1 + m ≡ a + suc m = omega arith in
    ap (range_with_len a) e ∙ ap (λ l. a ∷ l) (range-add (a + 1) m n ∙ ap (λ x. range_with_len (a + 1) m ++ range_with_len x n) e')

module _ (blocks : ℕ → List ℕ) (mdb : Mdb) where
  one-extent : (first count : ℕ) → map blocks (range_with_len (mdb.allocation_start + first * blocks_each mdb) (count * blocks_each mdb)) ≡ flat_map (allocation_block blocks mdb) (range_with_len first count)
  one-extent first zero = ap (λ n. map blocks (range_with_len (mdb.allocation_start + first * blocks_each mdb) n)) (let e : zero * blocks_each mdb ≡ 0 = omega arith in e)
  one-extent first (suc count) =
      let each = blocks_each mdb in
      let at = mdb.allocation_start + first * each in
      let more : suc count * each ≡ each + count * each = omega (arith, suc-mul count each) in
      let next : at + each ≡ mdb.allocation_start + (first + 1) * each = omega arith in
      ap (λ n. map blocks (range_with_len at n)) more ∙ ap (map blocks) (range-add at each (count * each))
      ∙ map-append blocks (range_with_len at each) (range_with_len (at + each) (count * each))
      ∙ ap (λ l. allocation_block blocks mdb first ++ l) (ap (λ x. map blocks (range_with_len x (count * each))) next ∙ one-extent (first + 1) count)

  -- a file's logical blocks are those of its allocation blocks, one after the other
  pub file_blocks-in_order : (extents : List Extent) → file_blocks blocks mdb extents ≡ flat_map (allocation_block blocks mdb) (extent_blocks extents)
  unfolding nodes_in
  file_blocks-in_order [] = refl
  file_blocks-in_order (e ∷ extents) =
      map-append blocks (run_of (run_in mdb e)) (flat_map run_of (map (run_in mdb) extents))
      ∙ (λ i. one-extent e.first e.count i ++ file_blocks-in_order extents i)
      ∙ sym (flat_map-append (allocation_block blocks mdb) (range_with_len e.first e.count) (extent_blocks extents))

module _ (f g : ℕ → List ℕ) where
  map-same : (ns : List ℕ) → ((n : ℕ) → Contains ns n → f n ≡ g n) → map f ns ≡ map g ns
  map-same [] same = refl
  map-same (n ∷ ns) same =
      λ i. same n (0, omega arith, refl) i ∷ map-same ns (λ m h. same m (suc h.0, omega (arith, h.1), h.2)) i

  -- where the logical blocks of a fork are the same, so are its bytes
  pub fork_bytes-same : (mdb : Mdb) (extents : List Extent) (len : ℕ) → ((n : ℕ) → Contains (block_numbers mdb extents) n → f n ≡ g n) → fork_bytes f mdb extents len ≡ fork_bytes g mdb extents len
  unfolding fork_bytes nodes_in
  fork_bytes-same mdb extents len same = ap (λ l. take len (joined l)) (map-same (block_numbers mdb extents) same)
