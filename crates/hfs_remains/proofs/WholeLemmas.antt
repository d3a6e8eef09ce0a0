-- Files all of whose blocks are there, and their nodes.
use Rattle.std.proofs.Common.{◌≡◌, ℕ, suc, ◌+◌, ◌*◌, ◌/◌, ◌%◌, ◌<◌, ◌≤◌, Bool, true, not, ◌&&◌, ◌==◌, if◌then◌else◌, List, [], ◌∷◌, map, take, length, length-append, get_or, Option, Some, None, slice_index_or, refl, sym, ap, ◌∙◌, arith, inl, inr}
use Rattle.std.specs.Prelude.{nat_lt, nat_le}
use Rattle.std.specs.List.{flat_map}
use Rattle.std.proofs.Math.Nat.{suc-mul, mul-le-mul_right}
use Rattle.std.proofs.lemmas.Bool.{cases_lt, and_from, not_from_false, ne_eqb, lt-ltb, le-leb}
use Rattle.std.proofs.lemmas.List.{ext_get_or, get_or-map, get_or-take, length-take-le}
use Rattle.std.proofs.lemmas.List.Concat.{get_or-flat_map}
use Rattle.std.proofs.lemmas.List.FromFn.{get_or-map-range_with_len, length-map-range_with_len}
use Rattle.std.proofs.lemmas.Nat.{div-add-mod', mod_below}
use Rattle.hfs_fields.specs.declared.mdb.Mdb.{Mdb}
use Rattle.hfs_fields.specs.Each.{Each}
use Rattle.hfs_btree.specs.Sound.{IsDistinct, IsOther}
use Rattle.hfs_space.specs.Forks.{blocks_each, HasArea}
use Rattle.hfs_space.proofs.ForkLawLemmas.{allocation_block}
use Rattle.hfs_check.specs.Parts.{Blocks}
use Rattle.hfs_remains.specs.Allocation.{start_of, is_there}
use Rattle.hfs_remains.specs.TreeFiles.{FileBlocks, first_there, piece_of, node_at, first_nodes}

-- ---- blocks

still : (there : ℕ → Bool) (b : ℕ) (bs : List ℕ) → Each (λ c. there c ≡ true) bs → Each (IsOther b) bs → Each (λ c. (there c && not (c == b)) ≡ true) bs
still there b [] all others = tt
still there b (c ∷ bs) all others =
    (and_from (there c) (not (c == b)) all.0 (not_from_false (c == b) (ne_eqb c b others.0)), still there b bs all.1 others.1)

-- different blocks that are there are all of a file's
pub all-there : (there : ℕ → Bool) (bs : List ℕ) → Each (λ b. there b ≡ true) bs → IsDistinct bs → first_there there bs ≡ map Some bs
all-there there [] all once = refl
all-there there (b ∷ bs) all once =
    ap (λ (t : Bool). if t then Some b ∷ first_there (λ k. there k && not (k == b)) bs else None ∷ first_there there bs) all.0
    ∙ ap (λ (l : FileBlocks). Some b ∷ l) (all-there (λ k. there k && not (k == b)) bs (still there b bs all.1 once.0) once.1)

pub there-below : (total : ℕ) (mdb : Mdb) → HasArea mdb total → (b : ℕ) → b < mdb.allocation_blocks → is_there total mdb b ≡ true
unfolding is_there
there-below total mdb area b below =
    let product : (b + 1) * blocks_each mdb ≤ mdb.allocation_blocks * blocks_each mdb = mul-le-mul_right (blocks_each mdb) (omega (arith, below)) in
    and_from (nat_lt b mdb.allocation_blocks) (nat_le (start_of mdb (b + 1)) total) (lt-ltb b mdb.allocation_blocks below) (le-leb (start_of mdb (b + 1)) total (omega (arith, area, product)))

-- ---- nodes

module _ (blocks : Blocks) (mdb : Mdb) where
  pub length-pieces : (bs : List ℕ) → length (flat_map (allocation_block blocks mdb) bs) ≡ length bs * blocks_each mdb
  length-pieces [] = let none : 0 * blocks_each mdb ≡ 0 = omega arith in sym none
  length-pieces (b ∷ bs) =
      let own : length (allocation_block blocks mdb b) ≡ blocks_each mdb = length-map-range_with_len blocks (mdb.allocation_start + b * blocks_each mdb) (blocks_each mdb) in
      let more : suc (length bs) * blocks_each mdb ≡ length bs * blocks_each mdb + blocks_each mdb = suc-mul (length bs) (blocks_each mdb) in
      length-append (allocation_block blocks mdb b) (flat_map (allocation_block blocks mdb) bs) ∙ omega (arith, own, more, length-pieces bs)

  module _ (some : 1 ≤ blocks_each mdb) where
    place-below : (count n : ℕ) → n < count * blocks_each mdb → n / blocks_each mdb < count
    place-below count n lt =
        elim (cases_lt (n / blocks_each mdb) count) [
          | inl below ↦ below
          | inr beyond ↦
              let product : count * blocks_each mdb ≤ n / blocks_each mdb * blocks_each mdb = mul-le-mul_right (blocks_each mdb) beyond in
              absurd (omega (arith, lt, product, div-add-mod' n (blocks_each mdb)))
        ]

    -- node n lies in the block of its place
    at-piece : (bs : List ℕ) (n : ℕ) → n < length bs * blocks_each mdb → node_at blocks mdb (map Some bs) n ≡ get_or (flat_map (allocation_block blocks mdb) bs) n []
    unfolding node_at
    at-piece bs n lt =
        let each = blocks_each mdb in
        let q = n / each in
        let r = n % each in
        let below : q < length bs = place-below (length bs) n lt in
        let part : r < each = mod_below n each some in
        let b = get_or bs q 0 in
        let block : slice_index_or (map Some bs) q None ≡ Some b = get_or-map Some bs q 0 None below in
        let front : length (flat_map (allocation_block blocks mdb) (take q bs)) ≡ q * each = length-pieces (take q bs) ∙ ap (λ (k : ℕ). k * each) (length-take-le q bs (omega (arith, below))) in
        let number : length (flat_map (allocation_block blocks mdb) (take q bs)) + r ≡ n = ap (λ (k : ℕ). k + r) front ∙ div-add-mod' n each in
        let own : length (allocation_block blocks mdb b) ≡ each = length-map-range_with_len blocks (mdb.allocation_start + b * each) each in
        ap (λ (o : Option ℕ). piece_of blocks mdb o r) block
        ∙ sym (get_or-map-range_with_len blocks (mdb.allocation_start + b * each) each r (mdb.allocation_start + b * each + r) [] part refl)
        ∙ sym (get_or-flat_map (allocation_block blocks mdb) bs q r 0 [] below (omega (arith, own, part)))
        ∙ ap (λ (k : ℕ). get_or (flat_map (allocation_block blocks mdb) bs) k []) number

    -- the first nodes of a file whose blocks are all there
    pub whole-nodes : (bs : List ℕ) (count : ℕ) → count ≤ length bs * blocks_each mdb → first_nodes blocks mdb (map Some bs) count ≡ take count (flat_map (allocation_block blocks mdb) bs)
    whole-nodes bs count few =
        let pieces = flat_map (allocation_block blocks mdb) bs in
        let own : length (first_nodes blocks mdb (map Some bs) count) ≡ count = length-map-range_with_len (node_at blocks mdb (map Some bs)) 0 count in
        let other : length (take count pieces) ≡ count = length-take-le count pieces (omega (arith, few, length-pieces bs)) in
        ext_get_or [] (first_nodes blocks mdb (map Some bs) count) (take count pieces) (own ∙ sym other)
        (λ i lt.
        let within : i < count = omega (arith, lt, own) in
        get_or-map-range_with_len (node_at blocks mdb (map Some bs)) 0 count i i [] within (omega arith)
        ∙ at-piece bs i (omega (arith, within, few))
        ∙ sym (get_or-take count pieces i [] within))
