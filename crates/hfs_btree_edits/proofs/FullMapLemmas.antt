-- A node map in which no bit is clear.
use Rattle.std.proofs.Common.{◌≡◌, ℕ, zero, suc, ◌+◌, ◌-◌, ◌*◌, ◌<◌, ◌≤◌, ◌⊎◌, Bool, true, false, List, [], ◌∷◌, ◌++◌, length, map, get_or, refl, sym, ap, ◌∙◌, subst, arith, inl, inr, cond, length-append}
use Rattle.std.specs.Prelude.{not}
use Rattle.std.specs.List.{flat_map, range_with_len, count_by}
use Rattle.std.proofs.lemmas.Bool.{cases_lt}
use Rattle.std.proofs.lemmas.List.Sums.{sum_by-cons}
use Rattle.std.proofs.lemmas.List.FromFn.{get_or-map-range_with_len, length-map-range_with_len}
use Rattle.hfs_btree.specs.Tree.{Store, node_in, forward_of}
use Rattle.hfs_btree.specs.Header.{header_in, chain_from, map_bytes, bit_of, marks, free_nodes}
use Rattle.hfs_btree.specs.Sound.{HasMap}
use Rattle.hfs_btree_edits.specs.MapPlaces.{part_in}
use Rattle.hfs_btree_edits.proofs.MapPlaceLemmas.{IsPart}
use Rattle.hfs_btree_edits.proofs.PartBitLemmas.{bits-here}
use Rattle.hfs_btree_edits.proofs.BitPutLemmas.{map-split}

-- ---- no free node

count-none : (bs : List Bool) → ((i : ℕ) → i < length bs → get_or bs i false ≡ true) → count_by not bs ≡ 0
count-none [] h = refl
count-none (b ∷ bs) h =
    let rest = count-none bs (λ i lt. h (suc i) (omega (arith, lt))) in
    let none : 0 + count_by not bs ≡ 0 = omega (arith, rest) in
    sum_by-cons (λ (x : Bool). cond (not x) 1 0) b bs ∙ ap (λ (x : Bool). cond (not x) 1 0 + count_by not bs) (h zero (omega arith)) ∙ none

-- all bits of the map are set, up to so many
abbrev pub AreSet : Store → ℕ → ℕ → Type 0
AreSet nodes before count = (k : ℕ) → k < before → k < count → bit_of (map_bytes nodes) k ≡ true

pub none-free : (nodes : Store) (before count : ℕ) → count ≡ (header_in nodes).nodes → AreSet nodes before count → count ≤ before → free_nodes nodes ≡ 0
unfolding free_nodes marks
none-free nodes before count counted h le =
    count-none (map (bit_of (map_bytes nodes)) (range_with_len 0 (header_in nodes).nodes))
    (λ i lt.
    (let long = length-map-range_with_len (bit_of (map_bytes nodes)) 0 (header_in nodes).nodes in
    let less : i < (header_in nodes).nodes = omega (arith, lt, long) in
    get_or-map-range_with_len (bit_of (map_bytes nodes)) 0 (header_in nodes).nodes i i false less (omega arith) ∙ h i (omega (arith, less, counted, le)) (omega (arith, less, counted))))

-- ---- part by part

module _ (nodes : Store) (most at entry before : ℕ) (p : IsPart nodes most at entry before) (part : List ℕ) (is : part ≡ part_in nodes at) where
  abbrev rest : List ℕ
  rest = chain_from nodes most (forward_of (node_in nodes at))

  part-bit : (i : ℕ) → i < 8 * length part → bit_of (map_bytes nodes) (before + i) ≡ bit_of part i
  part-bit i lt =
      let had = p.bits in
      let long = ap (λ (bs : List ℕ). length bs) is in
      ap (λ (bs : List ℕ). bit_of bs (before + i)) (map-split nodes p.done rest at p.split)
      ∙ bits-here (flat_map (part_in nodes) p.done) (part_in nodes at) (flat_map (part_in nodes) rest) i (before + i) (omega (arith, lt, long)) (omega (arith, had))
      ∙ ap (λ (bs : List ℕ). bit_of bs i) (sym is)

  -- where no part follows, the map ends
  module _ (count next now : ℕ) (m : HasMap nodes) (counted : count ≡ (header_in nodes).nodes) (is' : next ≡ forward_of (node_in nodes at)) (e : now ≡ before + 8 * length part) where
    end-past : rest ≡ [] → count ≤ now
    end-past none =
        let split = map-split nodes p.done rest at p.split ∙ ap (λ (ns : List ℕ). flat_map (part_in nodes) p.done ++ (part_in nodes at ++ flat_map (part_in nodes) ns)) none in
        let all = ap (λ (bs : List ℕ). length bs) split in
        let two = length-append (flat_map (part_in nodes) p.done) (part_in nodes at ++ []) in
        let one = length-append (part_in nodes at) [] in
        let long = ap (λ (bs : List ℕ). length bs) is in
        let had = p.bits in
        let enough = m.long in
        omega (arith, all, two, one, long, had, enough, counted, e)

    chain-zero : (k : ℕ) → chain_from nodes k 0 ≡ []
    chain-zero zero = refl
    chain-zero (suc k) = refl

    pub last-past : (next ≡ 0) ⊎ ((next ≡ 0 → ⊥) × (most ≡ 0)) → count ≤ now
    last-past (inl none) = end-past (ap (chain_from nodes most) (sym is' ∙ none) ∙ chain-zero most)
    last-past (inr spent) = end-past (ap (λ (k : ℕ). chain_from nodes k (forward_of (node_in nodes at))) spent.1)

  module _ (count : ℕ) (h : AreSet nodes before count) (more : (i : ℕ) → i < count - before → i < 8 * length part → bit_of part i ≡ true) where
    pub next-set : (now : ℕ) → now ≡ before + 8 * length part → AreSet nodes now count
    next-set now e k lt low =
        elim (cases_lt k before) [
          | inl less ↦ h k less low
          | inr ge ↦
              (let at' : before + (k - before) ≡ k = omega (arith, ge) in
              let P : ℕ → Type 0 = λ j. bit_of (map_bytes nodes) j ≡ true in
              subst P at' (part-bit (k - before) (omega (arith, ge, lt, e)) ∙ more (k - before) (omega (arith, ge, low)) (omega (arith, ge, lt, e))))
        ]

    pub last-free : (now : ℕ) → now ≡ before + 8 * length part → count ≡ (header_in nodes).nodes → count ≤ now → free_nodes nodes ≡ 0
    last-free now e counted past = none-free nodes now count counted (next-set now e) past
