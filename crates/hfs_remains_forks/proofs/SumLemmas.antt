-- Blocks of records, each the next of the one before it.
use Rattle.std.proofs.Common.{◌≡◌, ℕ, zero, suc, ◌+◌, ◌*◌, ◌^◌, ◌≤◌, List, length, map, Option, Some, None, refl, sym, ap, ◌∙◌, arith, inl, inr}
use Rattle.std.specs.List.{range_with_len}
use Rattle.std.specs.Option.{option_and_then, option_map_or}
use Rattle.std.proofs.lemmas.Bool.{cases_lt}
use Rattle.std.proofs.lemmas.List.{get_or_past, length-map}
use Rattle.std.proofs.lemmas.List.FromFn.{get_or-map-range_with_len, length-map-range_with_len}
use Rattle.std.proofs.lemmas.Nat.{pow-add}
use Rattle.hfs_remains_places.specs.Chains.{place_at, steps, LeadBy}
use Rattle.hfs_remains_places.proofs.ChainLemmas.{steps-zero, steps-suc}
use Rattle.hfs_space.specs.Extents.{Overflow}
use Rattle.hfs_remains_forks.specs.Chains.{own_blocks, next_place, owns_of, nexts_of, number_at, blocks_in, summed, SumBy, AreBelow}

pub blocks_in-zero : (owns : List ℕ) (nexts : List (Option ℕ)) (i : ℕ) → blocks_in owns nexts zero i ≡ 0
unfolding blocks_in
blocks_in-zero owns nexts i = refl

pub blocks_in-suc : (owns : List ℕ) (nexts : List (Option ℕ)) (k i : ℕ) → blocks_in owns nexts (suc k) i ≡ number_at owns i + option_map_or (blocks_in owns nexts k) (place_at nexts i) 0
unfolding blocks_in
blocks_in-suc owns nexts k i = refl

pub blocks_in-one : (owns : List ℕ) (nexts : List (Option ℕ)) (i : ℕ) → blocks_in owns nexts 1 i ≡ number_at owns i
blocks_in-one owns nexts i = blocks_in-suc owns nexts 0 i ∙ by (place_at nexts i)
  where
    by : (o : Option ℕ) → number_at owns i + option_map_or (blocks_in owns nexts 0) o 0 ≡ number_at owns i
    by None = omega arith
    by (Some j) = omega (arith, blocks_in-zero owns nexts j)

-- those of so many, and then of so many more
pub blocks_in-add : (owns : List ℕ) (nexts : List (Option ℕ)) (a b i : ℕ)
    → blocks_in owns nexts (a + b) i ≡ blocks_in owns nexts a i + option_map_or (blocks_in owns nexts b) (steps nexts a i) 0
blocks_in-add owns nexts zero b i =
    let same : zero + b ≡ b = omega arith in
    let start : option_map_or (blocks_in owns nexts b) (steps nexts zero i) 0 ≡ blocks_in owns nexts b i = ap (λ (o : Option ℕ). option_map_or (blocks_in owns nexts b) o 0) (steps-zero nexts i) in
    ap (λ (n : ℕ). blocks_in owns nexts n i) same ∙ omega (arith, start, blocks_in-zero owns nexts i)
blocks_in-add owns nexts (suc a) b i =
    let more : suc a + b ≡ suc (a + b) = omega arith in
    ap (λ (n : ℕ). blocks_in owns nexts n i) more
    ∙ blocks_in-suc owns nexts (a + b) i
    ∙ by (λ j. blocks_in-add owns nexts a b j) (place_at nexts i)
    ∙ (λ t. sym (blocks_in-suc owns nexts a i) t + option_map_or (blocks_in owns nexts b) (sym (steps-suc nexts a i) t) 0)
  where
    by : ((j : ℕ) → blocks_in owns nexts (a + b) j ≡ blocks_in owns nexts a j + option_map_or (blocks_in owns nexts b) (steps nexts a j) 0)
        → (o : Option ℕ)
        → number_at owns i + option_map_or (blocks_in owns nexts (a + b)) o 0
        ≡ number_at owns i + option_map_or (blocks_in owns nexts a) o 0 + option_map_or (blocks_in owns nexts b) (option_and_then (steps nexts a) o) 0
    by fewer None = omega arith
    by fewer (Some j) = omega (arith, fewer j)

-- ---- sums over twice as many

made-at : (sums : List ℕ) (jumps : List (Option ℕ)) (made : List ℕ) → made ≡ map (summed sums jumps) (range_with_len 0 (length sums)) → length jumps ≡ length sums
    → (i : ℕ) → number_at made i ≡ summed sums jumps i
made-at sums jumps made is all i =
    elim (cases_lt i (length sums)) [
      | inl lt ↦ ap (λ (l : List ℕ). number_at l i) is ∙ get_or-map-range_with_len (summed sums jumps) 0 (length sums) i i 0 lt (omega arith)
      | inr ge ↦
          let own : number_at sums i ≡ 0 = get_or_past sums i 0 ge in
          let none : option_map_or (number_at sums) (place_at jumps i) 0 ≡ 0 = ap (λ (o : Option ℕ). option_map_or (number_at sums) o 0) (get_or_past jumps i None (omega (arith, all, ge))) in
          let past : number_at made i ≡ 0 =
          ap (λ (l : List ℕ). number_at l i) is
          ∙ get_or_past (map (summed sums jumps) (range_with_len 0 (length sums))) i 0 (omega (arith, ge, length-map-range_with_len (summed sums jumps) 0 (length sums))) in
          omega (arith, past, own, none)
    ]

pub sum-twice : (owns : List ℕ) (nexts : List (Option ℕ)) (sums : List ℕ) (jumps : List (Option ℕ)) (made : List ℕ) (k : ℕ)
    → made ≡ map (summed sums jumps) (range_with_len 0 (length sums)) → length jumps ≡ length sums
    → SumBy k owns nexts sums → LeadBy k nexts jumps → SumBy (k + k) owns nexts made
sum-twice owns nexts sums jumps made k is all sum lead i =
    made-at sums jumps made is all i
    ∙ (λ t. sum i t + option_map_or (λ j. sum j t) (lead i t) 0)
    ∙ sym (blocks_in-add owns nexts k k i)

pub sum-more : (owns : List ℕ) (nexts : List (Option ℕ)) (sums : List ℕ) (jumps : List (Option ℕ)) (made : List ℕ) (bits : ℕ)
    → made ≡ map (summed sums jumps) (range_with_len 0 (length sums)) → length jumps ≡ length sums
    → SumBy (2 ^ bits) owns nexts sums → LeadBy (2 ^ bits) nexts jumps → SumBy (2 ^ (bits + 1)) owns nexts made
sum-more owns nexts sums jumps made bits is all sum lead i =
    let power : 2 ^ (bits + 1) ≡ 2 ^ bits * 2 = pow-add 2 bits 1 in
    let double : 2 ^ bits + 2 ^ bits ≡ 2 ^ (bits + 1) = omega (arith, power) in
    sum-twice owns nexts sums jumps made (2 ^ bits) is all sum lead i ∙ ap (λ (n : ℕ). blocks_in owns nexts n i) double

pub sum-first : (owns : List ℕ) (nexts : List (Option ℕ)) (sums : List ℕ) → sums ≡ owns → SumBy 1 owns nexts sums
sum-first owns nexts sums is i = ap (λ (l : List ℕ). number_at l i) is ∙ sym (blocks_in-one owns nexts i)

-- twice as many are below twice as much
pub below-twice : (sums : List ℕ) (jumps : List (Option ℕ)) (made : List ℕ) (most : ℕ) → made ≡ map (summed sums jumps) (range_with_len 0 (length sums)) → length jumps ≡ length sums
    → AreBelow most sums → AreBelow (most + most) made
below-twice sums jumps made most is all below i = by (place_at jumps i) (made-at sums jumps made is all i)
  where
    by : (o : Option ℕ) → number_at made i ≡ number_at sums i + option_map_or (number_at sums) o 0 → number_at made i ≤ most + most
    by None e = omega (arith, e, below i)
    by (Some j) e = omega (arith, e, below i, below j)

pub below-more : (sums : List ℕ) (jumps : List (Option ℕ)) (made : List ℕ) (bits : ℕ) → made ≡ map (summed sums jumps) (range_with_len 0 (length sums)) → length jumps ≡ length sums
    → AreBelow (2 ^ (bits + 18)) sums → AreBelow (2 ^ (bits + 1 + 18)) made
below-more sums jumps made bits is all below i =
    let place : bits + 1 + 18 ≡ bits + 18 + 1 = omega arith in
    let power : 2 ^ (bits + 18 + 1) ≡ 2 ^ (bits + 18) * 2 = pow-add 2 (bits + 18) 1 in
    let same : 2 ^ (bits + 1 + 18) ≡ 2 ^ (bits + 18 + 1) = ap (λ (n : ℕ). 2 ^ n) place in
    omega (arith, power, same, below-twice sums jumps made (2 ^ (bits + 18)) is all below i)

-- ---- numbers of records

pub same-length : (records : Overflow) → length (owns_of records) ≡ length (nexts_of records)
unfolding owns_of nexts_of
same-length records = length-map records own_blocks ∙ sym (length-map records (next_place records))
