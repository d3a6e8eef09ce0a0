-- How many records of the extents tree come at most, where so many pieces, or blocks, come to a fork.
use Rattle.std.proofs.Common.{◌≡◌, ℕ, suc, ◌+◌, ◌-◌, ◌*◌, ◌/◌, ◌<◌, ◌≤◌, Bool, true, false, cond, eqb, ltb, List, [], ◌∷◌, ◌++◌, length, set, refl, arith, length-append}
use Rattle.std.specs.List.{All}
use Rattle.std.specs.Int.{div_ceil}
use Rattle.std.proofs.lemmas.Bool.{ltb-true, ltb-false}
use Rattle.std.proofs.lemmas.List.{length-set}
use Rattle.std.proofs.lemmas.List.Sums.{sum_by-cons}
use Rattle.hfs_fields.specs.declared.extent.Extent.{Extent}
use Rattle.hfs_fields.specs.Each.{Each}
use Rattle.hfs_space.specs.Extents.{block_total, extent_blocks}
use Rattle.hfs_space.proofs.Decided.{each_from_all}
use Rattle.hfs_space.proofs.OwnedLemmas.{length-blocks}
use Rattle.hfs_record_edits.specs.Growing.{records_coming}
use Rattle.hfs_record_edits.specs.Lengthened.{none, used_places, last_used, joins, longer, lengthened}

-- each piece takes a place that is there, or one of three new ones
grown_long : (pieces es : List Extent) (used : ℕ) → used ≤ length es → length (lengthened es used pieces) ≤ length es + 3 * ((length pieces - (length es - used) + 2) / 3)
grown_long [] es used le = omega arith
grown_long (p ∷ ps) es used le = by (λ xs u low. grown_long ps xs u low) (joins l p) (ltb used (length es)) refl
  where
    l : Extent
    l = last_used es used

    more : List Extent
    more = es ++ p ∷ none ∷ none ∷ []

    by : ((xs : List Extent) (u : ℕ) → u ≤ length xs → length (lengthened xs u ps) ≤ length xs + 3 * ((length ps - (length xs - u) + 2) / 3)) → (b c : Bool) → ltb used (length es) ≡ c
        → length (lengthened (cond b (set es (used - 1) (longer l p)) (cond c (set es used p) more)) (cond b used (used + 1)) ps) ≤ length es + 3 * ((suc (length ps) - (length es - used) + 2) / 3)
    by next true c e =
        let same = length-set es (used - 1) (longer l p) in
        let rest = next (set es (used - 1) (longer l p)) used (omega (arith, same, le)) in
        omega (arith, same, rest)
    by next false true e =
        let lt : used < length es = ltb-true used (length es) e in
        let same = length-set es used p in
        let rest = next (set es used p) (used + 1) (omega (arith, same, lt)) in
        omega (arith, same, rest, lt)
    by next false false e =
        let full : length es ≤ used = ltb-false used (length es) e in
        let long = length-append es (p ∷ none ∷ none ∷ []) in
        let rest = next more (used + 1) (omega (arith, long, le)) in
        omega (arith, long, rest, full, le)

-- no more places are in use than there are
places_few : (es : List Extent) → used_places es ≤ length es
places_few [] = omega arith
places_few (e ∷ es) = by (places_few es) (eqb (used_places es) 0) (eqb e.count 0)
  where
    by : used_places es ≤ length es → (b c : Bool) → cond b (cond c 0 1) (used_places es + 1) ≤ suc (length es)
    by rest true true = omega arith
    by rest true false = omega arith
    by rest false c = omega (arith, rest)

-- pieces that have blocks are no more than these
pieces_few : (ps : List Extent) → Each (λ e. 0 < e.count) ps → length ps ≤ block_total ps
pieces_few [] h = omega arith
pieces_few (p ∷ ps) h = let sums = sum_by-cons (λ (x : Extent). x.count) p ps in let rest = pieces_few ps h.1 in let one = h.0 in omega (arith, sums, rest, one)

-- no more records come than there are threes of the blocks that come
pub records_few : (es pieces : List Extent) (most : ℕ) → All (λ e. 0 < e.count) pieces → length (extent_blocks pieces) ≤ most → records_coming es pieces ≤ div_ceil most 3
records_few es pieces most some le =
    let few = pieces_few pieces (each_from_all (λ (e : Extent). 0 < e.count) pieces some) in
    let long = grown_long pieces es (used_places es) (places_few es) in
    let same = length-blocks pieces in
    omega (arith, few, long, same, le)
