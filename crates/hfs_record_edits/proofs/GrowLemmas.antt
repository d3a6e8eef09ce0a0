-- The places of a fork's extents to which pieces come.
use Rattle.std.proofs.Common.{◌≡◌, ℕ, ◌+◌, ◌-◌, ◌<◌, ◌≤◌, inl, inr, Bool, true, false, cond, ltb, List, [], ◌∷◌, ◌++◌, length, take, drop, set, refl, ap, ◌∙◌, arith}
use Rattle.std.proofs.lemmas.Bool.{cases_lt}
use Rattle.std.proofs.lemmas.List.{length-append, length-set, take-set-le, take-append-le}
use Rattle.std.proofs.lemmas.List.Elements.{All-head, All-tail}
use Rattle.hfs_fields.specs.declared.extent.Extent.{Extent}
use Rattle.hfs_space.specs.Extents.{block_total, extent_blocks}
use Rattle.hfs_record_edits.specs.Lengthened.{none, used_places, last_used, joins, longer, with_place, with_piece, used_with, lengthened}
use Rattle.hfs_record_edits.specs.Threes.{AreThrees}
use Rattle.hfs_record_edits.proofs.AddLemmas.{AreUsedTo, HaveBlocks, used_places-used, piece-used, rest-blocks, lengthened-blocks}
use Rattle.hfs_record_edits.proofs.ThreeLemmas.{threes-set_behind, threes-put_behind}
use Rattle.hfs_space.proofs.OwnedLemmas.{length-blocks}

-- ---- one piece

module _ (es : List Extent) (used : ℕ) (p : Extent) where
  abbrev l : Extent
  l = last_used es used

  abbrev more : List Extent
  more = es ++ p ∷ none ∷ none ∷ []

  piece-long : length es ≤ length (with_piece es used p)
  piece-long = elim (joins l p) as (λ (b : Bool). length es ≤ length (cond b (set es (used - 1) (longer l p)) (with_place es used p))) [
    | true ↦ (let same = length-set es (used - 1) (longer l p) in omega (arith, same))
    | false ↦ elim (ltb used (length es)) as (λ (b : Bool). length es ≤ length (cond b (set es used p) more)) [
      | true ↦ (let same = length-set es used p in omega (arith, same))
      | false ↦ (let long = length-append es (p ∷ none ∷ none ∷ []) in omega (arith, long))
    ]
  ]

  piece-threes : (k : ℕ) → k ≤ length es → 0 < p.count → AreThrees (drop k es) → AreThrees (drop k (with_piece es used p))
  piece-threes k le some h = elim (joins l p) as (λ (b : Bool). AreThrees (drop k (cond b (set es (used - 1) (longer l p)) (with_place es used p)))) [
    | true ↦ threes-set_behind es k (used - 1) (longer l p) h (omega (arith, some))
    | false ↦ elim (ltb used (length es)) as (λ (b : Bool). AreThrees (drop k (cond b (set es used p) more))) [
      | true ↦ threes-set_behind es k used p h some
      | false ↦ threes-put_behind es k p le h some
    ]
  ]

  piece-front : (k : ℕ) → k < used → used ≤ length es → take k (with_piece es used p) ≡ take k es
  piece-front k lt le = elim (joins l p) as (λ (b : Bool). take k (cond b (set es (used - 1) (longer l p)) (with_place es used p)) ≡ take k es) [
    | true ↦ take-set-le k es (used - 1) (longer l p) (omega (arith, lt))
    | false ↦ elim (ltb used (length es)) as (λ (b : Bool). take k (cond b (set es used p) more) ≡ take k es) [
      | true ↦ take-set-le k es used p (omega (arith, lt))
      | false ↦ take-append-le k es (p ∷ none ∷ none ∷ []) (omega (arith, lt, le))
    ]
  ]

  used-least : used ≤ used_with es used p
  used-least = elim (joins l p) as (λ (b : Bool). used ≤ cond b used (used + 1)) [ true ↦ omega arith | false ↦ omega arith ]

-- ---- all pieces

pub grown-long : (pieces es : List Extent) (used : ℕ) → length es ≤ length (lengthened es used pieces)
grown-long [] es used = omega arith
grown-long (p ∷ ps) es used =
    let one = piece-long es used p in
    let rest = grown-long ps (with_piece es used p) (used_with es used p) in
    omega (arith, one, rest)

pub grown-threes : (pieces es : List Extent) (used k : ℕ) → k ≤ length es → HaveBlocks pieces → AreThrees (drop k es) → AreThrees (drop k (lengthened es used pieces))
grown-threes [] es used k le some h = h
grown-threes (p ∷ ps) es used k le some h =
    let long = piece-long es used p in
    grown-threes ps (with_piece es used p) (used_with es used p) k (omega (arith, le, long)) (All-tail (λ (x : Extent). 0 < x.count) p ps some)
    (piece-threes es used p k le (All-head (λ (x : Extent). 0 < x.count) p ps some) h)

pub grown-front : (pieces es : List Extent) (used k : ℕ) → AreUsedTo es used → HaveBlocks pieces → k < used → take k (lengthened es used pieces) ≡ take k es
grown-front [] es used k to some lt = refl
grown-front (p ∷ ps) es used k to some lt =
    let here = All-head (λ (x : Extent). 0 < x.count) p ps some in
    let least = used-least es used p in
    grown-front ps (with_piece es used p) (used_with es used p) k (piece-used es used p to here) (All-tail (λ (x : Extent). 0 < x.count) p ps some) (omega (arith, lt, least))
    ∙ piece-front es used p k lt to.within

pub grown-total : (pieces es : List Extent) → HaveBlocks pieces → block_total (lengthened es (used_places es) pieces) ≡ block_total es + block_total pieces
grown-total pieces es some =
    let blocks = ap (λ (l : List ℕ). length l) (lengthened-blocks pieces es (used_places es) (used_places-used es) some) in
    let parts = length-append (extent_blocks es) (extent_blocks pieces) in
    let new = length-blocks (lengthened es (used_places es) pieces) in
    let old = length-blocks es in
    let came = length-blocks pieces in
    omega (arith, blocks, parts, new, old, came)

-- where the extents from a place on have a block, the last one in use stands there
pub used-behind : (es : List Extent) (k : ℕ) → 0 < block_total (drop k es) → k < used_places es
used-behind es k some = elim (cases_lt k (used_places es)) [
  | inl lt ↦ lt
  | inr past ↦
      absurd
      (let to = used_places-used es in
      let empty : length (extent_blocks (drop k es)) ≡ 0 = ap (λ (l : List ℕ). length l) (rest-blocks es k (λ i d ge lt. to.rest i d (omega (arith, ge, past)) lt)) in
      let count = length-blocks (drop k es) in
      omega (arith, some, empty, count))
]
