-- Pieces by their places in a fork, and what is read at a place.
use Rattle.std.proofs.Common.{◌≡◌, ℕ, ◌+◌, ◌-◌, ◌<◌, ◌≤◌, inl, inr, suc, zero, true, false, leb, sym, subst, List, [], ◌∷◌, ◌++◌, length, take, drop, get_or, refl, ap, ◌∙◌, arith}
use Rattle.std.specs.List.Sorted.{IsNonDecreasingBy, IsPartitionedBy, IsPartitionPoint}
use Rattle.std.proofs.lemmas.Bool.{leb-true, leb-false, cases_lt}
use Rattle.std.proofs.lemmas.List.Sorted.{IsPartitionedBy-leb}
use Rattle.std.proofs.lemmas.List.{get_or-take, length-take, drop-append-le, take-append-le}
use Rattle.hfs_viewers.specs.declared.piece.Source.{Source}
use Rattle.hfs_viewers.specs.declared.piece.Source.TheVariants.{Base, Zeros, Given}
use Rattle.hfs_viewers.specs.declared.piece.Piece.{Piece}
use Rattle.hfs_viewers.specs.Pieces.{source_bytes, skipped, end_of, bytes_from, HasBytes, IsPiece, AreRow}
use Rattle.hfs_viewers.specs.PieceEdits.{EndsBehind, HaveEnded, MaySkip, MaySkipTo}
use Rattle.hfs_viewers.specs.Stretches.{MayRead, IsReadWhere, IsInBase}
use Rattle.hfs_viewers.specs.declared.reading.Stretch.{Stretch}
use Rattle.hfs_viewers.proofs.PieceLemmas.{source_take, source_drop, source_length, has_skipped, row-take, row-drop, row-rises, drop-parted}

begins-before : (l s : ℕ) (ps : List Piece) → AreRow l s ps → (j : ℕ) (d : Piece) → j < length ps → s ≤ (get_or ps j d).end
begins-before l s [] h j d lt = absurd (omega (arith, lt))
begins-before l s (p ∷ ps) h zero d lt = h.0.rises
begins-before l s (p ∷ ps) h (suc j) d lt = let next = begins-before l p.end ps h.1 j d (omega (arith, lt)) in let rises = h.0.rises in omega (arith, next, rises)

-- pieces in a row end in their order
pub rises-from_row : (l s : ℕ) (ps : List Piece) → AreRow l s ps → (i j : ℕ) (d : Piece) → i ≤ j → j < length ps → (get_or ps i d).end ≤ (get_or ps j d).end
rises-from_row l s [] h i j d le lt = absurd (omega (arith, lt))
rises-from_row l s (p ∷ ps) h zero zero d le lt = omega arith
rises-from_row l s (p ∷ ps) h zero (suc j) d le lt = begins-before l p.end ps h.1 j d (omega (arith, lt))
rises-from_row l s (p ∷ ps) h (suc i) zero d le lt = absurd (omega (arith, le))
rises-from_row l s (p ∷ ps) h (suc i) (suc j) d le lt = rises-from_row l p.end ps h.1 i j d (omega (arith, le)) (omega (arith, lt))

ended-before : (s n place : ℕ) (ps : List Piece) → s ≤ place → ((i : ℕ) (d : Piece) → i < n → i < length ps → (get_or ps i d).end ≤ place) → end_of s (take n ps) ≤ place
ended-before s zero place ps le all = le
ended-before s (suc n) place [] le all = le
ended-before s (suc n) place (p ∷ ps) le all = ended-before p.end n place ps (all 0 p (omega arith) (omega arith)) (λ i d lt within. all (suc i) d (omega (arith, lt)) (omega (arith, within)))

ended-behind : (n place : ℕ) (ps : List Piece) → ((i : ℕ) (d : Piece) → n ≤ i → i < length ps → place < (get_or ps i d).end) → EndsBehind place (drop n ps)
ended-behind zero place [] all = tt
ended-behind zero place (p ∷ ps) all = all 0 p (omega arith) (omega arith)
ended-behind (suc n) place [] all = tt
ended-behind (suc n) place (p ∷ ps) all = ended-behind n place ps (λ i d from lt. all (suc i) d (omega (arith, from)) (omega (arith, lt)))

pub ended-parted : (ps : List Piece) (place : ℕ) → IsNonDecreasingBy (λ (p : Piece). p.end) ps → IsPartitionedBy (λ (p : Piece). leb p.end place) ps
ended-parted ps place rises = IsPartitionedBy-leb (λ (p : Piece). p.end) ps place rises

pub ended-point : (ps : List Piece) (place n : ℕ) → n ≤ length ps → IsPartitionPoint (λ (p : Piece). leb p.end place ≡ true) (λ (p : Piece). leb p.end place ≡ false) ps n → HaveEnded ps place n
ended-point ps place n le point = record {
  within = le;
  before = ended-before 0 n place ps (omega arith) (λ i d lt within. leb-true (get_or ps i d).end place (point.0 i d (omega arith) lt));
  behind = ended-behind n place ps (λ i d from lt. leb-false (get_or ps i d).end place (point.1 i d from lt));
}

-- where the piece behind the n-th begins
pub ends-at : (s n : ℕ) (ps : List Piece) (d : Piece) → n < length ps → end_of s (take (suc n) ps) ≡ (get_or ps n d).end
ends-at s n [] d lt = absurd (omega (arith, lt))
ends-at s zero (p ∷ ps) d lt = refl
ends-at s (suc n) (p ∷ ps) d lt = ends-at p.end n ps d (omega (arith, lt))

pub drop-first : (n : ℕ) (ps : List Piece) (d : Piece) → n < length ps → drop n ps ≡ get_or ps n d ∷ drop (suc n) ps
drop-first n [] d lt = absurd (omega (arith, lt))
drop-first zero (p ∷ ps) d lt = refl
drop-first (suc n) (p ∷ ps) d lt = drop-first n ps d (omega (arith, lt))

-- ---- bytes of a piece from a place on

pub may-skip : (l b stop : ℕ) (ps : List Piece) → AreRow l b ps → b ≤ stop → EndsBehind stop ps → MaySkipTo b stop ps
may-skip l b stop [] h le behind = tt
may-skip l b stop (p ∷ ps) h le behind = by p.source h.0.has
  where
    by : (s : Source) → HasBytes l (p.end - b) s → MaySkip (stop - b) s
    by (Base from) has = omega (arith, has.1, behind, le)
    by Zeros has = tt
    by (Given bytes from) has = omega (arith, has.1, behind, le)

pub may-read : (l b place count : ℕ) (p : Piece) → IsPiece l b p → b ≤ place → place + count ≤ p.end → MayRead (place - b) count p.source
may-read l b place count p h le within = by p.source h.has
  where
    by : (s : Source) → HasBytes l (p.end - b) s → MayRead (place - b) count s
    by (Base from) has = omega (arith, has.1, within, le)
    by Zeros has = tt
    by (Given bytes from) has = omega (arith, has.0, within, le)

pub read-in-base : (l b place count : ℕ) (p : Piece) (s : Stretch) → IsPiece l b p → b ≤ place → place + count ≤ p.end → IsReadWhere l (place - b) count p.source s → IsInBase l s
read-in-base l b place count p s h le within read = by p.source h.has read
  where
    by : (src : Source) → HasBytes l (p.end - b) src → IsReadWhere l (place - b) count src s → IsInBase l s
    by (Base from) has r = r (omega (arith, has.0, within, le))
    by Zeros has r = r
    by (Given bytes from) has r = r

pub piece-at : (l : ℕ) (ps : List Piece) (n : ℕ) (d : Piece) → AreRow l 0 ps → n < length ps → IsPiece l (end_of 0 (take n ps)) (get_or ps n d)
piece-at l ps n d h lt = (subst (λ (rest : List Piece). AreRow l (end_of 0 (take n ps)) rest) (drop-first n ps d lt) (row-drop l 0 n ps h)).0

pub ends-within : (l : ℕ) (ps : List Piece) (n : ℕ) (d : Piece) → AreRow l 0 ps → n < length ps → (get_or ps n d).end ≤ end_of 0 ps
ends-within l ps n d h lt =
    let rest = (subst (λ (rest : List Piece). AreRow l (end_of 0 (take n ps)) rest) (drop-first n ps d lt) (row-drop l 0 n ps h)).1 in
    subst (λ (k : ℕ). (get_or ps n d).end ≤ k) (all n ps d lt) (row-rises l (get_or ps n d).end (drop (suc n) ps) rest)
  where
    all : (n : ℕ) (ps : List Piece) (d : Piece) → n < length ps → end_of (get_or ps n d).end (drop (suc n) ps) ≡ end_of 0 ps
    all n ps d lt = from 0 n ps d lt
      where
        from : (s n : ℕ) (ps : List Piece) (d : Piece) → n < length ps → end_of (get_or ps n d).end (drop (suc n) ps) ≡ end_of s ps
        from s n [] d lt = absurd (omega (arith, lt))
        from s zero (p ∷ ps) d lt = refl
        from s (suc n) (p ∷ ps) d lt = from p.end n ps d (omega (arith, lt))

pub stretch-shows : (l : ℕ) (base : List ℕ) (ps : List Piece) (n place count : ℕ) (d : Piece) → AreRow l 0 ps → length base ≡ l → n < length ps → end_of 0 (take n ps) ≤ place → place + count ≤ (get_or ps n d).end
    → source_bytes base count (skipped (place - end_of 0 (take n ps)) (get_or ps n d).source) ≡ take count (drop place (bytes_from base 0 ps))
stretch-shows l base ps n place count d h is lt le within =
    let start : ℕ = end_of 0 (take n ps) in
    let p : Piece = get_or ps n d in
    let piece = piece-at l ps n d h lt in
    let rest : List ℕ = bytes_from base p.end (drop (suc n) ps) in
    let parts : p.end - start ≡ (place - start) + (p.end - place) = omega (arith, le, within) in
    let long = source_length l base (p.end - start) p.source piece.has is in
    let few : place - start ≤ length (source_bytes base (p.end - start) p.source) = omega (arith, long, le, within) in
    let left : source_bytes base (p.end - start) p.source ≡ source_bytes base ((place - start) + (p.end - place)) p.source = ap (λ (k : ℕ). source_bytes base k p.source) parts in
    let long_left = source_length l base (p.end - place) (skipped (place - start) p.source) (has_skipped l (place - start) (p.end - place) p.source (subst (λ (k : ℕ). HasBytes l k p.source) parts piece.has)) is in
    let few_left : count ≤ length (source_bytes base (p.end - place) (skipped (place - start) p.source)) = omega (arith, long_left, within) in
    sym (ap (λ (b : List ℕ). take count b)
    (drop-parted l base ps n h is place le
    ∙ ap (λ (qs : List Piece). drop (place - start) (bytes_from base start qs)) (drop-first n ps d lt)
    ∙ drop-append-le (place - start) (source_bytes base (p.end - start) p.source) rest few
    ∙ ap (λ (b : List ℕ). b ++ rest) (ap (λ (b : List ℕ). drop (place - start) b) left ∙ source_drop base (place - start) (p.end - place) p.source))
    ∙ take-append-le count (source_bytes base (p.end - place) (skipped (place - start) p.source)) rest few_left
    ∙ source_take base count (p.end - place) (skipped (place - start) p.source) (omega (arith, within)))

pub may-skip-at : (l : ℕ) (ps : List Piece) (n place : ℕ) → AreRow l 0 ps → HaveEnded ps place n → MaySkipTo (end_of 0 (take n ps)) place (drop n ps)
may-skip-at l ps n place h ended = may-skip l (end_of 0 (take n ps)) place (drop n ps) (row-drop l 0 n ps h) ended.before ended.behind

-- as many pieces have ended at a later place, or more
pub in-order : (l : ℕ) (ps : List Piece) (i j place later : ℕ) → AreRow l 0 ps → HaveEnded ps place i → HaveEnded ps later j → place ≤ later → i ≤ j
in-order l ps i j place later h first last le = elim (cases_lt j i) [
  | inr order ↦ order
  | inl less ↦
      let behind : later < (get_or ps j none).end = first_of j ps none (fewer less) last.behind in
      let before : (get_or ps j none).end ≤ place = among i j none less (fewer less) first.before in
      absurd (omega (arith, behind, before, le))
]
  where
    none : Piece
    none = record { end = 0; source = Zeros }

    fewer : j < i → j < length ps
    fewer less = let within = first.within in omega (arith, less, within)

    first_of : (n : ℕ) (ps : List Piece) (d : Piece) → n < length ps → EndsBehind later (drop n ps) → later < (get_or ps n d).end
    first_of n ps d lt behind = subst (λ (rest : List Piece). EndsBehind later rest) (drop-first n ps d lt) behind

    among : (i j : ℕ) (d : Piece) → j < i → j < length ps → end_of 0 (take i ps) ≤ place → (get_or ps j d).end ≤ place
    among i j d less lt before =
        let long = length-take i ps in
        let ends = ends-within l (take i ps) j d (row-take l 0 i ps h) (omega (arith, less, lt, long)) in
        let same : (get_or (take i ps) j d).end ≡ (get_or ps j d).end = ap (λ (p : Piece). p.end) (get_or-take i ps j d less) in
        omega (arith, ends, same, before)
