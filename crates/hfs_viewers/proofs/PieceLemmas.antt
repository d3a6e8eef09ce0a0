-- Pieces in a row: their bytes, where they end, and those before a place and from it on.
use Rattle.std.proofs.Common.{◌≡◌, ℕ, ◌+◌, ◌-◌, ◌≤◌, suc, zero, Bool, true, false, cond, ltb, List, [], ◌∷◌, ◌++◌, length, take, drop, replicate, refl, sym, ap, ◌∙◌, subst, arith, append-nil, length-append, length-drop, length-take}
use Rattle.std.proofs.lemmas.Bool.{ltb-false}
use Rattle.std.proofs.lemmas.List.{append_assoc, take-take, take-replicate, drop-replicate, drop-take, drop-drop, drop_all, take_all, take-append-le, drop-append-le, take-append-drop, length-replicate}
use Rattle.std.proofs.Math.Seq.{take-append-add, drop-append-add}
use Rattle.hfs_viewers.specs.declared.piece.Source.{Source}
use Rattle.hfs_viewers.specs.declared.piece.Source.TheVariants.{Base, Zeros, Given}
use Rattle.hfs_viewers.specs.declared.piece.Piece.{Piece}
use Rattle.hfs_viewers.specs.Pieces.{source_bytes, skipped, end_of, bytes_from, HasBytes, AreRow}
use Rattle.hfs_viewers.specs.PieceEdits.{EndsBehind, front_of, back_of}

-- ---- sources

pub source_take : (base : List ℕ) (k n : ℕ) (s : Source) → k ≤ n → take k (source_bytes base n s) ≡ source_bytes base k s
source_take base k n (Base from) le = take-take k n (drop from base) le
source_take base k n Zeros le = take-replicate k n 0 le
source_take base k n (Given bytes from) le = take-take k n (drop from bytes) le

pub source_drop : (base : List ℕ) (k m : ℕ) (s : Source) → drop k (source_bytes base (k + m) s) ≡ source_bytes base m (skipped k s)
source_drop base k m (Base from) = drop-take k m (drop from base) ∙ ap (λ (l : List ℕ). take m l) (drop-drop k from base)
source_drop base k m Zeros = let rest : k + m - k ≡ m = omega arith in drop-replicate k (k + m) 0 ∙ ap (λ (n : ℕ). replicate n 0) rest
source_drop base k m (Given bytes from) = drop-take k m (drop from bytes) ∙ ap (λ (l : List ℕ). take m l) (drop-drop k from bytes)

pub source_length : (l : ℕ) (base : List ℕ) (n : ℕ) (s : Source) → HasBytes l n s → length base ≡ l → length (source_bytes base n s) ≡ n
source_length l base n (Base from) has is = omega (arith, has.0, is, length-take n (drop from base), length-drop from base)
source_length l base n Zeros has is = let zero_byte : ℕ = 0 in length-replicate n zero_byte
source_length l base n (Given bytes from) has is = omega (arith, has.0, length-take n (drop from bytes), length-drop from bytes)

pub has_fewer : (l k n : ℕ) (s : Source) → k ≤ n → HasBytes l n s → HasBytes l k s
has_fewer l k n (Base from) le has = (omega (arith, le, has.0), omega (arith, le, has.1))
has_fewer l k n Zeros le has = tt
has_fewer l k n (Given bytes from) le has = (omega (arith, le, has.0), omega (arith, le, has.1))

pub has_skipped : (l k m : ℕ) (s : Source) → HasBytes l (k + m) s → HasBytes l m (skipped k s)
has_skipped l k m (Base from) has = (omega (arith, has.0), omega (arith, has.1))
has_skipped l k m Zeros has = tt
has_skipped l k m (Given bytes from) has = (omega (arith, has.0), omega (arith, has.1))

-- ---- rows

pub bytes-append : (base : List ℕ) (s : ℕ) (xs ys : List Piece) → bytes_from base s (xs ++ ys) ≡ bytes_from base s xs ++ bytes_from base (end_of s xs) ys
bytes-append base s [] ys = refl
bytes-append base s (x ∷ xs) ys =
    ap (λ (l : List ℕ). source_bytes base (x.end - s) x.source ++ l) (bytes-append base x.end xs ys)
    ∙ sym (append_assoc (source_bytes base (x.end - s) x.source) (bytes_from base x.end xs) (bytes_from base (end_of x.end xs) ys))

pub end-append : (s : ℕ) (xs ys : List Piece) → end_of s (xs ++ ys) ≡ end_of (end_of s xs) ys
end-append s [] ys = refl
end-append s (x ∷ xs) ys = end-append x.end xs ys

pub row-append : (l s : ℕ) (xs ys : List Piece) → AreRow l s xs → AreRow l (end_of s xs) ys → AreRow l s (xs ++ ys)
row-append l s [] ys h k = k
row-append l s (x ∷ xs) ys h k = (h.0, row-append l x.end xs ys h.1 k)

pub row-take : (l s n : ℕ) (ps : List Piece) → AreRow l s ps → AreRow l s (take n ps)
row-take l s zero ps h = tt
row-take l s (suc n) [] h = tt
row-take l s (suc n) (p ∷ ps) h = (h.0, row-take l p.end n ps h.1)

pub row-drop : (l s n : ℕ) (ps : List Piece) → AreRow l s ps → AreRow l (end_of s (take n ps)) (drop n ps)
row-drop l s zero ps h = h
row-drop l s (suc n) [] h = tt
row-drop l s (suc n) (p ∷ ps) h = row-drop l p.end n ps h.1

pub length-row : (l : ℕ) (base : List ℕ) (s : ℕ) (ps : List Piece) → AreRow l s ps → length base ≡ l → s + length (bytes_from base s ps) ≡ end_of s ps
length-row l base s [] h is = omega arith
length-row l base s (p ∷ ps) h is =
    let first = source_length l base (p.end - s) p.source h.0.has is in
    let rest = length-row l base p.end ps h.1 is in
    let rises = h.0.rises in
    omega (arith, first, rest, rises, length-append (source_bytes base (p.end - s) p.source) (bytes_from base p.end ps))

pub row-rises : (l s : ℕ) (ps : List Piece) → AreRow l s ps → s ≤ end_of s ps
row-rises l s [] h = omega arith
row-rises l s (p ∷ ps) h = let rest = row-rises l p.end ps h.1 in let rises = h.0.rises in omega (arith, rest, rises)

-- ---- what the first piece has before a place

ends-here : (a place : ℕ) → a ≤ place → ltb a place ≡ false → 0 ≡ place - a
ends-here a place le e = let past : place ≤ a = ltb-false a place e in omega (arith, le, past)

pub front-bytes : (l : ℕ) (base : List ℕ) (a place : ℕ) (ps : List Piece) → AreRow l a ps → length base ≡ l → EndsBehind place ps → a ≤ place → bytes_from base a (front_of a place ps) ≡ take (place - a) (bytes_from base a ps)
front-bytes l base a place [] h is behind le = sym (take_all (place - a) [] (omega arith))
front-bytes l base a place (p ∷ ps) h is behind le =
    elim (ltb a place) as (λ (t : Bool). ltb a place ≡ t → bytes_from base a (cond t ((record { end = place; source = p.source }) ∷ []) []) ≡ take (place - a) (bytes_from base a (p ∷ ps))) [
      | true ↦ λ e.
          let long = source_length l base (p.end - a) p.source h.0.has is in
          let rises = h.0.rises in
          let within : place - a ≤ length (source_bytes base (p.end - a) p.source) = omega (arith, long, behind, le) in
          let few : place - a ≤ p.end - a = omega (arith, behind) in
          append-nil (source_bytes base (place - a) p.source)
          ∙ sym (take-append-le (place - a) (source_bytes base (p.end - a) p.source) (bytes_from base p.end ps) within ∙ source_take base (place - a) (p.end - a) p.source few)
      | false ↦ λ e. let none : 0 ≡ place - a = ends-here a place le e in ap (λ (n : ℕ). take n (bytes_from base a (p ∷ ps))) none
    ] refl

pub front-end : (a place : ℕ) (ps : List Piece) → a ≤ place → place ≤ end_of a ps → end_of a (front_of a place ps) ≡ place
front-end a place [] le within = omega (arith, le, within)
front-end a place (p ∷ ps) le within =
    elim (ltb a place) as (λ (t : Bool). ltb a place ≡ t → end_of a (cond t ((record { end = place; source = p.source }) ∷ []) []) ≡ place) [
      | true ↦ λ e. refl
      | false ↦ λ e. let none = ends-here a place le e in omega (arith, le, none)
    ] refl

pub front-row : (l a place : ℕ) (ps : List Piece) → AreRow l a ps → EndsBehind place ps → a ≤ place → AreRow l a (front_of a place ps)
front-row l a place [] h behind le = tt
front-row l a place (p ∷ ps) h behind le =
    elim (ltb a place) as (λ (t : Bool). AreRow l a (cond t ((record { end = place; source = p.source }) ∷ []) [])) [
      | true ↦ (record { rises = le; has = has_fewer l (place - a) (p.end - a) p.source (omega (arith, behind)) h.0.has }, tt)
      | false ↦ tt
    ]

-- ---- what it has from a place on

pub back-bytes : (l : ℕ) (base : List ℕ) (b stop : ℕ) (ps : List Piece) → AreRow l b ps → length base ≡ l → EndsBehind stop ps → b ≤ stop → bytes_from base stop (back_of b stop ps ++ drop 1 ps) ≡ drop (stop - b) (bytes_from base b ps)
back-bytes l base b stop [] h is behind le = sym (drop_all (stop - b) [] (omega arith))
back-bytes l base b stop (p ∷ ps) h is behind le =
    let long = source_length l base (p.end - b) p.source h.0.has is in
    let within : stop - b ≤ length (source_bytes base (p.end - b) p.source) = omega (arith, long, behind, le) in
    let parts : p.end - b ≡ (stop - b) + (p.end - stop) = omega (arith, behind, le) in
    sym (drop-append-le (stop - b) (source_bytes base (p.end - b) p.source) (bytes_from base p.end ps) within
    ∙ ap (λ (l : List ℕ). l ++ bytes_from base p.end ps) (ap (λ (n : ℕ). drop (stop - b) (source_bytes base n p.source)) parts ∙ source_drop base (stop - b) (p.end - stop) p.source))

pub back-row : (l b stop : ℕ) (ps : List Piece) → AreRow l b ps → EndsBehind stop ps → b ≤ stop → AreRow l stop (back_of b stop ps ++ drop 1 ps)
back-row l b stop [] h behind le = tt
back-row l b stop (p ∷ ps) h behind le =
    let parts : p.end - b ≡ (stop - b) + (p.end - stop) = omega (arith, behind, le) in
    (record { rises = omega (arith, behind); has = has_skipped l (stop - b) (p.end - stop) p.source (subst (λ (n : ℕ). HasBytes l n p.source) parts h.0.has) }, h.1)

-- ---- the bytes before a place that lies among the pieces from the n-th on, and those from it on

module _ (l : ℕ) (base : List ℕ) (ps : List Piece) (n : ℕ) (h : AreRow l 0 ps) (is : length base ≡ l) where
  parted : bytes_from base 0 ps ≡ bytes_from base 0 (take n ps) ++ bytes_from base (end_of 0 (take n ps)) (drop n ps)
  parted = ap (λ (l : List Piece). bytes_from base 0 l) (sym (take-append-drop n ps)) ∙ bytes-append base 0 (take n ps) (drop n ps)

  long : length (bytes_from base 0 (take n ps)) ≡ end_of 0 (take n ps)
  long = let all = length-row l base 0 (take n ps) (row-take l 0 n ps h) is in omega (arith, all)

  pub take-parted : (place : ℕ) → end_of 0 (take n ps) ≤ place → take place (bytes_from base 0 ps) ≡ bytes_from base 0 (take n ps) ++ take (place - end_of 0 (take n ps)) (bytes_from base (end_of 0 (take n ps)) (drop n ps))
  take-parted place le =
      let at : place ≡ length (bytes_from base 0 (take n ps)) + (place - end_of 0 (take n ps)) = omega (arith, long, le) in
      ap (λ (l : List ℕ). take place l) parted
      ∙ ap (λ (k : ℕ). take k (bytes_from base 0 (take n ps) ++ bytes_from base (end_of 0 (take n ps)) (drop n ps))) at
      ∙ take-append-add (bytes_from base 0 (take n ps)) (bytes_from base (end_of 0 (take n ps)) (drop n ps)) (place - end_of 0 (take n ps))

  pub drop-parted : (place : ℕ) → end_of 0 (take n ps) ≤ place → drop place (bytes_from base 0 ps) ≡ drop (place - end_of 0 (take n ps)) (bytes_from base (end_of 0 (take n ps)) (drop n ps))
  drop-parted place le =
      let at : place ≡ length (bytes_from base 0 (take n ps)) + (place - end_of 0 (take n ps)) = omega (arith, long, le) in
      ap (λ (l : List ℕ). drop place l) parted
      ∙ ap (λ (k : ℕ). drop k (bytes_from base 0 (take n ps) ++ bytes_from base (end_of 0 (take n ps)) (drop n ps))) at
      ∙ drop-append-add (bytes_from base 0 (take n ps)) (bytes_from base (end_of 0 (take n ps)) (drop n ps)) (place - end_of 0 (take n ps))
