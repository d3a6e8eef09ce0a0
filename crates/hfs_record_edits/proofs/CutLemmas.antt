-- The blocks of extents of which the first ones stay, and the others.
use Rattle.std.proofs.Common.{◌≡◌, ℕ, zero, suc, ◌+◌, ◌-◌, ◌<◌, ◌≤◌, inl, inr, Bool, true, false, cond, eqb, leb, List, [], ◌∷◌, ◌++◌, length, take, drop, set, get_or, refl, sym, ap, ◌∙◌, subst, arith}
use Rattle.std.specs.Prelude.{min}
use Rattle.std.specs.List.{range_with_len}
use Rattle.std.proofs.Math.Seq.{take-append-add, drop-append-add, drop-append_seam}
use Rattle.std.proofs.lemmas.Bool.{cases_lt, cases_Bool, le-leb, leb-true, ne_eqb}
use Rattle.std.proofs.lemmas.List.{append-nil, append_assoc, take_more_set, drop-set-lt, take-append-le, drop-append-le, take_all, drop_all, drop_more}
use Rattle.std.proofs.lemmas.List.Elements.{All-head, All-tail}
use Rattle.std.proofs.lemmas.List.FromFn.{length-range_with_len}
use Rattle.hfs_fields.specs.declared.extent.Extent.{Extent}
use Rattle.hfs_space.proofs.FromLemmas.{cut as range-behind}
use Rattle.hfs_space.specs.Extents.{extent_blocks, IsExtentWithin, AreExtentsWithin}
use Rattle.hfs_space.proofs.ForkLawLemmas.{range-add}
use Rattle.hfs_space.proofs.TreeRuns.{take-range}
use Rattle.hfs_record_edits.specs.Cuts.{cut_extent, cut, surplus}

-- ---- one extent

le-all : (n : ℕ) (e : Extent) → e.count ≤ n → leb e.count n ≡ true
le-all n e le = le-leb e.count n le

pub gt-all : (n : ℕ) (e : Extent) → n < e.count → leb e.count n ≡ false
gt-all n e lt = elim (cases_Bool (leb e.count n)) [ inl is ↦ absurd (let le = leb-true e.count n is in omega (arith, le, lt)) | inr not ↦ not ]

pub cut-whole : (n : ℕ) (e : Extent) → e.count ≤ n → cut_extent n e ≡ e
cut-whole n e le = ap (λ (b : Bool). cond b e (cond (eqb n 0) (record { first = 0; count = 0 }) (record { first = e.first; count = n }))) (le-all n e le)

cut-part : (n : ℕ) (e : Extent) → n < e.count → range_with_len (cut_extent n e).first (cut_extent n e).count ≡ range_with_len e.first n
cut-part n e lt =
    ap (λ (b : Bool). let x : Extent = cond b e (cond (eqb n 0) (record { first = 0; count = 0 }) (record { first = e.first; count = n })) in range_with_len x.first x.count) (gt-all n e lt)
    ∙ by n
  where
    by : (n : ℕ) → (let x : Extent = cond (eqb n 0) (record { first = 0; count = 0 }) (record { first = e.first; count = n }) in range_with_len x.first x.count) ≡ range_with_len e.first n
    by zero = refl
    by (suc n) =
        ap (λ (b : Bool). let x : Extent = cond b (record { first = 0; count = 0 }) (record { first = e.first; count = suc n }) in range_with_len x.first x.count)
        (ne_eqb (suc n) 0 (λ same. omega (arith, same)))

-- ---- extents

pub blocks-cut : (n : ℕ) (es : List Extent) → extent_blocks (cut n es) ≡ take n (extent_blocks es)
blocks-cut n [] = sym (take_all n [] (omega arith))
blocks-cut n (e ∷ es) =
    let own = range_with_len e.first e.count in
    let long = length-range_with_len e.first e.count in
    let rest = blocks-cut (n - e.count) es in
    elim (cases_lt n e.count) [
      | inr all ↦
          (λ t. (let x : Extent = cut-whole n e all t in range_with_len x.first x.count) ++ rest t)
          ∙ sym (ap (λ m. take m (own ++ extent_blocks es)) (let s : n ≡ length own + (n - e.count) = omega (arith, all, long) in s) ∙ take-append-add own (extent_blocks es) (n - e.count))
      | inl part ↦
          let none : n - e.count ≡ 0 = omega (arith, part) in
          let empty : extent_blocks (cut (n - e.count) es) ≡ [] = rest ∙ ap (λ m. take m (extent_blocks es)) none in
          let few : min n e.count ≡ n = omega (arith, part) in
          (λ t. cut-part n e part t ++ empty t) ∙ append-nil (range_with_len e.first n)
          ∙ sym (take-append-le n own (extent_blocks es) (omega (arith, part, long)) ∙ take-range e.first e.count n ∙ ap (range_with_len e.first) few)
    ]

pub blocks-surplus : (n : ℕ) (es : List Extent) → extent_blocks (surplus n es) ≡ drop n (extent_blocks es)
blocks-surplus n [] = sym (drop_all n [] (omega arith))
blocks-surplus n (e ∷ es) =
    let own = range_with_len e.first e.count in
    let long = length-range_with_len e.first e.count in
    let piece : Extent = record { first = e.first + n; count = e.count - n } in
    elim (cases_lt n e.count) [
      | inr all ↦
          ap (λ (b : Bool). extent_blocks (cond b (surplus (n - e.count) es) (piece ∷ surplus 0 es))) (le-all n e all) ∙ blocks-surplus (n - e.count) es
          ∙ sym (ap (λ m. drop m (own ++ extent_blocks es)) (let s : n ≡ length own + (n - e.count) = omega (arith, all, long) in s) ∙ drop-append-add own (extent_blocks es) (n - e.count))
      | inl part ↦
          let behind = sym (range-behind e.first e.count n (omega (arith, part))) in
          ap (λ (b : Bool). extent_blocks (cond b (surplus (n - e.count) es) (piece ∷ surplus 0 es))) (gt-all n e part)
          ∙ (λ t. behind t ++ blocks-surplus 0 es t)
          ∙ sym (drop-append-le n own (extent_blocks es) (omega (arith, part, long)))
    ]

pub within-surplus : (most n : ℕ) (es : List Extent) → AreExtentsWithin most es → AreExtentsWithin most (surplus n es)
within-surplus most n [] within = within
within-surplus most n (e ∷ es) within =
    let rest = All-tail (IsExtentWithin most) e es within in
    let piece : Extent = record { first = e.first + n; count = e.count - n } in
    elim (cases_lt n e.count) [
      | inr all ↦ subst (λ (b : Bool). AreExtentsWithin most (cond b (surplus (n - e.count) es) (piece ∷ surplus 0 es))) (sym (le-all n e all)) (within-surplus most (n - e.count) es rest)
      | inl part ↦
          subst (λ (b : Bool). AreExtentsWithin most (cond b (surplus (n - e.count) es) (piece ∷ surplus 0 es))) (sym (gt-all n e part))
          (with_head most piece (surplus 0 es) (λ some. let end = All-head (IsExtentWithin most) e es within (omega (arith, part)) in omega (arith, end, part)) (within-surplus most 0 es rest))
    ]
  where
    with_head : (most : ℕ) (x : Extent) (xs : List Extent) → IsExtentWithin most x → AreExtentsWithin most xs → AreExtentsWithin most (x ∷ xs)
    with_head most x xs first others zero d lt = first
    with_head most x xs first others (suc k) d lt = others k d (omega (arith, lt))

-- ---- one more extent is passed

module _ (es : List Extent) (i : ℕ) (d : Extent) (lt : i < length es) (stay : ℕ) (items whole : List Extent) (so_far : items ++ surplus stay (drop i es) ≡ whole) where
  abbrev pub e : Extent
  e = get_or es i d

  abbrev pub piece : Extent
  piece = record { first = e.first + stay; count = e.count - stay }

  opened : items ++ surplus stay (e ∷ drop (i + 1) es) ≡ whole
  opened = ap (λ (l : List Extent). items ++ surplus stay l) (sym (drop_more es i d lt)) ∙ so_far

  pub surplus-part : stay < e.count → (items ++ piece ∷ []) ++ surplus (stay - e.count) (drop (i + 1) es) ≡ whole
  surplus-part part =
      append_assoc items (piece ∷ []) (surplus (stay - e.count) (drop (i + 1) es))
      ∙ ap (λ m. items ++ piece ∷ surplus m (drop (i + 1) es)) (let z : stay - e.count ≡ 0 = omega (arith, part) in z)
      ∙ ap (λ (b : Bool). items ++ cond b (surplus (stay - e.count) (drop (i + 1) es)) (piece ∷ surplus 0 (drop (i + 1) es))) (sym (gt-all stay e part)) ∙ opened

  pub surplus-none : e.count ≤ stay → items ++ surplus (stay - e.count) (drop (i + 1) es) ≡ whole
  surplus-none all =
      ap (λ (b : Bool). items ++ cond b (surplus (stay - e.count) (drop (i + 1) es)) (piece ∷ surplus 0 (drop (i + 1) es))) (sym (le-all stay e all)) ∙ opened

pub surplus-end : (es : List Extent) (i stay : ℕ) (items whole : List Extent) → items ++ surplus stay (drop i es) ≡ whole → length es ≤ i → items ≡ whole
surplus-end es i stay items whole so_far past = sym (append-nil items) ∙ sym (ap (λ (l : List Extent). items ++ surplus stay l) (drop_all i es past)) ∙ so_far

-- ---- three extents

abbrev unused : Extent
unused = record { first = 0; count = 0 }

pub cut-three : (es : List Extent) (n rest last : ℕ) (x y z : Extent) → length es ≡ 3 → rest ≡ n - (get_or es 0 unused).count → last ≡ rest - (get_or es 1 unused).count
    → x ≡ cut_extent n (get_or es 0 unused) → y ≡ cut_extent rest (get_or es 1 unused) → z ≡ cut_extent last (get_or es 2 unused) → x ∷ y ∷ z ∷ [] ≡ cut n es
cut-three [] n rest last x y z long r l p q s = absurd (omega (arith, long))
cut-three (a ∷ []) n rest last x y z long r l p q s = absurd (omega (arith, long))
cut-three (a ∷ b ∷ []) n rest last x y z long r l p q s = absurd (omega (arith, long))
cut-three (a ∷ b ∷ c ∷ []) n rest last x y z long r l p q s =
    λ t. p t ∷ (q ∙ ap (λ m. cut_extent m b) r) t ∷ (s ∙ ap (λ m. cut_extent m c) (l ∙ ap (λ m. m - b.count) r)) t ∷ []
cut-three (a ∷ b ∷ c ∷ d ∷ es) n rest last x y z long r l p q s = absurd (omega (arith, long))

-- ---- all of them in their places

pub cut-step : (es : List Extent) (i stay : ℕ) (d y : Extent) (next : ℕ) → i < length es → y ≡ cut_extent stay (get_or es i d) → next ≡ stay - (get_or es i d).count
    → take (i + 1) (set es i y) ++ cut next (drop (i + 1) (set es i y)) ≡ take i es ++ cut stay (drop i es)
cut-step es i stay d y next lt is less =
    (λ t. take_more_set es i y lt t ++ cut (less t) (drop-set-lt (i + 1) es i y (omega arith) t))
    ∙ append_assoc (take i es) (y ∷ []) (cut (stay - (get_or es i d).count) (drop (i + 1) es))
    ∙ ap (λ (x : Extent). take i es ++ x ∷ cut (stay - (get_or es i d).count) (drop (i + 1) es)) is
    ∙ ap (λ (l : List Extent). take i es ++ cut stay l) (sym (drop_more es i d lt))

pub cut-end : (es : List Extent) (i stay : ℕ) → length es ≤ i → take i es ++ cut stay (drop i es) ≡ es
cut-end es i stay past = (λ t. take_all i es past t ++ cut stay (drop_all i es past t)) ∙ append-nil es
