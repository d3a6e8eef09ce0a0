-- Extents to which pieces come, one after the other.
use Rattle.std.proofs.Common.{◌≡◌, ℕ, zero, suc, ◌+◌, ◌-◌, ◌<◌, ◌≤◌, inl, inr, Bool, true, false, cond, eqb, ltb, List, [], ◌∷◌, ◌++◌, length, take, drop, set, get_or, refl, sym, ap, ◌∙◌, subst, arith}
use Rattle.std.specs.List.{All, range_with_len}
use Rattle.std.proofs.lemmas.Bool.{cases_lt, cases_Bool, eqb-true, ne_eqb, lt-ltb, ltb-true, and_parts, true≢false}
use Rattle.std.proofs.lemmas.List.{append-nil, append_assoc, take-append-drop, take-set, drop-set, drop_more, drop_all, length-append, length-set, get_or-drop, get_or-set_same, get_or-set_other, get_or-append_right, get_or_default, get_or-take, length-drop, length-take-le}
use Rattle.std.proofs.lemmas.List.Concat.{flat_map-append}
use Rattle.std.proofs.lemmas.List.Elements.{All-head, All-tail}
use Rattle.hfs_fields.specs.declared.extent.Extent.{Extent}
use Rattle.hfs_space.specs.Extents.{extent_blocks}
use Rattle.hfs_space.proofs.ForkLawLemmas.{range-add}
use Rattle.hfs_record_edits.specs.Lengthened.{none, used_places, last_used, joins, longer, with_place, with_piece, used_with, lengthened}

-- the last of the extents that have blocks is the one before this place
pub record AreUsedTo (es : List Extent) (used : ℕ) : Type 0 where
  pub within : used ≤ length es
  pub last : (d : Extent) → 0 < used → 0 < (get_or es (used - 1) d).count
  pub rest : (i : ℕ) (d : Extent) → used ≤ i → i < length es → (get_or es i d).count ≡ 0

-- there is one such place
pub used-same : (es : List Extent) (a b : ℕ) → AreUsedTo es a → AreUsedTo es b → a ≡ b
used-same es a b p q = elim (cases_lt a b) [
  | inl less ↦ apart a b p q less
  | inr more ↦ elim (cases_lt b a) [ inl less ↦ sym (apart b a q p less) | inr same ↦ omega (arith, more, same) ]
]
  where
    apart : (x y : ℕ) → AreUsedTo es x → AreUsedTo es y → x < y → x ≡ y
    apart x y p q less =
        let some = q.last none (omega (arith, less)) in
        let within = q.within in
        let nothing = p.rest (y - 1) none (omega (arith, less)) (omega (arith, less, within)) in
        absurd (omega (arith, some, nothing))

pub used_places-used : (es : List Extent) → AreUsedTo es (used_places es)
used_places-used [] = record { within = omega arith; last = λ d some. absurd (omega (arith, some)); rest = λ i d ge lt. absurd (omega (arith, lt)) }
used_places-used (e ∷ es) = by (used_places es) (used_places-used es)
  where
    first : (n : ℕ) → e.count ≡ n → AreUsedTo es 0 → AreUsedTo (e ∷ es) (cond (eqb n 0) 0 1)
    first zero is h = record {
      within = omega arith;
      last = λ d some. absurd (omega (arith, some));
      rest = λ i d ge lt. here i d lt;
    }
      where
        here : (i : ℕ) (d : Extent) → i < length (e ∷ es) → (get_or (e ∷ es) i d).count ≡ 0
        here zero d lt = is
        here (suc i) d lt = h.rest i d (omega arith) (omega (arith, lt))
    first (suc n) is h =
        subst (λ (b : Bool). AreUsedTo (e ∷ es) (cond b 0 1)) (sym (ne_eqb (suc n) 0 (λ same. omega (arith, same))))
        (record {
          within = omega arith;
          last = λ d some. omega (arith, is);
          rest = λ i d ge lt. behind i d ge lt;
        })
      where
        behind : (i : ℕ) (d : Extent) → 1 ≤ i → i < length (e ∷ es) → (get_or (e ∷ es) i d).count ≡ 0
        behind zero d ge lt = absurd (omega (arith, ge))
        behind (suc i) d ge lt = h.rest i d (omega arith) (omega (arith, lt))

    by : (k : ℕ) → AreUsedTo es k → AreUsedTo (e ∷ es) (cond (eqb k 0) (cond (eqb e.count 0) 0 1) (k + 1))
    by zero h = first e.count refl h
    by (suc k) h =
        subst (λ (b : Bool). AreUsedTo (e ∷ es) (cond b (cond (eqb e.count 0) 0 1) (suc k + 1))) (sym (ne_eqb (suc k) 0 (λ same. omega (arith, same))))
        (record {
          within = (let le = h.within in omega (arith, le));
          last = λ d some. before d;
          rest = λ i d ge lt. behind i d ge lt;
        })
      where
        before : (d : Extent) → 0 < (get_or (e ∷ es) (suc k + 1 - 1) d).count
        before d = subst (λ (m : ℕ). 0 < (get_or (e ∷ es) m d).count) (let s : suc k ≡ suc k + 1 - 1 = omega arith in s) (subst (λ (m : ℕ). 0 < (get_or es m d).count) (let s : suc k - 1 ≡ k = omega arith in s) (h.last d (omega arith)))

        behind : (i : ℕ) (d : Extent) → suc k + 1 ≤ i → i < length (e ∷ es) → (get_or (e ∷ es) i d).count ≡ 0
        behind zero d ge lt = absurd (omega (arith, ge))
        behind (suc i) d ge lt = h.rest i d (omega (arith, ge)) (omega (arith, lt))

-- ---- the blocks

pub blocks-append : (xs ys : List Extent) → extent_blocks (xs ++ ys) ≡ extent_blocks xs ++ extent_blocks ys
blocks-append xs ys = flat_map-append (λ (e : Extent). range_with_len e.first e.count) xs ys

none-blocks : (xs : List Extent) → ((i : ℕ) (d : Extent) → i < length xs → (get_or xs i d).count ≡ 0) → extent_blocks xs ≡ []
none-blocks [] h = refl
none-blocks (x ∷ xs) h = (λ t. range_with_len x.first (h 0 x (omega arith) t) ++ extent_blocks xs) ∙ none-blocks xs (λ i d lt. h (suc i) d (omega (arith, lt)))

pub rest-blocks : (es : List Extent) (k : ℕ) → ((i : ℕ) (d : Extent) → k ≤ i → i < length es → (get_or es i d).count ≡ 0) → extent_blocks (drop k es) ≡ []
rest-blocks es k h =
    none-blocks (drop k es) (λ i d lt.
    let long = length-drop k es in
    ap (λ (e : Extent). e.count) (get_or-drop k es i d) ∙ h (k + i) d (omega arith) (omega (arith, lt, long)))

-- the blocks up to a place behind which there are none
front-blocks : (es : List Extent) (k : ℕ) → ((i : ℕ) (d : Extent) → k ≤ i → i < length es → (get_or es i d).count ≡ 0) → extent_blocks es ≡ extent_blocks (take k es)
front-blocks es k h =
    ap (λ (l : List Extent). extent_blocks l) (sym (take-append-drop k es)) ∙ blocks-append (take k es) (drop k es) ∙ ap (λ l. extent_blocks (take k es) ++ l) (rest-blocks es k h) ∙ append-nil (extent_blocks (take k es))

set-split : (es : List Extent) (i : ℕ) (y : Extent) → i < length es → set es i y ≡ take i es ++ y ∷ drop (i + 1) es
set-split es i y lt = sym (take-append-drop i (set es i y)) ∙ (λ t. take-set es i y t ++ drop-set es i y lt t)

-- what an extent at a place adds, behind which there are none
set-blocks : (es : List Extent) (i : ℕ) (y : Extent) → i < length es → ((j : ℕ) (d : Extent) → i + 1 ≤ j → j < length es → (get_or es j d).count ≡ 0) → extent_blocks (set es i y) ≡ extent_blocks (take i es) ++ range_with_len y.first y.count
set-blocks es i y lt h =
    ap (λ (l : List Extent). extent_blocks l) (set-split es i y lt) ∙ blocks-append (take i es) (y ∷ drop (i + 1) es)
    ∙ ap (λ l. extent_blocks (take i es) ++ (range_with_len y.first y.count ++ l)) (rest-blocks es (i + 1) h)
    ∙ ap (λ l. extent_blocks (take i es) ++ l) (append-nil (range_with_len y.first y.count))

one-blocks : (e : Extent) → extent_blocks (e ∷ []) ≡ range_with_len e.first e.count
one-blocks e = append-nil (range_with_len e.first e.count)

place-blocks : (es : List Extent) (k : ℕ) (p : Extent) → k ≤ length es → ((i : ℕ) (d : Extent) → k ≤ i → i < length es → (get_or es i d).count ≡ 0) → extent_blocks (with_place es k p) ≡ extent_blocks es ++ extent_blocks (p ∷ [])
place-blocks es k p within h = elim (cases_lt k (length es)) [
  | inl lt ↦
      ap (λ (b : Bool). extent_blocks (cond b (set es k p) (es ++ p ∷ none ∷ none ∷ []))) (lt-ltb k (length es) lt)
      ∙ set-blocks es k p lt (λ j d ge below. h j d (omega (arith, ge)) below)
      ∙ (λ t. sym (front-blocks es k h) t ++ sym (one-blocks p) t)
  | inr past ↦
      ap (λ (b : Bool). extent_blocks (cond b (set es k p) (es ++ p ∷ none ∷ none ∷ []))) (not-below k (length es) past)
      ∙ blocks-append es (p ∷ none ∷ none ∷ [])
]
  where
    not-below : (a b : ℕ) → b ≤ a → ltb a b ≡ false
    not-below a b le = elim (cases_Bool (ltb a b)) [ inl is ↦ absurd (let lt = ltb-true a b is in omega (arith, lt, le)) | inr not ↦ not ]

-- ---- one piece

-- a piece that joins the last extent, or one that doesn't
module _ (es : List Extent) (used : ℕ) (p : Extent) (to : AreUsedTo es used) where
  -- one that joins has an extent before it
  joined-some : joins (last_used es used) p ≡ true → 0 < used
  joined-some e = by used e
    where
      by : (n : ℕ) → joins (last_used es n) p ≡ true → 0 < n
      by zero e = absurd (true≢false (sym e))
      by (suc n) e = omega arith

  last-is : 0 < used → last_used es used ≡ get_or es (used - 1) none
  last-is some = by used some
    where
      by : (n : ℕ) → 0 < n → last_used es n ≡ get_or es (n - 1) none
      by zero some = absurd (omega (arith, some))
      by (suc n) some = ap (λ (b : Bool). cond b none (get_or es (suc n - 1) none)) (ne_eqb (suc n) 0 (λ same. omega (arith, same)))

  joined-blocks : joins (last_used es used) p ≡ true → extent_blocks (set es (used - 1) (longer (last_used es used) p)) ≡ extent_blocks es ++ extent_blocks (p ∷ [])
  joined-blocks e =
      let some = joined-some e in
      let within = to.within in
      let lt : used - 1 < length es = omega (arith, some, within) in
      let l = last_used es used in
      let own = get_or es (used - 1) none in
      let parts = and_parts (ltb 0 l.count) (eqb (l.first + l.count) p.first) e in
      let end : l.first + l.count ≡ p.first = eqb-true (l.first + l.count) p.first parts.1 in
      let front = extent_blocks (take (used - 1) es) in
      let nothing : (j : ℕ) (d : Extent) → used - 1 + 1 ≤ j → j < length es → (get_or es j d).count ≡ 0 = λ j d ge below. to.rest j d (omega (arith, ge, some)) below in
      let was : extent_blocks es ≡ front ++ range_with_len l.first l.count =
      ap (λ (x : List Extent). extent_blocks x) (sym (same-set es (used - 1) lt)) ∙ set-blocks es (used - 1) own lt nothing ∙ ap (λ (x : Extent). front ++ range_with_len x.first x.count) (sym (last-is some)) in
      set-blocks es (used - 1) (longer l p) lt nothing
      ∙ ap (λ x. front ++ x) (range-add l.first l.count p.count ∙ ap (λ n. range_with_len l.first l.count ++ range_with_len n p.count) end)
      ∙ sym (append_assoc front (range_with_len l.first l.count) (range_with_len p.first p.count))
      ∙ (λ t. sym was t ++ sym (one-blocks p) t)
    where
      same-set : (es : List Extent) (i : ℕ) → i < length es → set es i (get_or es i none) ≡ es
      same-set [] i lt = absurd (omega (arith, lt))
      same-set (x ∷ xs) zero lt = refl
      same-set (x ∷ xs) (suc i) lt = ap (λ (l : List Extent). x ∷ l) (same-set xs i (omega (arith, lt)))

  pub piece-blocks : extent_blocks (with_piece es used p) ≡ extent_blocks es ++ extent_blocks (p ∷ [])
  piece-blocks = elim (cases_Bool (joins (last_used es used) p)) [
    | inl is ↦ ap (λ (b : Bool). extent_blocks (cond b (set es (used - 1) (longer (last_used es used) p)) (with_place es used p))) is ∙ joined-blocks is
    | inr not ↦ ap (λ (b : Bool). extent_blocks (cond b (set es (used - 1) (longer (last_used es used) p)) (with_place es used p))) not ∙ place-blocks es used p to.within to.rest
  ]

  joined-used : joins (last_used es used) p ≡ true → AreUsedTo (set es (used - 1) (longer (last_used es used) p)) used
  joined-used e =
      let some = joined-some e in
      let within = to.within in
      let l = last_used es used in
      let new = longer l p in
      let parts = and_parts (ltb 0 l.count) (eqb (l.first + l.count) p.first) e in
      let more = ltb-true 0 l.count parts.0 in
      let long = length-set es (used - 1) new in
      record {
        within = omega (arith, within, long);
        last = λ d lt. subst (λ (x : Extent). 0 < x.count) (sym (get_or-set_same es (used - 1) new d (omega (arith, some, within)))) (omega (arith, more));
        rest = λ i d ge lt. ap (λ (x : Extent). x.count) (get_or-set_other es (used - 1) i new d (λ same. omega (arith, same, ge, some))) ∙ to.rest i d ge (omega (arith, lt, long));
      }

  placed-used : 0 < p.count → AreUsedTo (with_place es used p) (used + 1)
  placed-used some = elim (cases_lt used (length es)) [
    | inl lt ↦
        subst (λ (b : Bool). AreUsedTo (cond b (set es used p) (es ++ p ∷ none ∷ none ∷ [])) (used + 1)) (sym (lt-ltb used (length es) lt))
        (let long = length-set es used p in
        record {
          within = omega (arith, lt, long);
          last = λ d more. subst (λ (x : Extent). 0 < x.count)
              (sym (ap (λ m. get_or (set es used p) m d) (let s : used + 1 - 1 ≡ used = omega arith in s) ∙ get_or-set_same es used p d lt)) some;
          rest = λ i d ge below. ap (λ (x : Extent). x.count) (get_or-set_other es used i p d (λ same. omega (arith, same, ge))) ∙ to.rest i d (omega (arith, ge)) (omega (arith, below, long));
        })
    | inr past ↦
        subst (λ (b : Bool). AreUsedTo (cond b (set es used p) (es ++ p ∷ none ∷ none ∷ [])) (used + 1)) (sym (not-below used (length es) past))
        (let long = length-append es (p ∷ none ∷ none ∷ []) in
        let within = to.within in
        let end : length es ≡ used = omega (arith, past, within) in
        let three : length (p ∷ none ∷ none ∷ []) ≡ 3 = refl in
        record {
          within = omega (arith, long, end, three);
          last = λ d more. subst (λ (x : Extent). 0 < x.count)
              (sym (get_or-append_right es (p ∷ none ∷ none ∷ []) (length es) (used + 1 - 1) d refl (omega (arith, end))
              ∙ ap (λ m. get_or (p ∷ none ∷ none ∷ []) m d) (let s : used + 1 - 1 - length es ≡ 0 = omega (arith, end) in s))) some;
          rest = λ i d ge below.
              ap (λ (x : Extent). x.count) (get_or-append_right es (p ∷ none ∷ none ∷ []) (length es) i d refl (omega (arith, ge, end)))
              ∙ empty (i - length es) d (omega (arith, ge, end)) (omega (arith, below, long, three, ge, end));
        })
  ]
    where
      not-below : (a b : ℕ) → b ≤ a → ltb a b ≡ false
      not-below a b le = elim (cases_Bool (ltb a b)) [ inl is ↦ absurd (let lt = ltb-true a b is in omega (arith, lt, le)) | inr not ↦ not ]

      empty : (j : ℕ) (d : Extent) → 1 ≤ j → j < 3 → (get_or (p ∷ none ∷ none ∷ []) j d).count ≡ 0
      empty zero d ge lt = absurd (omega (arith, ge))
      empty (suc zero) d ge lt = refl
      empty (suc (suc zero)) d ge lt = refl
      empty (suc (suc (suc j))) d ge lt = absurd (omega (arith, lt))

  pub piece-used : 0 < p.count → AreUsedTo (with_piece es used p) (used_with es used p)
  piece-used some = elim (cases_Bool (joins (last_used es used) p)) [
    | inl is ↦
        subst (λ (b : Bool). AreUsedTo (cond b (set es (used - 1) (longer (last_used es used) p)) (with_place es used p)) (cond b used (used + 1))) (sym is) (joined-used is)
    | inr not ↦
        subst (λ (b : Bool). AreUsedTo (cond b (set es (used - 1) (longer (last_used es used) p)) (with_place es used p)) (cond b used (used + 1))) (sym not) (placed-used some)
  ]

-- ---- all pieces

abbrev pub HaveBlocks : List Extent → Type 0
HaveBlocks pieces = All (λ (p : Extent). 0 < p.count) pieces

pub lengthened-blocks : (pieces es : List Extent) (used : ℕ) → AreUsedTo es used → HaveBlocks pieces → extent_blocks (lengthened es used pieces) ≡ extent_blocks es ++ extent_blocks pieces
lengthened-blocks [] es used to some = sym (append-nil (extent_blocks es))
lengthened-blocks (p ∷ ps) es used to some =
    lengthened-blocks ps (with_piece es used p) (used_with es used p) (piece-used es used p to (All-head (λ (x : Extent). 0 < x.count) p ps some)) (All-tail (λ (x : Extent). 0 < x.count) p ps some)
    ∙ ap (λ l. l ++ extent_blocks ps) (piece-blocks es used p to) ∙ append_assoc (extent_blocks es) (extent_blocks (p ∷ [])) (extent_blocks ps)
    ∙ ap (λ l. extent_blocks es ++ l) (sym (blocks-append (p ∷ []) ps))

pub lengthened-next : (pieces : List Extent) (i : ℕ) (d : Extent) (es : List Extent) (used : ℕ) → i < length pieces
    → lengthened (with_piece es used (get_or pieces i d)) (used_with es used (get_or pieces i d)) (drop (i + 1) pieces) ≡ lengthened es used (drop i pieces)
lengthened-next pieces i d es used lt = ap (λ (l : List Extent). lengthened es used l) (sym (drop_more pieces i d lt))

pub lengthened-end : (pieces : List Extent) (i : ℕ) (es : List Extent) (used : ℕ) → length pieces ≤ i → lengthened es used (drop i pieces) ≡ es
lengthened-end pieces i es used past = ap (λ (l : List Extent). lengthened es used l) (drop_all i pieces past)

-- ---- the places in use, found from the first on

-- one more place is passed
pub passed-used : (es : List Extent) (i : ℕ) (d : Extent) (used : ℕ) → i < length es → AreUsedTo (take i es) used → 0 < (get_or es i d).count → AreUsedTo (take (i + 1) es) (i + 1)
passed-used es i d used lt to some =
    let long = length-take-le (i + 1) es (omega (arith, lt)) in
    record {
      within = omega (arith, long);
      last = λ e more. subst (λ (x : Extent). 0 < x.count)
          (sym (ap (λ m. get_or (take (i + 1) es) m e) (let s : i + 1 - 1 ≡ i = omega arith in s) ∙ get_or-take (i + 1) es i e (omega arith) ∙ get_or_default es i e d lt)) some;
      rest = λ j e ge below. absurd (omega (arith, ge, below, long));
    }

pub passed-unused : (es : List Extent) (i : ℕ) (d : Extent) (used : ℕ) → i < length es → AreUsedTo (take i es) used → (get_or es i d).count ≡ 0 → AreUsedTo (take (i + 1) es) used
passed-unused es i d used lt to nothing =
    let long = length-take-le (i + 1) es (omega (arith, lt)) in
    let short = length-take-le i es (omega (arith, lt)) in
    let within = to.within in
    record {
      within = omega (arith, within, long, short);
      last = λ e some. subst (λ (x : Extent). 0 < x.count) (get_or-take i es (used - 1) e (omega (arith, some, within, short)) ∙ sym (get_or-take (i + 1) es (used - 1) e (omega (arith, some, within, short)))) (to.last e some);
      rest = λ j e ge below. elim (cases_lt j i) [
        | inl less ↦
            ap (λ (x : Extent). x.count) (get_or-take (i + 1) es j e (omega (arith, less)) ∙ sym (get_or-take i es j e less)) ∙ to.rest j e ge (omega (arith, less, short))
        | inr last ↦
            let here : j ≡ i = omega (arith, last, below, long) in
            ap (λ (x : Extent). x.count) (get_or-take (i + 1) es j e (omega (arith, below, long)) ∙ ap (λ m. get_or es m e) here ∙ get_or_default es i e d lt) ∙ nothing
      ];
    }

pub none-used : (es : List Extent) → AreUsedTo (take 0 es) 0
none-used es = record { within = omega arith; last = λ d some. absurd (omega (arith, some)); rest = λ i d ge lt. absurd (omega (arith, lt)) }
