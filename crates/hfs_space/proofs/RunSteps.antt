-- The run of a fork, record by record.
use Rattle.std.proofs.Common.{◌≡◌, ◌≢◌, ℕ, zero, suc, ◌+◌, ◌<◌, ◌≤◌, Bool, true, false, cond, ◌&&◌, ◌||◌, eqb, ltb, List, [], ◌∷◌, ◌++◌, length, take, drop, set, get_or, refl, sym, ap, ◌∙◌, inl, inr, arith}
use Rattle.std.specs.Ordering.{is_eq}
use Rattle.std.specs.declared.cmp.Ordering.TheVariants.{Less}
use Rattle.std.proofs.lemmas.Cmp.{tied_itself}
use Rattle.std.proofs.lemmas.List.Folds.{list_any-append}
use Rattle.std.proofs.lemmas.List.{take_more, get_or-set_same, get_or-set_other, append-nil, take-append-drop, get_or_default}
use Rattle.std.proofs.lemmas.Bool.{eqb-true, eq-eqb, true≢false, cases_lt}
use Rattle.hfs_fields.specs.declared.key.ExtKey.{ExtKey}
use Rattle.hfs_fields.specs.Keys.{ext_cmp, ext_cmp_total}
use Rattle.hfs_fields.specs.Each.{Each}
use Rattle.hfs_btree.specs.Pairs.{Rises}
use Rattle.hfs_fields.proofs.ElementLemmas.{each-at}
use Rattle.hfs_btree.proofs.LookupLemmas.{flipped}
use Rattle.hfs_space.specs.Extents.{Overflow, block_total, record_extents, goes_on, run_on}
use Rattle.hfs_space.specs.Runs.{is_of_fork, has_key_in, AddsMarks}

abbrev pub Record : Type 0
Record = ExtKey × List ℕ

-- ---- the order of the records

pub rises-at : (xs : Overflow) (i j : ℕ) (d : Record) → Rises ext_cmp xs → i < j → j < length xs → ext_cmp (get_or xs i d).0 (get_or xs j d).0 ≡ Less
rises-at [] i j d h lt le = absurd (omega arith)
rises-at (x ∷ xs) zero zero d h lt le = absurd (omega arith)
rises-at (x ∷ xs) zero (suc j) d h lt le = each-at (λ q. ext_cmp x.0 q.0 ≡ Less) xs j d h.0 (omega arith)
rises-at (x ∷ xs) (suc i) zero d h lt le = absurd (omega arith)
rises-at (x ∷ xs) (suc i) (suc j) d h lt le = rises-at xs i j d h.1 (omega arith) (omega arith)

module _ (xs : Overflow) (rises : Rises ext_cmp xs) (i : ℕ) (within : i < length xs) (d : Record) where
  same_key : is_eq (ext_cmp (get_or xs i d).0 (get_or xs i d).0) ≡ true
  same_key = ap is_eq (tied_itself ext_cmp_total (get_or xs i d).0)

  other_key : (k : ℕ) → k < length xs → k ≢ i → is_eq (ext_cmp (get_or xs k d).0 (get_or xs i d).0) ≡ false
  other_key k lt other = elim (cases_lt k i) as (λ _. is_eq (ext_cmp (get_or xs k d).0 (get_or xs i d).0) ≡ false) [
    | inl below ↦ ap is_eq (rises-at xs k i d rises below within)
    | inr above ↦ ap is_eq (flipped ext_cmp ext_cmp_total (get_or xs i d).0 (get_or xs k d).0 Less (rises-at xs i k d rises (omega arith) lt))
  ]

-- ---- runs

-- the block behind a run
abbrev pub run_end : ℕ → ℕ → ℕ → Overflow → ℕ
run_end file fork block [] = block
run_end file fork block (r ∷ rs) = cond (goes_on file fork block r) (run_end file fork (block + block_total (record_extents r.1)) rs) (run_end file fork block rs)

module _ (file fork : ℕ) where
  run_on-append : (block : ℕ) (xs ys : Overflow) → run_on file fork block (xs ++ ys) ≡ run_on file fork block xs ++ run_on file fork (run_end file fork block xs) ys
  run_on-append block [] ys = refl
  run_on-append block (x ∷ xs) ys = elim (goes_on file fork block x)
      as (λ t. cond t (x ∷ run_on file fork (block + block_total (record_extents x.1)) (xs ++ ys)) (run_on file fork block (xs ++ ys))
      ≡ cond t (x ∷ run_on file fork (block + block_total (record_extents x.1)) xs) (run_on file fork block xs)
      ++ run_on file fork (cond t (run_end file fork (block + block_total (record_extents x.1)) xs) (run_end file fork block xs)) ys) [
        | true ↦ ap (λ l. x ∷ l) (run_on-append (block + block_total (record_extents x.1)) xs ys)
        | false ↦ run_on-append block xs ys
      ]

  run_end-append : (block : ℕ) (xs ys : Overflow) → run_end file fork block (xs ++ ys) ≡ run_end file fork (run_end file fork block xs) ys
  run_end-append block [] ys = refl
  run_end-append block (x ∷ xs) ys = elim (goes_on file fork block x)
      as (λ t. cond t (run_end file fork (block + block_total (record_extents x.1)) (xs ++ ys)) (run_end file fork block (xs ++ ys))
      ≡ run_end file fork (cond t (run_end file fork (block + block_total (record_extents x.1)) xs) (run_end file fork block xs)) ys) [
        | true ↦ run_end-append (block + block_total (record_extents x.1)) xs ys
        | false ↦ run_end-append block xs ys
      ]

  -- a record of another fork does not go on
  passed : (block : ℕ) (r : Record) → is_of_fork file fork r ≡ false → goes_on file fork block r ≡ false
  passed block r other = ap (λ t. t && eqb r.0.block block && ltb block 65536 && ltb 0 (block_total (record_extents r.1))) other

  none_on : (block : ℕ) (xs : Overflow) → Each (λ r. is_of_fork file fork r ≡ false) xs → run_on file fork block xs ≡ []
  none_on block [] h = refl
  none_on block (x ∷ xs) h = ap (λ t. cond t (x ∷ run_on file fork (block + block_total (record_extents x.1)) xs) (run_on file fork block xs)) (passed block x h.0) ∙ none_on block xs h.1

  none_end : (block : ℕ) (xs : Overflow) → Each (λ r. is_of_fork file fork r ≡ false) xs → run_end file fork block xs ≡ block
  none_end block [] h = refl
  none_end block (x ∷ xs) h = ap (λ t. cond t (run_end file fork (block + block_total (record_extents x.1)) xs) (run_end file fork block xs)) (passed block x h.0) ∙ none_end block xs h.1

each-take : (P : Record → Type 0) (xs : Overflow) (n : ℕ) → n ≤ length xs → ((k : ℕ) (d : Record) → k < n → P (get_or xs k d)) → Each P (take n xs)
each-take P xs zero le h = tt
each-take P [] (suc n) le h = absurd (omega arith)
each-take P (x ∷ xs) (suc n) le h = (h 0 x (omega arith), each-take P xs n (omega arith) (λ k d lt. h (suc k) d (omega arith)))

each-drop : (P : Record → Type 0) (xs : Overflow) (n : ℕ) → ((k : ℕ) (d : Record) → n ≤ k → k < length xs → P (get_or xs k d)) → Each P (drop n xs)
each-drop P [] zero h = tt
each-drop P [] (suc n) h = tt
each-drop P (x ∷ xs) zero h = (h 0 x (omega arith) (omega arith), each-drop P xs zero (λ k d le lt. h (suc k) d (omega arith) (omega arith)))
each-drop P (x ∷ xs) (suc n) h = each-drop P xs n (λ k d le lt. h (suc k) d (omega arith) (omega arith))

-- ---- a walk through the records of one fork

module _ (xs : Overflow) (rises : Rises ext_cmp xs) (file fork block : ℕ) where
  abbrev run_to : ℕ → Overflow
  run_to i = run_on file fork block (take i xs)

  abbrev end_to : ℕ → ℕ
  end_to i = run_end file fork block (take i xs)

  module _ (i : ℕ) (d : Record) (within : i < length xs) where
    abbrev r : Record
    r = get_or xs i d

    one_record : run_to (i + 1) ≡ run_to i ++ cond (goes_on file fork (end_to i) r) (r ∷ []) []
    one_record = ap (run_on file fork block) (take_more xs i d within) ∙ run_on-append file fork block (take i xs) (r ∷ [])

    pub end-more : goes_on file fork (end_to i) r ≡ true → end_to (i + 1) ≡ end_to i + block_total (record_extents r.1)
    end-more e = ap (run_end file fork block) (take_more xs i d within) ∙ run_end-append file fork block (take i xs) (r ∷ [])
        ∙ ap (λ t. cond t (end_to i + block_total (record_extents r.1)) (end_to i)) e

    pub end-same : goes_on file fork (end_to i) r ≡ false → end_to (i + 1) ≡ end_to i
    end-same e = ap (run_end file fork block) (take_more xs i d within) ∙ run_end-append file fork block (take i xs) (r ∷ [])
        ∙ ap (λ t. cond t (end_to i + block_total (record_extents r.1)) (end_to i)) e

    pub run-same : goes_on file fork (end_to i) r ≡ false → run_to (i + 1) ≡ run_to i
    run-same e = one_record ∙ ap (λ t. run_to i ++ cond t (r ∷ []) []) e ∙ append-nil (run_to i)

    pub marks-more : (old marks : List Bool) → length marks ≡ length xs → goes_on file fork (end_to i) r ≡ true → AddsMarks xs (run_to i) old marks → AddsMarks xs (run_to (i + 1)) old (set marks i true)
    marks-more old marks long e so_far k d' b lt =
        by (eqb k i) refl ∙ ap (λ l. get_or old k b || has_key_in l (get_or xs k d')) (sym run_is)
      where
        run_is : run_to (i + 1) ≡ run_to i ++ r ∷ []
        run_is = one_record ∙ ap (λ t. run_to i ++ cond t (r ∷ []) []) e

        either : (a c : Bool) (t : Bool) → has_key_in (run_to i ++ r ∷ []) (get_or xs k d') ≡ (c || (t || false)) → (a || has_key_in (run_to i ++ r ∷ []) (get_or xs k d')) ≡ ((a || c) || t)
        either a c t is = ap (λ x. a || x) is ∙ joined a c t
          where
            joined : (a c t : Bool) → (a || (c || (t || false))) ≡ ((a || c) || t)
            joined true c t = refl
            joined false true t = refl
            joined false false true = refl
            joined false false false = refl

        all : (get_or old k b || has_key_in (run_to i ++ r ∷ []) (get_or xs k d')) ≡ ((get_or old k b || has_key_in (run_to i) (get_or xs k d')) || is_eq (ext_cmp (get_or xs k d').0 r.0))
        all = either (get_or old k b) (has_key_in (run_to i) (get_or xs k d')) (is_eq (ext_cmp (get_or xs k d').0 r.0)) (list_any-append (λ (q : Record). is_eq (ext_cmp (get_or xs k d').0 q.0)) (run_to i) (r ∷ []))

        read : (j : ℕ) → j < length xs → get_or xs j d' ≡ get_or xs j d
        read j lt' = get_or_default xs j d' d lt'

        always : (a : Bool) → true ≡ (a || true)
        always true = refl
        always false = refl

        never : (a : Bool) → a ≡ (a || false)
        never true = refl
        never false = refl

        by : (t : Bool) → eqb k i ≡ t → get_or (set marks i true) k b ≡ (get_or old k b || has_key_in (run_to i ++ r ∷ []) (get_or xs k d'))
        by true same =
            let here : k ≡ i = eqb-true k i same in
            let tied : is_eq (ext_cmp (get_or xs k d').0 r.0) ≡ true = ap (λ (q : Record). is_eq (ext_cmp q.0 r.0)) (read k lt ∙ ap (λ j. get_or xs j d) here) ∙ same_key xs rises i within d in
            ap (λ j. get_or (set marks i true) j b) here ∙ get_or-set_same marks i true b (omega (arith, long))
            ∙ always (get_or old k b || has_key_in (run_to i) (get_or xs k d')) ∙ ap (λ t. (get_or old k b || has_key_in (run_to i) (get_or xs k d')) || t) (sym tied) ∙ sym all
        by false differs =
            let other : k ≢ i = λ here. true≢false (sym (eq-eqb k i here) ∙ differs) in
            let untied : is_eq (ext_cmp (get_or xs k d').0 r.0) ≡ false = ap (λ (q : Record). is_eq (ext_cmp q.0 r.0)) (read k lt) ∙ other_key xs rises i within d k lt other in
            get_or-set_other marks i k true b other ∙ so_far k d' b lt ∙ never (get_or old k b || has_key_in (run_to i) (get_or xs k d'))
            ∙ ap (λ t. (get_or old k b || has_key_in (run_to i) (get_or xs k d')) || t) (sym untied) ∙ sym all

  -- before the fork's records
  module _ (p : ℕ) (le : p ≤ length xs) (before : (k : ℕ) (d : Record) → k < p → is_of_fork file fork (get_or xs k d) ≡ false) where
    pub end-begins : end_to p ≡ block
    end-begins = none_end file fork block (take p xs) (each-take _ xs p le before)

    pub marks-begin : (marks : List Bool) → AddsMarks xs (run_to p) marks marks
    marks-begin marks k d b lt = sym (ap (λ l. get_or marks k b || has_key_in l (get_or xs k d)) (none_on file fork block (take p xs) (each-take _ xs p le before)) ∙ never (get_or marks k b))
      where
        never : (a : Bool) → (a || false) ≡ a
        never true = refl
        never false = refl

    pub run-begins : run_on file fork block (drop p xs) ≡ run_on file fork block xs
    run-begins =
        let none = each-take _ xs p le before in
        sym (ap (run_on file fork block) (sym (take-append-drop p xs)) ∙ run_on-append file fork block (take p xs) (drop p xs)
        ∙ (λ i. none_on file fork block (take p xs) none i ++ run_on file fork (none_end file fork block (take p xs) none i) (drop p xs)))

  -- behind them
  pub run-ends : (i : ℕ) → ((k : ℕ) (d : Record) → i ≤ k → k < length xs → is_of_fork file fork (get_or xs k d) ≡ false) → run_to i ≡ run_on file fork block xs
  run-ends i behind =
      sym (ap (run_on file fork block) (sym (take-append-drop i xs)) ∙ run_on-append file fork block (take i xs) (drop i xs)
      ∙ ap (λ l. run_to i ++ l) (none_on file fork (end_to i) (drop i xs) (each-drop _ xs i behind)) ∙ append-nil (run_to i))

  pub run-over : (i b : ℕ) → ((k : ℕ) (d : Record) → i ≤ k → k < length xs → is_of_fork file fork (get_or xs k d) ≡ false) → run_on file fork b (drop i xs) ≡ []
  run-over i b behind = none_on file fork b (drop i xs) (each-drop _ xs i behind)

pub marks-end : (xs run run' : Overflow) (old marks : List Bool) → run ≡ run' → AddsMarks xs run old marks → AddsMarks xs run' old marks
marks-end xs run run' old marks same h k d b lt = h k d b lt ∙ ap (λ l. get_or old k b || has_key_in l (get_or xs k d)) same
