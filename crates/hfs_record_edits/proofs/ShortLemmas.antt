-- A fork of which only the first blocks stay: its records, and its extents.
use Rattle.std.proofs.Common.{◌≡◌, ℕ, zero, suc, ◌+◌, ◌-◌, ◌*◌, ◌<◌, ◌≤◌, inl, inr, Bool, cond, eqb, List, [], ◌∷◌, ◌++◌, length, take, drop, refl, sym, ap, ◌∙◌, subst, arith}
use Rattle.std.proofs.lemmas.Bool.{cases_lt, cases_eq, ne_eqb}
use Rattle.std.proofs.lemmas.List.{append-nil, take-append-drop, take-take, length-take-le, drop_all}
use Rattle.hfs_fields.specs.declared.extent.Extent.{Extent}
use Rattle.hfs_btree.specs.Tree.{Store}
use Rattle.hfs_btree.specs.Header.{free_nodes}
use Rattle.hfs_space.specs.Extents.{Overflow, block_total, extent_blocks, AreExtentsWithin, fork_extents}
use Rattle.hfs_space.specs.TreeKeys.{overflow_of}
use Rattle.hfs_record_edits.specs.Cuts.{cut_extent, cut, surplus}
use Rattle.hfs_record_edits.specs.Records.{HasRecordsBefore}
use Rattle.hfs_record_edits.specs.Threes.{AreThrees, AreLeft}
use Rattle.hfs_record_edits.specs.Whole.{HasExtents, LastMayChange, EditsFork}
use Rattle.hfs_record_edits.specs.Shortening.{IsCutTo, HasShortened}
use Rattle.hfs_record_edits.specs.declared.shortening.ShortFork.{ShortFork}
use Rattle.hfs_record_edits.proofs.AddLemmas.{blocks-append}
use Rattle.hfs_record_edits.proofs.CutLemmas.{cut-whole, gt-all, blocks-cut, blocks-surplus}
use Rattle.hfs_record_edits.proofs.ThreeLemmas.{total-cons, total-front, none-blocks, drop-more, three-at}
use Rattle.hfs_record_edits.proofs.Chains.{extents_of, IsForkChain, has-chain, chain-has, ends, take-chain, chain-threes, filter-chain, prefix, prefix-total}
use Rattle.hfs_record_edits.proofs.LastRecord.{own, count-records, drop-at}

-- ---- the first blocks of extents

part-count : (n : ℕ) (e : Extent) → n < e.count → (cut_extent n e).count ≡ n
part-count n e lt =
    ap (λ (b : Bool). let x : Extent = cond b e (cond (eqb n 0) (record { first = 0; count = 0 }) (record { first = e.first; count = n })) in x.count) (gt-all n e lt) ∙ by n
  where
    by : (n : ℕ) → (let x : Extent = cond (eqb n 0) (record { first = 0; count = 0 }) (record { first = e.first; count = n }) in x.count) ≡ n
    by zero = refl
    by (suc n) = ap (λ (b : Bool). let x : Extent = cond b (record { first = 0; count = 0 }) (record { first = e.first; count = suc n }) in x.count) (ne_eqb (suc n) 0 (λ same. omega (arith, same)))

pub take-cut : (k n : ℕ) (es : List Extent) → take k (cut n es) ≡ cut n (take k es)
take-cut zero n es = refl
take-cut (suc k) n [] = refl
take-cut (suc k) n (e ∷ es) = ap (λ (l : List Extent). cut_extent n e ∷ l) (take-cut k (n - e.count) es)

pub drop-cut : (k n : ℕ) (es : List Extent) → drop k (cut n es) ≡ cut (n - block_total (take k es)) (drop k es)
drop-cut zero n es = (let e : n ≡ n - 0 = omega arith in ap (λ (m : ℕ). cut m es) e)
drop-cut (suc k) n [] = refl
drop-cut (suc k) n (e ∷ es) =
    let sums = total-cons e (take k es) in
    drop-cut k (n - e.count) es ∙ ap (λ (m : ℕ). cut m (drop k es)) (let s : n - e.count - block_total (take k es) ≡ n - block_total (e ∷ take k es) = omega (arith, sums) in s)

pub length-cut : (n : ℕ) (es : List Extent) → length (cut n es) ≡ length es
length-cut n [] = refl
length-cut n (e ∷ es) = ap suc (length-cut (n - e.count) es)

cut-same : (n : ℕ) (es : List Extent) → block_total es ≤ n → cut n es ≡ es
cut-same n [] le = refl
cut-same n (e ∷ es) le =
    let sums = total-cons e es in
    λ i. cut-whole n e (omega (arith, sums, le)) i ∷ cut-same (n - e.count) es (omega (arith, sums, le)) i

cut-none : (n : ℕ) (es : List Extent) → n ≡ 0 → block_total (cut n es) ≡ 0
cut-none n [] none = refl
cut-none n (e ∷ es) none =
    let sums = total-cons (cut_extent n e) (cut (n - e.count) es) in
    let rest = cut-none (n - e.count) es (omega (arith, none)) in
    elim (cases_lt n e.count) [
      | inl lt ↦ (let part = part-count n e lt in omega (arith, sums, rest, part, none))
      | inr le ↦ (let whole = ap (λ (x : Extent). x.count) (cut-whole n e le) in omega (arith, sums, rest, whole, none, le))
    ]

cut-some : (n : ℕ) (es : List Extent) → 0 < n → 0 < block_total es → 0 < block_total (cut n es)
cut-some n [] some more = more
cut-some n (e ∷ es) some more =
    let was = total-cons e es in
    let sums = total-cons (cut_extent n e) (cut (n - e.count) es) in
    elim (cases_lt n e.count) [
      | inl lt ↦ (let part = part-count n e lt in omega (arith, sums, part, some))
      | inr le ↦
          (let whole = ap (λ (x : Extent). x.count) (cut-whole n e le) in
          elim (cases_eq e.count 0) [
            | inl none ↦ (let rest = cut-some (n - e.count) es (omega (arith, some, none)) (omega (arith, was, more, none)) in omega (arith, sums, rest))
            | inr any ↦ omega (arith, sums, whole, any)
          ])
    ]

threes-past : (k : ℕ) (es : List Extent) → ((l : List Extent) → AreThrees l → AreThrees (drop k l)) → AreThrees es → AreThrees (drop (suc (suc (suc k))) es)
threes-past k [] next h = tt
threes-past k (a ∷ []) next h = absurd h
threes-past k (a ∷ b ∷ []) next h = absurd h
threes-past k (a ∷ b ∷ c ∷ es) next h = next es h.1

threes-drop : (i : ℕ) (es : List Extent) → AreThrees es → AreThrees (drop (3 * i) es)
threes-drop zero es h = h
threes-drop (suc i) es h =
    subst (λ (k : ℕ). AreThrees (drop k es)) (let e : suc (suc (suc (3 * i))) ≡ 3 * suc i = omega arith in e) (threes-past (3 * i) es (λ l three. threes-drop i l three) h)

-- ---- the records that are left

module _ (file fork : ℕ) (first all : List Extent) (n threes : ℕ) (old : Store) (three : length first ≡ 3) (h : HasExtents file fork first all old) (left : AreLeft n all threes) where
  chained : IsForkChain file fork first all old
  chained = has-chain file fork first all old h

  abbrev rs : Overflow
  rs = own file fork old

  abbrev places : ℕ
  places = 3 * threes + 3

  abbrev begins : ℕ
  begins = block_total first

  front-total : (i : ℕ) → block_total (take (3 * i + 3) all) ≡ ends begins (take i rs)
  front-total i = ap (λ (es : List Extent). block_total (take (3 * i + 3) es)) (sym chained.extents) ∙ prefix-total first i rs chained.chain three

  pub left-has : (mid : Store) → HasRecordsBefore file fork n old mid → HasExtents file fork first (take places all) mid
  left-has mid before =
      let count = count-records file fork first all old three chained in
      let within = left.within in
      let is : own file fork mid ≡ take threes rs =
      before
      ∙ filter-chain n begins threes rs chained.chain (omega (arith, count, within))
      (λ i e. subst (λ (b : ℕ). b < n) (ap (λ (k : ℕ). block_total (take k all)) (let s : 3 * threes ≡ 3 * i + 3 = omega (arith, e) in s) ∙ front-total i) (left.before (omega (arith, e))))
      (λ lt. subst (λ (b : ℕ). n ≤ b) (front-total threes) (left.behind (omega (arith, count, lt)))) in
      chain-has file fork first (take places all) mid
      (record {
        chain = subst (λ (l : Overflow). Rattle.hfs_record_edits.proofs.Chains.IsChain begins l) (sym is) (take-chain threes begins rs chained.chain);
        extents = ap (λ (l : Overflow). first ++ extents_of l) is ∙ sym (prefix first begins threes rs chained.chain three) ∙ ap (take places) chained.extents;
      })

  behind-threes : AreThrees (drop 3 all)
  behind-threes = subst (λ (es : List Extent). AreThrees es) (sym (ap (drop 3) (sym chained.extents) ∙ drop-at first (extents_of rs) 3 three)) (chain-threes begins rs chained.chain)

  at-start : places - 3 ≡ 3 * threes
  at-start = omega arith

  -- so many blocks stand before the last three
  most-before : block_total (take (3 * threes) all) ≤ n
  most-before = elim (cases_eq threes 0) [
    | inl none ↦ (let e = ap (λ (k : ℕ). block_total (take (3 * k) all)) none in omega (arith, e))
    | inr some ↦ (let lt = left.before (omega (arith, some)) in omega (arith, lt))
  ]

  last-some : 0 < threes → 0 < block_total (take 3 (drop (3 * threes) all))
  last-some some =
      let within = left.within in
      let is : drop (3 * (threes - 1)) (drop 3 all) ≡ drop (3 * threes) all = drop-more all 3 (3 * (threes - 1)) ∙ ap (λ (k : ℕ). drop k all) (let e : 3 + 3 * (threes - 1) ≡ 3 * threes = omega (arith, some) in e) in
      (three-at all (3 * threes) (subst (λ (es : List Extent). AreThrees es) is (threes-drop (threes - 1) (drop 3 all) behind-threes)) (omega (arith, within))).some

  pub may-change : (mid : Store) → HasRecordsBefore file fork n old mid → block_total all ≤ 65535 → LastMayChange file fork first (cut n all) places mid
  may-change mid before few =
      let front : take (3 * threes) (cut n all) ≡ take (3 * threes) all =
      take-cut (3 * threes) n all ∙ cut-same n (take (3 * threes) all) most-before in
      record {
        all = take places all;
        has = left-has mid before;
        long = length-take-le places all left.within;
        same = ap (λ (k : ℕ). take k (take places all)) at-start ∙ take-take (3 * threes) places all (omega arith) ∙ sym front ∙ ap (λ (k : ℕ). take k (cut n all)) (sym at-start);
        some = λ more.
            (let some : 0 < threes = omega (arith, more) in
            let less = left.before some in
            let is : take 3 (drop (places - 3) (cut n all)) ≡ cut (n - block_total (take (3 * threes) all)) (take 3 (drop (3 * threes) all)) =
            ap (λ (k : ℕ). take 3 (drop k (cut n all))) at-start ∙ ap (take 3) (drop-cut (3 * threes) n all) ∙ take-cut 3 (n - block_total (take (3 * threes) all)) (drop (3 * threes) all) in
            subst (λ (es : List Extent). 0 < block_total es) (sym is) (cut-some (n - block_total (take (3 * threes) all)) (take 3 (drop (3 * threes) all)) (omega (arith, less)) (last-some some)));
        few =
            (let e = ap (λ (k : ℕ). block_total (take k (cut n all))) at-start ∙ ap block_total front in
            let part = total-front all (3 * threes) in
            omega (arith, e, part, few));
      }

  -- ---- what is left of the extents

  abbrev rest : List Extent
  rest = drop places (cut n all)

  rest-none : block_total rest ≡ 0
  rest-none = ap block_total (drop-cut places n all) ∙ elim (cases_lt places (length all)) [
    | inl lt ↦ (let le = left.behind lt in cut-none (n - block_total (take places all)) (drop places all) (omega (arith, le)))
    | inr past ↦ ap (λ (es : List Extent). block_total (cut (n - block_total (take places all)) es)) (drop_all places all past)
  ]

  pub cut-to : (now : List Extent) → now ≡ take places (cut n all) → IsCutTo n all now
  cut-to now is = record {
    rest = rest;
    is = ap (λ (es : List Extent). es ++ rest) is ∙ take-append-drop places (cut n all);
    none = rest-none;
  }

  pub left-blocks : (now : List Extent) → now ≡ take places (cut n all) → extent_blocks now ≡ take n (extent_blocks all)
  left-blocks now is =
      ap (λ (es : List Extent). extent_blocks es) is ∙ sym (append-nil (extent_blocks (take places (cut n all)))) ∙ ap (λ (l : List ℕ). extent_blocks (take places (cut n all)) ++ l) (sym (none-blocks rest rest-none))
      ∙ sym (blocks-append (take places (cut n all)) rest) ∙ ap (λ (es : List Extent). extent_blocks es) (take-append-drop places (cut n all)) ∙ blocks-cut n all

-- ---- the whole

pub shortened : (file fork : ℕ) (first : List Extent) (n threes : ℕ) (short : ShortFork) (old mid new : Store) → length first ≡ 3
    → (h : HasExtents file fork first (fork_extents (overflow_of old) file fork first) old) → AreLeft n (fork_extents (overflow_of old) file fork first) threes
    → EditsFork file fork old new → free_nodes old ≤ free_nodes new
    → HasExtents file fork (take 3 (cut n (fork_extents (overflow_of old) file fork first))) (take (3 * threes + 3) (cut n (fork_extents (overflow_of old) file fork first))) new
    → short.first ≡ take 3 (cut n (fork_extents (overflow_of old) file fork first)) → short.surplus.items ≡ surplus n (fork_extents (overflow_of old) file fork first)
    → ((m : ℕ) → AreExtentsWithin m (fork_extents (overflow_of old) file fork first) → AreExtentsWithin m short.surplus.items) → HasShortened file fork first n short old new
unfolding fork_extents
shortened file fork first n threes short old mid new three h left edits free has is surplus within =
    let all = fork_extents (overflow_of old) file fork first in
    let places = 3 * threes + 3 in
    let C = cut n all in
    let has' : HasExtents file fork short.first (take places C) new = subst (λ (es : List Extent). HasExtents file fork es (take places C) new) (sym is) has in
    record {
      edits = edits;
      whole = has'.whole;
      now = is ∙ take-cut 3 n all ∙ ap (cut n) (front first three);
      extents = cut-to file fork first all n threes old three h left (fork_extents (overflow_of new) file fork short.first) has'.extents;
      blocks = left-blocks file fork first all n threes old three h left (fork_extents (overflow_of new) file fork short.first) has'.extents;
      lost = ap (λ (es : List Extent). extent_blocks es) surplus ∙ blocks-surplus n all;
      rest = surplus;
      within = within;
      free = free;
    }
  where
    front : (es : List Extent) → length es ≡ 3 → take 3 (es ++ Rattle.hfs_space.specs.Extents.extents_from (overflow_of old) file fork (block_total first)) ≡ es
    front es long = Rattle.std.proofs.lemmas.List.take_at es (Rattle.hfs_space.specs.Extents.extents_from (overflow_of old) file fork (block_total first)) 3 long
