-- The first blocks of runs.
use Rattle.std.proofs.Common.{◌≡◌, ℕ, ◌+◌, ◌-◌, ◌<◌, ◌≤◌, Bool, true, false, cond, eqb, leb, List, [], ◌∷◌, ◌++◌, Option, Some, None, inl, inr, drop, get_or, length, append_assoc, refl, sym, ap, ◌∙◌, subst, arith}
use Rattle.std.specs.Prelude.{min, MatchOption}
use Rattle.std.specs.List.{All, range_with_len}
use Rattle.std.proofs.lemmas.Bool.{eqb-true, eqb-false, leb-true, le-leb, lt-leb, ne_eqb, cases_lt}
use Rattle.std.proofs.lemmas.List.{append-nil, drop_more, drop_all}
use Rattle.std.proofs.lemmas.Cmp.{nat_cmp_total, on_total, back_total, then_total}
use Rattle.std.specs.Cmp.{IsTotalOrder, IsStrictWeakOrder}
use Rattle.std.specs.Ordering.{is_lt}
use Rattle.std.proofs.lemmas.Option.{none-some, same_Some}
use Rattle.std.proofs.lemmas.List.Elements.{All-nil, All-cons, All-head, All-tail}
use Rattle.std.proofs.lemmas.List.Sums.{sum_by-cons}
use Rattle.std.proofs.lemmas.List.Sorted.{All-permutation, sum_by-IsPermutation, ranks_by}
use Rattle.hfs_fields.specs.declared.extent.Extent.{Extent}
use Rattle.hfs_space.specs.Extents.{extent_blocks, block_total}
use Rattle.hfs_space.specs.Owners.{owners}
use Rattle.hfs_space.specs.Pieces.{first_of, first_blocks, first_with, by_length, AreOfLongest, AreOfRuns}
use Rattle.hfs_space.proofs.OwnedLemmas.{owners-fewer, owners-blocks, blocks-cons, blocks-one}

-- runs that have a block each
abbrev pub HaveBlocks : List Extent → Type 0
HaveBlocks runs = All (λ e. 0 < e.count) runs

pub first_blocks-total : (k : ℕ) (runs : List Extent) → block_total (first_blocks k runs) ≡ min k (block_total runs)
first_blocks-total k [] = let e : 0 ≡ min k 0 = omega arith in e
first_blocks-total k (run ∷ runs) = by (eqb k 0) refl (first_blocks-total (k - run.count) runs)
  where
    by : (t : Bool) → eqb k 0 ≡ t → block_total (first_blocks (k - run.count) runs) ≡ min (k - run.count) (block_total runs)
        → block_total (cond t [] (first_of k run ∷ first_blocks (k - run.count) runs)) ≡ min k (block_total (run ∷ runs))
    by true none rest = let e = eqb-true k 0 none in let z : 0 ≡ min k (block_total (run ∷ runs)) = omega (arith, e) in z
    by false some rest =
        let all = sum_by-cons (λ (e : Extent). e.count) run runs in
        let cut = sum_by-cons (λ (e : Extent). e.count) (first_of k run) (first_blocks (k - run.count) runs) in
        omega (arith, rest, all, cut)

pub first_blocks-owners : (k : ℕ) (runs : List Extent) (b : ℕ) → owners (extent_blocks (first_blocks k runs)) b ≤ owners (extent_blocks runs) b
first_blocks-owners k [] b = omega arith
first_blocks-owners k (run ∷ runs) b = by (eqb k 0) (first_blocks-owners (k - run.count) runs b)
  where
    by : (t : Bool) → owners (extent_blocks (first_blocks (k - run.count) runs)) b ≤ owners (extent_blocks runs) b
        → owners (extent_blocks (cond t [] (first_of k run ∷ first_blocks (k - run.count) runs))) b ≤ owners (extent_blocks (run ∷ runs)) b
    by true rest = let none : owners [] b ≡ 0 = refl in omega (arith, none)
    by false rest =
        let here = owners-fewer run.first (min k run.count) run.count b (omega arith) in
        let all = blocks-cons run runs b in
        let cut = blocks-cons (first_of k run) (first_blocks (k - run.count) runs) b in
        omega (arith, rest, here, all, cut)

pub first_blocks-some : (k : ℕ) (runs : List Extent) → HaveBlocks runs → HaveBlocks (first_blocks k runs)
first_blocks-some k [] h = All-nil (λ (e : Extent). 0 < e.count)
first_blocks-some k (run ∷ runs) h = by (eqb k 0) refl (first_blocks-some (k - run.count) runs (All-tail (λ (e : Extent). 0 < e.count) run runs h))
  where
    by : (t : Bool) → eqb k 0 ≡ t → HaveBlocks (first_blocks (k - run.count) runs) → HaveBlocks (cond t [] (first_of k run ∷ first_blocks (k - run.count) runs))
    by true none rest = All-nil (λ (e : Extent). 0 < e.count)
    by false some rest =
        let more = eqb-false k 0 some in
        let positive : 0 < k = elim (cases_lt 0 k) [ inl lt ↦ lt | inr le ↦ absurd (more (omega (arith, le))) ] in
        let here = All-head (λ (e : Extent). 0 < e.count) run runs h in
        All-cons (λ (e : Extent). 0 < e.count) (first_of k run) (first_blocks (k - run.count) runs) (omega (arith, positive, here)) rest

-- ---- the run that has so many

pub first_with-enough : (k : ℕ) (runs : List Extent) (found : Extent) → first_with k runs ≡ Some found → k ≤ found.count
first_with-enough k [] found is = absurd (none-some found is)
first_with-enough k (run ∷ runs) found is = by (leb k run.count) refl is (first_with-enough k runs found)
  where
    by : (t : Bool) → leb k run.count ≡ t → cond t (Some run) (first_with k runs) ≡ Some found → (first_with k runs ≡ Some found → k ≤ found.count) → k ≤ found.count
    by true enough here rest = subst (λ (e : Extent). k ≤ e.count) (same_Some run found here) (leb-true k run.count enough)
    by false few there rest = rest there

pub first_with-owners : (k : ℕ) (runs : List Extent) (found : Extent) (b : ℕ) → first_with k runs ≡ Some found → owners (range_with_len found.first found.count) b ≤ owners (extent_blocks runs) b
first_with-owners k [] found b is = absurd (none-some found is)
first_with-owners k (run ∷ runs) found b is = by (leb k run.count) is (first_with-owners k runs found b)
  where
    by : (t : Bool) → cond t (Some run) (first_with k runs) ≡ Some found → (first_with k runs ≡ Some found → owners (range_with_len found.first found.count) b ≤ owners (extent_blocks runs) b)
        → owners (range_with_len found.first found.count) b ≤ owners (extent_blocks (run ∷ runs)) b
    by true here rest =
        let same = same_Some run found here in
        let all = blocks-cons run runs b in
        let this = ap (λ (e : Extent). owners (range_with_len e.first e.count) b) same in
        omega (arith, all, this)
    by false there rest = let later = rest there in let all = blocks-cons run runs b in omega (arith, later, all)

pub first_with-some : (k : ℕ) (runs : List Extent) (found : Extent) → HaveBlocks runs → first_with k runs ≡ Some found → 0 < found.count
first_with-some k [] found h is = absurd (none-some found is)
first_with-some k (run ∷ runs) found h is = by (leb k run.count) is (first_with-some k runs found (All-tail (λ (e : Extent). 0 < e.count) run runs h))
  where
    by : (t : Bool) → cond t (Some run) (first_with k runs) ≡ Some found → (first_with k runs ≡ Some found → 0 < found.count) → 0 < found.count
    by true here rest = subst (λ (e : Extent). 0 < e.count) (same_Some run found here) (All-head (λ (e : Extent). 0 < e.count) run runs h)
    by false there rest = rest there

-- ---- blocks of runs

-- k blocks of runs: none that the runs don't have, none more often, and in extents that have a block each
pub record AreTaken (runs : List Extent) (k : ℕ) (pieces : List Extent) : Type 0 where
  pub some : HaveBlocks pieces
  pub owned : (b : ℕ) → owners (extent_blocks pieces) b ≤ owners (extent_blocks runs) b
  pub total : block_total pieces ≡ k

taken-firsts : (runs : List Extent) (k : ℕ) (ordered pieces : List Extent) → HaveBlocks ordered → ((b : ℕ) → owners (extent_blocks ordered) b ≤ owners (extent_blocks runs) b) → k ≤ block_total ordered
    → pieces ≡ first_blocks k ordered → AreTaken runs k pieces
taken-firsts runs k ordered pieces some owned enough is = subst (AreTaken runs k) (sym is) (record {
  some = first_blocks-some k ordered some;
  owned = λ b. (let here = first_blocks-owners k ordered b in let all = owned b in omega (arith, here, all));
  total = (let e = first_blocks-total k ordered in omega (arith, e, enough));
})

pub taken-of-runs : (runs : List Extent) (k : ℕ) (pieces : List Extent) → HaveBlocks runs → k ≤ block_total runs → AreOfRuns runs k pieces → AreTaken runs k pieces
taken-of-runs runs k pieces some enough h = by (first_with k runs) refl h
  where
    by : (o : Option Extent) → first_with k runs ≡ o → MatchOption o (AreOfLongest runs k pieces) (λ run. pieces ≡ first_blocks k (run ∷ [])) → AreTaken runs k pieces
    by None none longest =
        let ordered = longest.0 in
        let same = longest.1.same in
        let total = sum_by-IsPermutation (λ (e : Extent). e.count) runs ordered same in
        taken-firsts runs k ordered pieces (All-permutation (λ (e : Extent). 0 < e.count) runs ordered same some)
        (λ b.
        let sums = sum_by-IsPermutation (λ (e : Extent). owners (range_with_len e.first e.count) b) runs ordered same in
        let old = owners-blocks runs b in
        let new = owners-blocks ordered b in
        omega (arith, sums, old, new))
        (omega (arith, total, enough)) longest.2
    by (Some run) is first =
        let has = first_with-enough k runs run is in
        let one = sum_by-cons (λ (e : Extent). e.count) run [] in
        let nothing : block_total [] ≡ 0 = refl in
        taken-firsts runs k (run ∷ []) pieces (All-cons (λ (e : Extent). 0 < e.count) run [] (first_with-some k runs run some is) (All-nil (λ (e : Extent). 0 < e.count)))
        (λ b. (let single = blocks-one run b in let of = first_with-owners k runs run b is in omega (arith, single, of)))
        (omega (arith, has, one, nothing)) first

-- ---- one run after the other

abbrev none : Extent
none = record { first = 0; count = 0 }

firsts-nothing : (runs : List Extent) → first_blocks 0 runs ≡ []
firsts-nothing [] = refl
firsts-nothing (run ∷ runs) = refl

module _ (runs : List Extent) (i k : ℕ) (pieces whole : List Extent) (h : pieces ++ first_blocks k (drop i runs) ≡ whole) where
  pub firsts-more : (k' : ℕ) (piece : Extent) (new : List Extent) → i < length runs → (k ≡ 0 → ⊥) → piece ≡ first_of k (get_or runs i none) → k' ≡ k - (get_or runs i none).count
      → new ≡ pieces ++ piece ∷ [] → new ++ first_blocks k' (drop (i + 1) runs) ≡ whole
  firsts-more k' piece new lt some is less added =
      let run = get_or runs i none in
      let rest = first_blocks (k - run.count) (drop (i + 1) runs) in
      let step : first_blocks k (drop i runs) ≡ first_of k run ∷ rest =
      ap (first_blocks k) (drop_more runs i none lt) ∙ ap (λ t. cond t [] (first_of k run ∷ rest)) (ne_eqb k 0 some) in
      (λ t. added t ++ first_blocks (less t) (drop (i + 1) runs)) ∙ append_assoc pieces (piece ∷ []) rest ∙ ap (λ (e : Extent). pieces ++ e ∷ rest) is
      ∙ ap (λ l. pieces ++ l) (sym step) ∙ h

  pub firsts-stop : k ≡ 0 → pieces ≡ whole
  firsts-stop e = sym (append-nil pieces) ∙ ap (λ l. pieces ++ l) (sym (ap (λ n. first_blocks n (drop i runs)) e ∙ firsts-nothing (drop i runs))) ∙ h

  pub firsts-end : length runs ≤ i → pieces ≡ whole
  firsts-end le = sym (append-nil pieces) ∙ ap (λ l. pieces ++ l) (sym (ap (first_blocks k) (drop_all i runs le))) ∙ h

module _ (runs : List Extent) (i k : ℕ) (lt : i < length runs) where
  with-step : first_with k (drop i runs) ≡ cond (leb k (get_or runs i none).count) (Some (get_or runs i none)) (first_with k (drop (i + 1) runs))
  with-step = ap (first_with k) (drop_more runs i none lt)

  pub with-here : k ≤ (get_or runs i none).count → first_with k (drop i runs) ≡ Some (get_or runs i none)
  with-here le = with-step ∙ ap (λ t. cond t (Some (get_or runs i none)) (first_with k (drop (i + 1) runs))) (le-leb k (get_or runs i none).count le)

  pub with-later : (get_or runs i none).count < k → first_with k (drop i runs) ≡ first_with k (drop (i + 1) runs)
  with-later less = with-step ∙ ap (λ t. cond t (Some (get_or runs i none)) (first_with k (drop (i + 1) runs))) (lt-leb k (get_or runs i none).count less)

pub with-none : (runs : List Extent) (i k : ℕ) → length runs ≤ i → first_with k (drop i runs) ≡ None
with-none runs i k le = ap (first_with k) (drop_all i runs le)

-- ---- the order of runs by their lengths

by_length-total : IsTotalOrder by_length
by_length-total = then_total (back_total (on_total (λ (e : Extent). e.count) nat_cmp_total)) (on_total (λ (e : Extent). e.first) nat_cmp_total)

pub by_length-order : IsStrictWeakOrder (λ (x y : Extent). is_lt (by_length x y))
by_length-order = ranks_by {R = by_length} by_length-total (λ (e : Extent). e)
