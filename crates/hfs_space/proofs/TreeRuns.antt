-- The runs of a tree's file are the first blocks of its extents.
use Rattle.std.proofs.Common.{◌≡◌, ℕ, ◌+◌, ◌-◌, ◌*◌, ◌<◌, ◌≤◌, zero, suc, List, [], ◌∷◌, ◌++◌, length, take, drop, get_or, ⊎_elim, refl, sym, ap, ◌∙◌, arith, inl, inr, append_assoc, append-nil, length-append}
use Rattle.std.specs.Prelude.{min, map}
use Rattle.std.specs.List.{flat_map, range_with_len}
use Rattle.std.proofs.lemmas.List.{take_all, drop_more, drop_all, get_or_append_left, get_or-append_right, take-append-le}
use Rattle.std.proofs.lemmas.List.Concat.{flat_map-append}
use Rattle.std.proofs.lemmas.List.FromFn.{take-map-range_with_len, length-range_with_len}
use Rattle.std.proofs.lemmas.Bool.{cases_lt}
use Rattle.hfs_fields.specs.declared.extent.Extent.{Extent}
use Rattle.hfs_fields.specs.declared.mdb.Mdb.{Mdb}
use Rattle.hfs_blocks.specs.declared.run.Run.{Run}
use Rattle.std.specs.List.{All}
use Rattle.std.proofs.lemmas.List.Elements.{All-append}
use Rattle.std.proofs.lemmas.List.Sums.{sum_by-append, sum_by-cons}
use Rattle.hfs_blocks.specs.Blocks.{run_of, total_of, AreCounted}
use Rattle.hfs_space.specs.ForkLaws.{block_numbers}
use Rattle.hfs_space.specs.Forks.{blocks_each, run_in}
use Rattle.hfs_space.specs.TreeFiles.{node_count}
use Rattle.hfs_space.proofs.PieceLemmas.{take_past}

map-id : (ns : List ℕ) → map (λ n. n) ns ≡ ns
map-id [] = refl
map-id (n ∷ ns) = ap (λ rest. n ∷ rest) (map-id ns)

-- the first numbers of a range
pub take-range : (first n most : ℕ) → take most (range_with_len first n) ≡ range_with_len first (min most n)
take-range first n most =
    let within = take-map-range_with_len (λ k. k) first n (min most n) (omega arith) in
    let plain : take (min most n) (range_with_len first n) ≡ range_with_len first (min most n) = (λ i. take (min most n) (sym (map-id (range_with_len first n)) i)) ∙ within ∙ map-id (range_with_len first (min most n)) in
    ⊎_elim
    (λ less. let e : most ≡ min most n = omega arith in ap (λ k. take k (range_with_len first n)) e ∙ plain)
    (λ more. take_all most (range_with_len first n) (omega (arith, length-range_with_len first n)) ∙ (let e : n ≡ min most n = omega arith in ap (range_with_len first) e))
    (cases_lt most n)

module _ (mdb : Mdb) where
  -- the runs so far, and what is left to take of the extents that are left
  pub runs-more : (extents : List Extent) (i : ℕ) (e d : Extent) (rest : ℕ) (before : List ℕ) (run : Run)
      → i < length extents → e ≡ get_or extents i d → run_of run ≡ take rest (run_of (run_in mdb e)) → run.count ≡ min rest (e.count * blocks_each mdb)
      → (before ++ run_of run) ++ take (rest - run.count) (block_numbers mdb (drop (i + 1) extents)) ≡ before ++ take rest (block_numbers mdb (drop i extents))
  runs-more extents i e d rest before run lt is is_run is_count =
      let own = run_of (run_in mdb e) in
      let behind = block_numbers mdb (drop (i + 1) extents) in
      let len : length own ≡ e.count * blocks_each mdb = length-range_with_len (run_in mdb e).first (run_in mdb e).count in
      let here : block_numbers mdb (drop i extents) ≡ own ++ behind = ap (block_numbers mdb) (drop_more extents i d lt ∙ ap (λ x. x ∷ drop (i + 1) extents) (sym is)) in
      let part = take_past rest run.count own behind (is_count ∙ ap (min rest) (sym len)) in
      let all : take run.count own ≡ take rest own = ap (λ k. take k own) is_count ∙ cut own (e.count * blocks_each mdb) len in
      append_assoc before (run_of run) (take (rest - run.count) behind)
      ∙ ap (λ l. before ++ l) (ap (λ l. l ++ take (rest - run.count) behind) (is_run ∙ sym all) ∙ sym part ∙ ap (take rest) (sym here))
    where
      cut : (xs : List ℕ) (n : ℕ) → length xs ≡ n → take (min rest n) xs ≡ take rest xs
      cut xs n len = ⊎_elim
          (λ less. let e : min rest n ≡ rest = omega arith in ap (λ k. take k xs) e)
          (λ more. take_all (min rest n) xs (omega (arith, len)) ∙ sym (take_all rest xs (omega (arith, len))))
          (cases_lt rest n)

  pub runs-end : (extents : List Extent) (i rest : ℕ) (before : List ℕ) → length extents ≤ i → before ++ take rest (block_numbers mdb (drop i extents)) ≡ before
  runs-end extents i rest before past =
      ap (λ l. before ++ take rest l) (ap (block_numbers mdb) (drop_all i extents past)) ∙ ap (λ l. before ++ l) (take_all rest [] (omega arith)) ∙ append-nil before

-- a run more
pub numbers-more : (runs : List Run) (run : Run) → flat_map run_of (runs ++ run ∷ []) ≡ flat_map run_of runs ++ run_of run
numbers-more runs run = flat_map-append run_of runs (run ∷ []) ∙ ap (λ l. flat_map run_of runs ++ l) (append-nil (run_of run))

pub total-more : (runs : List Run) (run : Run) → total_of (runs ++ run ∷ []) ≡ total_of runs + run.count
total-more runs run =
    let append : total_of (runs ++ run ∷ []) ≡ total_of runs + total_of (run ∷ []) = sum_by-append (λ r. r.count) runs (run ∷ []) in
    let one : total_of (run ∷ []) ≡ run.count + total_of [] = sum_by-cons (λ r. r.count) run [] in
    let none : total_of [] ≡ 0 = refl in
    omega (arith, append, one, none)

pub within-more : (total : ℕ) (runs : List Run) (run : Run) → All (λ r. r.first + r.count ≤ total) runs → run.first + run.count ≤ total
    → All (λ r. r.first + r.count ≤ total) (runs ++ run ∷ [])
within-more total runs run all one = All-append (λ r. r.first + r.count ≤ total) runs (run ∷ []) all only
  where
    only : All (λ r. r.first + r.count ≤ total) (run ∷ [])
    only zero d lt = one
    only (suc k) d lt = absurd (omega arith)

-- a run more, which tells how many come before it
pub counted-more : (runs : List Run) (run : Run) → AreCounted runs → run.before ≡ total_of runs → AreCounted (runs ++ run ∷ [])
counted-more runs run h is i none lt = elim (cases_lt i (length runs)) [
  | inl old ↦
      ap (λ (r : Run). r.before) (get_or_append_left runs (run ∷ []) none i old) ∙ h i none old
      ∙ ap total_of (sym (take-append-le i runs (run ∷ []) (omega arith)))
  | inr new ↦
      let last : i ≡ length runs = omega (arith, lt, length-append runs (run ∷ [])) in
      let here : get_or (runs ++ run ∷ []) i none ≡ get_or (run ∷ []) 0 none = (let e : i - length runs ≡ 0 = omega arith in get_or-append_right runs (run ∷ []) (length runs) i none refl (omega arith) ∙ ap (λ k. get_or (run ∷ []) k none) e) in
      ap (λ (r : Run). r.before) here ∙ is ∙ ap total_of (sym (take-append-le i runs (run ∷ []) (omega arith) ∙ take_all i runs (omega arith)))
]

-- the runs so far, of the extents before i, and how many nodes are left
pub record AreRunsOf (mdb : Mdb) (extents : List Extent) (size total : ℕ) (runs : List Run) (rest i : ℕ) : Type 0 where
  pub all : flat_map run_of runs ++ take rest (block_numbers mdb (drop i extents)) ≡ take (node_count size) (block_numbers mdb extents)
  pub within : All (λ run. run.first + run.count ≤ total) runs
  pub few : total_of runs + rest ≡ node_count size
  pub counted : AreCounted runs

-- the run of one more extent
module _ (mdb : Mdb) (extents : List Extent) (size total : ℕ) (runs : List Run) (rest i : ℕ) (d : Extent) (run : Run)
    (so_far : AreRunsOf mdb extents size total runs rest i) (lt : i < length extents)
    (is_run : run_of run ≡ take rest (run_of (run_in mdb (get_or extents i d)))) (is_count : run.count ≡ min rest ((get_or extents i d).count * blocks_each mdb)) where
  behind : List ℕ
  behind = take (rest - run.count) (block_numbers mdb (drop (i + 1) extents))

  both : (flat_map run_of runs ++ run_of run) ++ behind ≡ take (node_count size) (block_numbers mdb extents)
  unfolding behind
  both = runs-more mdb extents i (get_or extents i d) d rest (flat_map run_of runs) run lt refl is_run is_count ∙ so_far.all

  pub one-more : (k : ℕ) → k ≡ total_of runs → run.first + run.count ≤ total
      → AreRunsOf mdb extents size total (runs ++ record { first = run.first; count = run.count; before = k } ∷ []) (rest - run.count) (i + 1)
  unfolding behind
  one-more k is inside =
      let own : Run = record { first = run.first; count = run.count; before = k } in
      record {
        all = ap (λ l. l ++ behind) (numbers-more runs own) ∙ both;
        within = within-more total runs own so_far.within inside;
        few = (let sum = total-more runs own in omega (arith, sum, so_far.few, is_count));
        counted = counted-more runs own so_far.counted is;
      }

  pub none-more : run.count ≡ 0 → AreRunsOf mdb extents size total runs rest (i + 1)
  unfolding behind
  none-more none =
      let empty : run_of run ≡ [] = ap (λ k. range_with_len run.first k) none in
      let left : rest - run.count ≡ rest = omega arith in
      record {
        all = ap (λ k. flat_map run_of runs ++ take k (block_numbers mdb (drop (i + 1) extents))) (sym left)
            ∙ ap (λ l. l ++ behind) (sym (append-nil (flat_map run_of runs)) ∙ ap (λ l. flat_map run_of runs ++ l) (sym empty)) ∙ both;
        within = so_far.within;
        few = so_far.few;
        counted = so_far.counted;
      }
