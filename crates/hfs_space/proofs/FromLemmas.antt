-- The runs of a file's blocks from one of them on, and how often a block stands in runs.
use Rattle.std.proofs.Common.{◌≡◌, ℕ, ◌+◌, ◌-◌, ◌<◌, ◌≤◌, inl, inr, cond, eqb, List, [], ◌∷◌, ◌++◌, length, take, drop, get_or, refl, sym, ap, ◌∙◌, arith}
use Rattle.std.specs.Prelude.{min}
use Rattle.std.specs.List.{flat_map, range_with_len, count_by}
use Rattle.std.proofs.Math.Seq.{drop-append_seam, drop-append-add}
use Rattle.std.proofs.lemmas.Bool.{cases_lt}
use Rattle.std.proofs.lemmas.List.{take_more, drop-append-le, drop_all}
use Rattle.std.proofs.lemmas.List.FromFn.{length-range_with_len}
use Rattle.std.proofs.lemmas.List.Sums.{sum_by-cons, sum_by-take-drop, sum_by-take-le}
use Rattle.hfs_blocks.specs.declared.run.Run.{Run}
use Rattle.hfs_blocks.specs.Blocks.{run_of, AreCounted}
use Rattle.hfs_space.specs.Owners.{owners}
use Rattle.hfs_space.proofs.OwnerLemmas.{append}
use Rattle.hfs_space.proofs.ForkLawLemmas.{range-add}
use Rattle.hfs_space.proofs.TreeRuns.{numbers-more}
use Rattle.hfs_space.specs.Zeros.{is_of_run}
use Rattle.hfs_space.proofs.NumberLemmas.{outside, inside}
use Rattle.hfs_space.proofs.Puts.{runs-length}
use Rattle.hfs_space.proofs.ZeroLemmas.{in-run, before-run, behind-run}

-- ---- the blocks from one on

drop-at : (k : ℕ) (xs ys : List ℕ) → length xs ≡ k → drop k (xs ++ ys) ≡ ys
drop-at k xs ys long = ap (λ n. drop n (xs ++ ys)) (sym long) ∙ drop-append_seam xs ys

pub cut : (a n k : ℕ) → k ≤ n → drop k (range_with_len a n) ≡ range_with_len (a + k) (n - k)
cut a n k le =
    ap (λ m. drop k (range_with_len a m)) (let e : n ≡ k + (n - k) = omega (arith, le) in e) ∙ ap (drop k) (range-add a k (n - k))
    ∙ drop-at k (range_with_len a k) (range_with_len (a + k) (n - k)) (length-range_with_len a k)

-- the part of one more run that lies behind the first `from` blocks
pub runs-next : (runs : List Run) (from i : ℕ) (d : Run) (rest : List ℕ) (passed : ℕ) → AreCounted runs → i < length runs → rest ≡ drop from (flat_map run_of (take i runs)) → passed ≡ min (from - (get_or runs i d).before) (get_or runs i d).count
    → rest ++ range_with_len ((get_or runs i d).first + passed) ((get_or runs i d).count - passed) ≡ drop from (flat_map run_of (take (i + 1) runs))
runs-next runs from i d rest passed counted lt so_far is =
    let r = get_or runs i d in
    let front = flat_map run_of (take i runs) in
    let whole : flat_map run_of (take (i + 1) runs) ≡ front ++ run_of r = ap (flat_map run_of) (take_more runs i d lt) ∙ numbers-more (take i runs) r in
    let total = runs-length (take i runs) in
    let before = counted i d lt in
    let long : length front ≡ r.before = omega (arith, total, before) in
    let spread = length-range_with_len r.first r.count in
    let m = from - r.before in
    let step : rest ++ range_with_len (r.first + passed) (r.count - passed) ≡ drop from (front ++ run_of r) = elim (cases_lt r.before from) [
      | inr less ↦
          let first_same : r.first + passed ≡ r.first = omega (arith, is, less) in
          let count_same : r.count - passed ≡ r.count = omega (arith, is, less) in
          (λ t. so_far t ++ range_with_len (first_same t) (count_same t)) ∙ sym (drop-append-le from front (run_of r) (omega (arith, less, long)))
      | inl more ↦
          let tail : range_with_len (r.first + passed) (r.count - passed) ≡ drop m (run_of r) = elim (cases_lt r.count m) [
            | inl past ↦ ap (range_with_len (r.first + passed)) (let e : r.count - passed ≡ 0 = omega (arith, is, past) in e) ∙ sym (drop_all m (run_of r) (omega (arith, spread, past)))
            | inr within ↦ (let e : passed ≡ m = omega (arith, is, within) in (λ t. range_with_len (r.first + e t) (r.count - e t))) ∙ sym (cut r.first r.count m within)
          ] in
          let nothing : rest ≡ [] = so_far ∙ drop_all from front (omega (arith, long, more)) in
          (λ t. nothing t ++ tail t)
          ∙ sym (ap (λ n. drop n (front ++ run_of r)) (let e : from ≡ length front + m = omega (arith, long, more) in e) ∙ drop-append-add front (run_of r) m)
    ] in
    step ∙ sym (ap (drop from) whole)

-- ---- how often a block stands in runs

once-here : (n : ℕ) (r : Run) → owners (run_of r) n ≡ cond (is_of_run n r) 1 0
once-here n r = elim (cases_lt n r.first) [
  | inl low ↦ outside r.first r.count n (inl low) ∙ sym (ap (λ t. cond t 1 0) (before-run n r low))
  | inr from ↦ elim (cases_lt n (r.first + r.count)) [
    | inl high ↦ inside r.first r.count n from high ∙ sym (ap (λ t. cond t 1 0) (in-run n r from high))
    | inr past ↦ outside r.first r.count n (inr past) ∙ sym (ap (λ t. cond t 1 0) (behind-run n r past))
  ]
]

counted-owners : (runs : List Run) (n : ℕ) → count_by (is_of_run n) runs ≡ owners (flat_map run_of runs) n
counted-owners [] n = refl
counted-owners (r ∷ rs) n =
    let sums = sum_by-cons (λ (x : Run). cond (is_of_run n x) 1 0) r rs in
    let parts = append n (run_of r) (flat_map run_of rs) in
    let here = once-here n r in
    let rest = counted-owners rs n in
    omega (arith, sums, parts, here, rest)

-- runs of blocks each of which stands once have each block once
pub once-from : (ns : List ℕ) (first last : ℕ) (runs : List Run) → flat_map run_of runs ≡ drop first (take last ns) → ((n : ℕ) → owners ns n ≤ 1) → (n : ℕ) → count_by (is_of_run n) runs ≤ 1
once-from ns first last runs are once n =
    let all = counted-owners runs n ∙ ap (λ (l : List ℕ). owners l n) are in
    let f : ℕ → ℕ = λ o. cond (eqb o n) 1 0 in
    let rest = sum_by-take-drop f (take last ns) first in
    let front = sum_by-take-le f ns last in
    let most = once n in
    omega (arith, all, rest, front, most)
