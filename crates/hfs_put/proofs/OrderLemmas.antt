-- Runs that lie one behind the other.
use Rattle.std.proofs.Common.{◌≡◌, ◌∙◌, ℕ, zero, suc, ◌+◌, ◌<◌, ◌≤◌, Bool, true, false, ◌&&◌, leb, ltb, List, [], ◌∷◌, length, drop, get_or, Some, ap, sym, refl, subst, inl, inr, arith}
use Rattle.std.specs.Prelude.{find, slice_get, Contains}
use Rattle.std.specs.List.Sorted.{IsNonDecreasingBy, IsPartitionedBy, IsPartitionPoint}
use Rattle.std.proofs.lemmas.Bool.{and_parts, and_left, leb-true, leb-false, le-leb, lt-leb, le-ltb, lt-ltb, ltb-true, cases_Bool, cond-true, cond-false}
use Rattle.std.proofs.lemmas.List.{drop_more}
use Rattle.std.proofs.lemmas.List.Sorted.{IsPartitionedBy-leb}
use Rattle.std.proofs.lemmas.Option.{none-some}
use Rattle.hfs_put_sources.specs.declared.fork_run.ForkRun.{ForkRun}
use Rattle.hfs_put.proofs.LaidLemmas.{same-run}
use Rattle.hfs_put.specs.Runs.{are_apart, end_of, last_end, next_run}

-- ---- one run more

-- a run that lies behind what came before leaves it to the others
pub apart-more : (from i : ℕ) (run : ForkRun) (runs : List ForkRun) → i < length runs → run ≡ get_or runs i run → from ≤ run.place
    → are_apart from (drop i runs) ≡ are_apart (end_of run) (drop (i + 1) runs)
apart-more from i run runs lt is behind =
    ap (are_apart from) (drop_more runs i run lt ∙ ap (λ (r : ForkRun). r ∷ drop (i + 1) runs) (sym is))
    ∙ ap (λ (b : Bool). b && are_apart (end_of run) (drop (i + 1) runs)) (le-leb from run.place behind)

pub last-more : (from i : ℕ) (run : ForkRun) (runs : List ForkRun) → i < length runs → run ≡ get_or runs i run
    → last_end from (drop i runs) ≡ last_end (end_of run) (drop (i + 1) runs)
last-more from i run runs lt is = ap (last_end from) (drop_more runs i run lt ∙ ap (λ (r : ForkRun). r ∷ drop (i + 1) runs) (sym is))

-- one that doesn't, doesn't
pub apart-less : (from i : ℕ) (run : ForkRun) (runs : List ForkRun) → i < length runs → run ≡ get_or runs i run → run.place < from
    → are_apart from (drop i runs) ≡ false
apart-less from i run runs lt is before =
    ap (are_apart from) (drop_more runs i run lt ∙ ap (λ (r : ForkRun). r ∷ drop (i + 1) runs) (sym is))
    ∙ and_left (leb from run.place) (are_apart (end_of run) (drop (i + 1) runs)) (lt-leb from run.place before)

-- ---- their ends

place-behind : (from j : ℕ) (d : ForkRun) (runs : List ForkRun) → are_apart from runs ≡ true → j < length runs → from ≤ (get_or runs j d).place
place-behind from j d [] apart lt = absurd (omega (arith, lt))
place-behind from zero d (run ∷ runs) apart lt = leb-true from run.place (and_parts (leb from run.place) (are_apart (end_of run) runs) apart).0
place-behind from (suc j) d (run ∷ runs) apart lt =
    let both = and_parts (leb from run.place) (are_apart (end_of run) runs) apart in
    let first = leb-true from run.place both.0 in
    let next = place-behind (end_of run) j d runs both.1 (omega (arith, lt)) in
    omega (arith, first, next)

ends-rise : (from : ℕ) (runs : List ForkRun) → are_apart from runs ≡ true → IsNonDecreasingBy end_of runs
ends-rise from [] apart i j d le lt = absurd (omega (arith, lt))
ends-rise from (run ∷ runs) apart zero zero d le lt = omega arith
ends-rise from (run ∷ runs) apart (suc i) zero d le lt = absurd (omega (arith, le))
ends-rise from (run ∷ runs) apart zero (suc j) d le lt =
    let both = and_parts (leb from run.place) (are_apart (end_of run) runs) apart in
    let next = place-behind (end_of run) j d runs both.1 (omega (arith, lt)) in
    omega (arith, next)
ends-rise from (run ∷ runs) apart (suc i) (suc j) d le lt =
    let both = and_parts (leb from run.place) (are_apart (end_of run) runs) apart in
    ends-rise (end_of run) runs both.1 i j d (omega (arith, le)) (omega (arith, lt))

pub ended-parted : (runs : List ForkRun) (byte : ℕ) → are_apart 0 runs ≡ true → IsPartitionedBy (λ run. leb (end_of run) byte) runs
ended-parted runs byte apart = IsPartitionedBy-leb end_of runs byte (ends-rise 0 runs apart)

-- ---- the first that passes

found-at : (p : ForkRun → Bool) (runs : List ForkRun) (k : ℕ) → ((i : ℕ) (d : ForkRun) → i < k → p (get_or runs i d) ≡ false)
    → ((d : ForkRun) → k < length runs → p (get_or runs k d) ≡ true) → k ≤ length runs → find p runs ≡ slice_get runs k
found-at p [] k none some le = refl
found-at p (run ∷ runs) zero none some le = cond-true (p run) (Some run) (find p runs) (some run (omega arith))
found-at p (run ∷ runs) (suc k) none some le =
    cond-false (p run) (Some run) (find p runs) (none 0 run (omega arith))
    ∙ found-at p runs k (λ i d lt. none (suc i) d (omega (arith, lt))) (λ d lt. some d (omega (arith, lt))) (omega (arith, le))

pub next-at : (runs : List ForkRun) (byte k : ℕ) → k ≤ length runs
    → IsPartitionPoint (λ (run : ForkRun). leb (end_of run) byte ≡ true) (λ (run : ForkRun). leb (end_of run) byte ≡ false) runs k → next_run runs byte ≡ slice_get runs k
next-at runs byte k le point =
    found-at (λ (run : ForkRun). ltb byte (end_of run)) runs k
    (λ i d lt. le-ltb byte (end_of (get_or runs i d)) (leb-true (end_of (get_or runs i d)) byte (point.0 i d (omega arith) lt)))
    (λ d lt. lt-ltb byte (end_of (get_or runs k d)) (leb-false (end_of (get_or runs k d)) byte (point.1 k d (omega arith) lt)))
    le

pub next-ends : (runs : List ForkRun) (byte : ℕ) (run : ForkRun) → next_run runs byte ≡ Some run → byte < end_of run
next-ends [] byte run is = absurd (none-some run is)
next-ends (first ∷ runs) byte run is = elim (cases_Bool (ltb byte (end_of first))) [
  | inl here ↦
      let found : Some first ≡ Some run = sym (cond-true (ltb byte (end_of first)) (Some first) (next_run runs byte) here) ∙ is in
      let same : first ≡ run = same-run first run found in
      subst (λ (r : ForkRun). byte < end_of r) same (ltb-true byte (end_of first) here)
  | inr past ↦ next-ends runs byte run (sym (cond-false (ltb byte (end_of first)) (Some first) (next_run runs byte) past) ∙ is)
]

pub next-is-one : (runs : List ForkRun) (byte : ℕ) (run : ForkRun) → next_run runs byte ≡ Some run → Contains runs run
next-is-one [] byte run is = absurd (none-some run is)
next-is-one (first ∷ runs) byte run is = elim (cases_Bool (ltb byte (end_of first))) [
  | inl here ↦
      let found : Some first ≡ Some run = sym (cond-true (ltb byte (end_of first)) (Some first) (next_run runs byte) here) ∙ is in
      (0, omega arith, same-run first run found)
  | inr past ↦
      let rest = next-is-one runs byte run (sym (cond-false (ltb byte (end_of first)) (Some first) (next_run runs byte) past) ∙ is) in
      (suc rest.0, (let lt = rest.1 in omega (arith, lt)), rest.2)
]
