-- The block of a node, by the run before which the file has as many blocks at most.
use Rattle.std.proofs.Common.{◌≡◌, ℕ, zero, suc, ◌+◌, ◌-◌, ◌<◌, ◌≤◌, true, false, leb, leb-true, leb-false, List, [], ◌∷◌, length, take, get_or, ap, subst, ◌∙◌, arith, length-append}
use Rattle.std.specs.Prelude.{⊤}
use Rattle.std.specs.List.{flat_map}
use Rattle.std.specs.List.Sorted.{IsNonDecreasingBy, IsPartitionedBy, IsPartitionPoint}
use Rattle.std.proofs.lemmas.List.Sorted.{IsPartitionedBy-leb}
use Rattle.std.proofs.lemmas.List.{get_or_append_left, get_or-append_right}
use Rattle.std.proofs.lemmas.List.FromFn.{length-range_with_len}
use Rattle.std.proofs.lemmas.List.Sums.{sum_by-cons}
use Rattle.hfs_blocks.specs.declared.run.Run.{Run}
use Rattle.hfs_blocks.specs.Blocks.{run_of, total_of, AreCounted}

-- each run tells how many blocks come before it; before the first there are so many
abbrev AreCountedFrom : ℕ → List Run → Type 0
AreCountedFrom before [] = ⊤
AreCountedFrom before (run ∷ runs) = (run.before ≡ before) × AreCountedFrom (before + run.count) runs

counted-from : (before : ℕ) (runs : List Run) → ((i : ℕ) (none : Run) → i < length runs → (get_or runs i none).before ≡ before + total_of (take i runs)) → AreCountedFrom before runs
counted-from before [] h = tt
counted-from before (run ∷ runs) h = (
  (let first = h 0 run (omega arith) in omega arith),
  counted-from (before + run.count) runs (λ i none lt. let more = h (suc i) none (omega arith) in let sum = sum_by-cons (λ r. r.count) run (take i runs) in omega (arith, more, sum)),
)

counted-0 : (runs : List Run) → AreCounted runs → AreCountedFrom 0 runs
counted-0 runs h = counted-from 0 runs (λ i none lt. let e = h i none lt in omega arith)

abbrev numbers : List Run → List ℕ
numbers runs = flat_map run_of runs

in_range : (a n b k : ℕ) → k < n → get_or (run_of (record { first = a; count = n; before = b })) k 0 ≡ a + k
in_range a zero b k lt = absurd (omega arith)
in_range a (suc n) b zero lt = (let e : a ≡ a + zero = omega arith in e)
in_range a (suc n) b (suc k) lt = in_range (a + 1) n b k (omega arith) ∙ (let e : a + 1 + k ≡ a + suc k = omega arith in e)

length-numbers : (run : Run) (rest : List Run) → length (numbers (run ∷ rest)) ≡ run.count + length (numbers rest)
length-numbers run rest = length-append (run_of run) (numbers rest) ∙ ap (λ k. k + length (numbers rest)) (length-range_with_len run.first run.count)

-- no run begins before those that it stands behind
from : (before : ℕ) (runs : List Run) (i : ℕ) (d : Run) → AreCountedFrom before runs → i < length runs → before ≤ (get_or runs i d).before
from before [] i d h lt = absurd (omega arith)
from before (run ∷ runs) zero d h lt = let e = h.0 in omega arith
from before (run ∷ runs) (suc i) d h lt = let more = from (before + run.count) runs i d h.1 (omega arith) in omega arith

rises : (before : ℕ) (runs : List Run) → AreCountedFrom before runs → IsNonDecreasingBy (λ run. run.before) runs
rises before runs h i j d le lt = up before runs h i j d le lt
  where
    up : (before : ℕ) (runs : List Run) → AreCountedFrom before runs → (i j : ℕ) (d : Run) → i ≤ j → j < length runs → (get_or runs i d).before ≤ (get_or runs j d).before
    up before [] h i j d le lt = absurd (omega arith)
    up before (run ∷ runs) h zero j d le lt = let e = h.0 in let more = from before (run ∷ runs) j d h lt in omega arith
    up before (run ∷ runs) h (suc i) zero d le lt = absurd (omega arith)
    up before (run ∷ runs) h (suc i) (suc j) d le lt = up (before + run.count) runs h.1 i j d (omega arith) (omega arith)

-- a node that lies in run i is the block of that number
found : (before : ℕ) (runs : List Run) (n i : ℕ) (d : Run) → AreCountedFrom before runs → i < length runs
    → (get_or runs i d).before ≤ n → n < (get_or runs i d).before + (get_or runs i d).count
    → get_or (numbers runs) (n - before) 0 ≡ (get_or runs i d).first + (n - (get_or runs i d).before)
found before [] n i d h lt low high = absurd (omega arith)
found before (run ∷ rest) n zero d h lt low high =
    let e = h.0 in
    get_or_append_left (run_of run) (numbers rest) 0 (n - before) (omega (arith, length-range_with_len run.first run.count))
    ∙ in_range run.first run.count run.before (n - before) (omega arith) ∙ (let same : run.first + (n - before) ≡ run.first + (n - run.before) = omega arith in same)
found before (run ∷ rest) n (suc i) d h lt low high =
    let start = from (before + run.count) rest i d h.1 (omega arith) in
    get_or-append_right (run_of run) (numbers rest) run.count (n - before) 0 (length-range_with_len run.first run.count) (omega arith)
    ∙ (let same : n - before - run.count ≡ n - (before + run.count) = omega arith in ap (λ k. get_or (numbers rest) k 0) same)
    ∙ found (before + run.count) rest n i d h.1 (omega arith) low high

-- a run ends where the next begins, and the last with the file
ends-at : (before : ℕ) (runs : List Run) (n i : ℕ) (d : Run) → AreCountedFrom before runs → i < length runs
    → (i + 1 < length runs → n < (get_or runs (i + 1) d).before) → n < before + length (numbers runs)
    → n < (get_or runs i d).before + (get_or runs i d).count
ends-at before [] n i d h lt high few = absurd (omega arith)
ends-at before (run ∷ []) n zero d h lt high few = let e = h.0 in let len = length-numbers run [] in omega (arith, len)
ends-at before (run ∷ next ∷ rest) n zero d h lt high few = let e = h.0 in let f = h.1.0 in let above = high (omega arith) in omega arith
ends-at before (run ∷ rest) n (suc i) d h lt high few =
    let len = length-numbers run rest in
    ends-at (before + run.count) rest n i d h.1 (omega arith)
    (λ lt'. let same : suc i + 1 ≡ suc (i + 1) = omega arith in subst (λ k. n < (get_or (run ∷ rest) k d).before) same (high (omega arith))) (omega (arith, len))

-- a run ends with the file or before
ends-within : (before : ℕ) (runs : List Run) (i : ℕ) (d : Run) → AreCountedFrom before runs → i < length runs
    → (get_or runs i d).before + (get_or runs i d).count ≤ before + length (numbers runs)
ends-within before [] i d h lt = absurd (omega arith)
ends-within before (run ∷ rest) zero d h lt = let e = h.0 in let len = length-numbers run rest in omega (arith, e, len)
ends-within before (run ∷ rest) (suc i) d h lt =
    let more = ends-within (before + run.count) rest i d h.1 (omega arith) in
    let len = length-numbers run rest in
    omega (arith, more, len)

pub run-ends : (runs : List Run) (i : ℕ) (d : Run) → AreCounted runs → i < length runs → (get_or runs i d).before + (get_or runs i d).count ≤ length (numbers runs)
run-ends runs i d h lt = let within = ends-within 0 runs i d (counted-0 runs h) lt in omega (arith, within)

-- a node that lies in run i of a file
pub block-is : (runs : List Run) (n i : ℕ) (d : Run) → AreCounted runs → i < length runs
    → (get_or runs i d).before ≤ n → n < (get_or runs i d).before + (get_or runs i d).count
    → get_or (numbers runs) n 0 ≡ (get_or runs i d).first + (n - (get_or runs i d).before)
block-is runs n i d h lt low high =
    let same : n ≡ n - 0 = omega arith in
    ap (λ k. get_or (numbers runs) k 0) same ∙ found 0 runs n i d (counted-0 runs h) lt low high

-- the first run begins with the file
first-is : (runs : List Run) (d : Run) → AreCountedFrom 0 runs → 0 < length runs → (get_or runs 0 d).before ≡ 0
first-is [] d h lt = absurd (omega arith)
first-is (run ∷ runs) d h lt = h.0

some-runs : (runs : List Run) (n : ℕ) → n < length (numbers runs) → 0 < length runs
some-runs [] n lt = absurd (omega arith)
some-runs (run ∷ runs) n lt = omega arith

pub parted : (runs : List Run) (n : ℕ) → AreCounted runs → IsPartitionedBy (λ run. leb run.before n) runs
parted runs n h = IsPartitionedBy-leb (λ (run : Run). run.before) runs n (rises 0 runs (counted-0 runs h))

-- of the runs before which the file has at most n blocks, node n lies in the last
pub record IsPlace (runs : List Run) (n p : ℕ) : Type 0 where
  pub some : 1 ≤ p
  pub begins : (d : Run) → (get_or runs (p - 1) d).before ≤ n
  pub ends : (d : Run) → n < (get_or runs (p - 1) d).before + (get_or runs (p - 1) d).count

pub placed : (runs : List Run) (n p : ℕ) → AreCounted runs → n < length (numbers runs) → p ≤ length runs
    → IsPartitionPoint (λ run. leb run.before n ≡ true) (λ run. leb run.before n ≡ false) runs p → IsPlace runs n p
placed runs n zero h lt le point =
    let none : Run = record { first = 0; count = 0; before = 0 } in
    let runs_some = some-runs runs n lt in
    absurd (let above = leb-false (get_or runs 0 none).before n (point.1 0 none (omega arith) runs_some) in omega (arith, first-is runs none (counted-0 runs h) runs_some))
placed runs n (suc p) h lt le point =
    let same : p ≡ suc p - 1 = omega arith in
    record {
      some = omega arith;
      begins = λ d. subst (λ k. (get_or runs k d).before ≤ n) same (leb-true (get_or runs p d).before n (point.0 p d (omega arith) (omega arith)));
      ends = λ d. subst (λ k. n < (get_or runs k d).before + (get_or runs k d).count) same
          (ends-at 0 runs n p d (counted-0 runs h) (omega arith) (λ within. leb-false (get_or runs (p + 1) d).before n (point.1 (p + 1) d (omega arith) within)) (omega arith));
    }
