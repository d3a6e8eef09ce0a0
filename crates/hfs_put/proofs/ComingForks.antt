-- The bytes that come of a tree for a list, and those that are laid in its runs.
use Rattle.std.proofs.Common.{◌≡◌, ℕ, zero, suc, ◌+◌, ◌-◌, ◌≤◌, List, [], ◌∷◌, ◌++◌, length, take, drop, replicate, Option, Some, None, inl, inr, refl, sym, ap, ◌∙◌, arith}
use Rattle.std.specs.Prelude.{slice_get}
use Rattle.std.proofs.lemmas.Bool.{cases_lt}
use Rattle.std.proofs.lemmas.List.{append_assoc, length-append, length-replicate, length-take, take_at, take-append-le, drop-append-le, drop_all, take-replicate, drop-replicate, replicate-append-replicate}
use Rattle.std.proofs.Math.Seq.{drop-append-add, take-append-add}
use Rattle.hfs_put.specs.Laid as forks
use Rattle.hfs_put.specs.Laid.{bytes_of, filled, laid_at}
use Rattle.hfs_model.specs.declared.call.Fork.{Fork}
use Rattle.hfs_model.specs.declared.call.Fork.TheVariants.{DataFork, ResFork}
use Rattle.hfs_put_plan.specs.declared.items.PutItem.{PutItem}
use Rattle.hfs_put.specs.LaidRuns as image
use Rattle.hfs_put_sources.specs.Forks.{fork_bytes, fork_path, fork_span, span_bytes}
use Rattle.hfs_put_sources.specs.Items.{PlannedItem}
use Rattle.hfs_put_sources.specs.Trees.{Tree}
use Rattle.hfs_put_sources.specs.declared.fork_run.ForkRun.{ForkRun}
use Rattle.hfs_put_sources.specs.declared.plan.ForkSpan.{ForkSpan}
use Rattle.hfs_put.specs.Arrivals.{arrivals_of, coming_bytes}

-- ---- zeros behind the end

-- zeros at the end change nothing
filled-zeros : (n z : ℕ) (xs : List ℕ) → filled n (xs ++ replicate z 0) ≡ filled n xs
filled-zeros n z xs =
    let other : z + n ≡ n + z = omega arith in
    ap (take n) (append_assoc xs (replicate z 0) (replicate n 0))
    ∙ ap (λ (l : List ℕ). take n (xs ++ l))
    (replicate-append-replicate z n 0 ∙ ap (λ (k : ℕ). replicate k 0) other ∙ sym (replicate-append-replicate n z 0))
    ∙ ap (take n) (sym (append_assoc xs (replicate n 0) (replicate z 0)))
    ∙ take-append-le n (xs ++ replicate n 0) (replicate z 0) (omega (arith, length-append xs (replicate n 0), length-replicate {A = ℕ} n 0))

filled-long : (m : ℕ) (xs : List ℕ) → length xs ≤ m → filled m xs ≡ xs ++ replicate (m - length xs) 0
filled-long m xs le =
    let room : m ≡ length xs + (m - length xs) = omega (arith, le) in
    ap (λ (k : ℕ). take k (xs ++ replicate m 0)) room
    ∙ take-append-add xs (replicate m 0) (m - length xs)
    ∙ ap (λ (l : List ℕ). xs ++ l) (take-replicate (m - length xs) m 0 (omega arith))

-- those of a fork that was filled before
filled-drop : (n k m : ℕ) (xs : List ℕ) → length xs ≤ m → filled n (drop k (filled m xs)) ≡ filled n (drop k xs)
filled-drop n k m xs le =
    let z = m - length xs in
    ap (λ (l : List ℕ). filled n (drop k l)) (filled-long m xs le)
    ∙ elim (cases_lt (length xs) k) [
      | inr inside ↦ ap (filled n) (drop-append-le k xs (replicate z 0) inside) ∙ filled-zeros n z (drop k xs)
      | inl past ↦
          let e = k - length xs in
          let there : k ≡ length xs + e = omega (arith, past) in
          ap (λ (j : ℕ). filled n (drop j (xs ++ replicate z 0))) there
          ∙ ap (filled n) (drop-append-add xs (replicate z 0) e ∙ drop-replicate e z 0)
          ∙ filled-zeros n (z - e) []
          ∙ ap (filled n) (sym (drop_all k xs (omega (arith, past))))
    ]

pub whole_forks_come : (host : Tree) (item : PlannedItem) (fork : Fork) → length (fork_bytes host item fork) ≡ (fork_span item.plan fork).len
    → coming_bytes host item fork ≡ fork_bytes host item fork
whole_forks_come host item fork whole =
    let len = (fork_span item.plan fork).len in take_at (fork_bytes host item fork) (replicate len 0) len whole

-- ---- the forks of a list

module _ (host : Tree) where
  -- a tree has no more bytes of a fork than were planned
  few-bytes : (path : Option (List ℕ)) (span : ForkSpan) → length (span_bytes host path span) ≤ span.len
  few-bytes (Some path) span = omega (arith, length-take span.len (drop span.start (host.bytes path)))
  few-bytes None span = omega arith

  abbrev coming : Option PlannedItem → Fork → List ℕ
  coming (Some item) fork = coming_bytes host item fork
  coming None fork = []

  fork-at : (items : List PlannedItem) (places : List PutItem) (i : ℕ) (fork : Fork) → length places ≡ length items
      → image.fork_bytes (slice_get (arrivals_of host items places) i) fork ≡ coming (slice_get items i) fork
  fork-at [] places i fork e = refl
  fork-at (item ∷ items) [] i fork e = absurd (omega (arith, e))
  fork-at (item ∷ items) (place ∷ places) zero DataFork e = refl
  fork-at (item ∷ items) (place ∷ places) zero ResFork e = refl
  fork-at (item ∷ items) (place ∷ places) (suc i) fork e = fork-at items places i fork (omega (arith, e))

  module _ (items : List PlannedItem) (places : List PutItem) (same : length places ≡ length items) where
    run-bytes : (run : ForkRun) → forks.run_bytes host items run ≡ image.run_bytes (arrivals_of host items places) run
    run-bytes run =
        sym (by (slice_get items run.item))
        ∙ ap (λ (l : List ℕ). filled run.len (drop run.offset l)) (sym (fork-at items places run.item run.fork same))
      where
        by : (o : Option PlannedItem) → filled run.len (drop run.offset (coming o run.fork)) ≡ filled run.len (drop run.offset (bytes_of host o run.fork))
        by None = refl
        by (Some item) =
            filled-drop run.len run.offset (fork_span item.plan run.fork).len (fork_bytes host item run.fork)
            (few-bytes (fork_path item run.fork) (fork_span item.plan run.fork))

    pub laid_forks_are_arrivals : (runs : List ForkRun) (bytes : List ℕ)
        → forks.laid 0 host items runs bytes ≡ image.laid (arrivals_of host items places) runs bytes
    laid_forks_are_arrivals [] bytes = refl
    laid_forks_are_arrivals (run ∷ runs) bytes =
        let first : 0 + run.place ≡ run.place = omega arith in
        λ i. laid_at (first i) (run-bytes run i) (laid_forks_are_arrivals runs bytes i)
