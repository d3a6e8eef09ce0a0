-- The piece that begins at a byte.
use Rattle.std.proofs.Common.{◌≡◌, ◌∙◌, ℕ, ◌+◌, ◌-◌, ◌<◌, ◌≤◌, true, List, length, take, drop, Some, None, ap, sym, subst, inl, inr, arith, leb}
use Rattle.std.specs.Prelude.{IsTrue}
use Rattle.std.proofs.lemmas.Bool.{and_parts, cases_lt, leb-true}
use Rattle.std.proofs.lemmas.Option.{none-some}
use Rattle.hfs_put_sources.specs.Items.{PlannedItem}
use Rattle.hfs_put_sources.specs.Trees.{Tree}
use Rattle.hfs_put_sources.specs.declared.fork_run.ForkRun.{ForkRun}
use Rattle.hfs_put.specs.Laid.{laid}
use Rattle.hfs_put.specs.Pieces.{IsInRun, IsPieceAt, piece_bytes, piece_len}
use Rattle.hfs_put.specs.Runs.{are_apart, end_of, last_end, lie_in, next_run}
use Rattle.hfs_put.specs.declared.piece.Piece.{Piece}
use Rattle.hfs_put.specs.declared.piece.Piece.TheVariants.{Own, OfRun}
use Rattle.hfs_put.proofs.OrderLemmas.{next-is-one}
use Rattle.hfs_put.proofs.LaidLemmas.{before-laid, length-laid, own-laid, run-laid, same-run}

lies-apart : (start : ℕ) (runs : List ForkRun) (file : List ℕ) → IsTrue (lie_in start runs file) → (are_apart 0 runs ≡ true) × (start + last_end 0 runs ≤ length file)
lies-apart start runs file lies =
    let both = and_parts (are_apart 0 runs) (leb (start + last_end 0 runs) (length file)) lies in
    (both.0, leb-true (start + last_end 0 runs) (length file) both.1)

-- it is as long as without the forks
pub length-lies : (start : ℕ) (host : Tree) (items : List PlannedItem) (runs : List ForkRun) (file : List ℕ) → IsTrue (lie_in start runs file)
    → length (laid start host items runs file) ≡ length file
length-lies start host items runs file lies =
    let both = lies-apart start runs file lies in
    length-laid start host items file 0 runs both.0 both.1

-- before the image
pub piece-before : (start at count : ℕ) (runs : List ForkRun) → at + count ≤ start → IsPieceAt start runs at (Own count)
piece-before start at count runs before = λ host items file lies.
    let both = lies-apart start runs file lies in
    before-laid start host items file 0 at count runs both.0 both.1 (omega (arith, before))

-- behind the last run
pub piece-behind : (start at count : ℕ) (runs : List ForkRun) → start ≤ at → next_run runs (at - start) ≡ None → IsPieceAt start runs at (Own count)
piece-behind start at count runs inside none = λ host items file lies.
    let both = lies-apart start runs file lies in
    let there : start + (at - start) ≡ at = omega (arith, inside) in
    subst (λ n. take count (drop n (laid start host items runs file)) ≡ take count (drop n file)) there
    (own-laid start host items file 0 (at - start) count runs both.0 both.1 (λ next is. absurd (none-some next (sym none ∙ is))))

-- before the end of the next run
pub piece-next : (start at count more : ℕ) (runs : List ForkRun) (run : ForkRun) (piece : Piece) → start ≤ at → next_run runs (at - start) ≡ Some run
    → (at - start < run.place → piece ≡ Own count) → (at - start < run.place → at - start + count ≤ run.place)
    → (run.place ≤ at - start → piece ≡ OfRun run (at - start - run.place) more) → (run.place ≤ at - start → at - start + more ≤ end_of run)
    → IsPieceAt start runs at piece
piece-next start at count more runs run piece inside found before gap within room = λ host items file lies.
    let both = lies-apart start runs file lies in
    let byte = at - start in
    let there : start + byte ≡ at = omega (arith, inside) in
    let whole : (p : Piece) → Type 0 = λ p. take (piece_len p) (drop at (laid start host items runs file)) ≡ piece_bytes host items file at p in
    elim (cases_lt byte run.place) [
      | inl less ↦
          let short : byte + count ≤ run.place = gap less in
          subst whole (sym (before less))
          (subst (λ n. take count (drop n (laid start host items runs file)) ≡ take count (drop n file)) there
          (own-laid start host items file 0 byte count runs both.0 both.1
          (λ next is. subst (λ (r : ForkRun). byte + count ≤ r.place) (same-run run next (sym found ∙ is)) short)))
      | inr in_run ↦
          let short : byte + more ≤ end_of run = room in_run in
          subst whole (sym (within in_run))
          (ap (λ n. take more (drop n (laid start host items runs file))) (sym there)
          ∙ run-laid start host items file 0 byte more run runs both.0 both.1 found in_run short)
    ]

-- and where it is one of the run's, it lies there
pub piece-in : (start at count more : ℕ) (runs : List ForkRun) (run : ForkRun) (piece : Piece) → start ≤ at → next_run runs (at - start) ≡ Some run
    → (at - start < run.place → piece ≡ Own count) → (run.place ≤ at - start → piece ≡ OfRun run (at - start - run.place) more)
    → (run.place ≤ at - start → at - start + more ≤ end_of run) → IsInRun start runs at piece
piece-in start at count more runs run piece inside found before within room = elim (cases_lt (at - start) run.place) [
  | inl less ↦ subst (IsInRun start runs at) (sym (before less)) tt
  | inr in_run ↦
      let short = room in_run in
      subst (IsInRun start runs at) (sym (within in_run)) (record {
        is_one = next-is-one runs (at - start) run found;
        there = omega (arith, inside, in_run);
        within = omega (arith, short, in_run);
      })
]
