-- Pieces of a file in which forks are laid.
use Rattle.std.proofs.Common.{◌≡◌, ◌∙◌, ℕ, ◌+◌, ◌-◌, ◌≤◌, Bool, true, cond, leb, ltb, List, [], ◌∷◌, ◌++◌, length, take, drop, replicate, Some, ap, sym, refl, subst, inl, inr, arith}
use Rattle.std.specs.Prelude.{slice_get}
use Rattle.std.proofs.lemmas.Bool.{and_parts, leb-true, ltb-false, cases_Bool}
use Rattle.std.proofs.lemmas.List.{length-take, length-drop, length-append, length-replicate, take-append-le, drop-append-le, drop-drop, drop-take, take-take}
use Rattle.std.proofs.lemmas.Option.{none-some}
use Rattle.std.proofs.Math.Seq.{drop-append-add}
use Rattle.hfs_put_sources.specs.Items.{PlannedItem}
use Rattle.hfs_put_sources.specs.Trees.{Tree}
use Rattle.hfs_put_sources.specs.declared.fork_run.ForkRun.{ForkRun}
use Rattle.hfs_put.specs.Laid.{filled, bytes_of, run_bytes, laid_at, laid}
use Rattle.hfs_put.specs.Runs.{are_apart, end_of, last_end, next_run}

-- ---- bytes that are laid at a place

pub length-laid_at : (place : ℕ) (bytes file : List ℕ) → place + length bytes ≤ length file → length (laid_at place bytes file) ≡ length file
length-laid_at place bytes file inside =
    let front : List ℕ = take place file in
    let post : List ℕ = drop (place + length bytes) file in
    omega (arith, length-append front (bytes ++ post), length-append bytes post, length-take place file, length-drop (place + length bytes) file, inside)

-- what lies before them
pub before-laid_at : (place at k : ℕ) (bytes file : List ℕ) → place ≤ length file → at + k ≤ place → take k (drop at (laid_at place bytes file)) ≡ take k (drop at file)
before-laid_at place at k bytes file inside before =
    let front : List ℕ = take place file in
    let rest : List ℕ = bytes ++ drop (place + length bytes) file in
    let long : length front ≡ place = omega (arith, length-take place file, inside) in
    let room : at + (place - at) ≡ place = omega (arith, before) in
    ap (take k) (drop-append-le at front rest (omega (arith, long, before)))
    ∙ take-append-le k (drop at front) rest (omega (arith, length-drop at front, long, before))
    ∙ ap (λ n. take k (drop at (take n file))) (sym room)
    ∙ ap (take k) (drop-take at (place - at) file)
    ∙ take-take k (place - at) (drop at file) (omega (arith, before))

-- what lies in them
pub in-laid_at : (place d k : ℕ) (bytes file : List ℕ) → place ≤ length file → d + k ≤ length bytes → take k (drop (place + d) (laid_at place bytes file)) ≡ take k (drop d bytes)
in-laid_at place d k bytes file inside within =
    let front : List ℕ = take place file in
    let post : List ℕ = drop (place + length bytes) file in
    let long : length front ≡ place = omega (arith, length-take place file, inside) in
    ap (λ n. take k (drop (n + d) (front ++ (bytes ++ post)))) (sym long)
    ∙ ap (take k) (drop-append-add front (bytes ++ post) d)
    ∙ ap (take k) (drop-append-le d bytes post (omega (arith, within)))
    ∙ take-append-le k (drop d bytes) post (omega (arith, length-drop d bytes, within))

-- what lies behind them
pub behind-laid_at : (place at k : ℕ) (bytes file : List ℕ) → place ≤ length file → place + length bytes ≤ at → take k (drop at (laid_at place bytes file)) ≡ take k (drop at file)
behind-laid_at place at k bytes file inside behind =
    let front : List ℕ = take place file in
    let post : List ℕ = drop (place + length bytes) file in
    let e = at - (place + length bytes) in
    let long : length front ≡ place = omega (arith, length-take place file, inside) in
    let there : at ≡ length front + (length bytes + e) = omega (arith, long, behind) in
    let again : place + length bytes + e ≡ at = omega (arith, behind) in
    ap (λ n. take k (drop n (front ++ (bytes ++ post)))) there
    ∙ ap (take k) (drop-append-add front (bytes ++ post) (length bytes + e))
    ∙ ap (take k) (drop-append-add bytes post e)
    ∙ ap (take k) (drop-drop e (place + length bytes) file)
    ∙ ap (λ n. take k (drop n file)) again

-- ---- runs in order

pub length-filled : (len : ℕ) (bytes : List ℕ) → length (filled len bytes) ≡ len
length-filled len bytes =
    omega (arith, length-take len (bytes ++ replicate len 0), length-append bytes (replicate len 0), length-replicate {A = ℕ} len 0)

pub from-last_end : (from : ℕ) (runs : List ForkRun) → are_apart from runs ≡ true → from ≤ last_end from runs
from-last_end from [] apart = omega arith
from-last_end from (run ∷ runs) apart =
    let both = and_parts (leb from run.place) (are_apart (end_of run) runs) apart in
    let first = leb-true from run.place both.0 in
    let rest = from-last_end (end_of run) runs both.1 in
    omega (arith, first, rest)

pub same-run : (a b : ForkRun) → Some a ≡ Some b → a ≡ b
same-run a b is = cc

module _ (start : ℕ) (host : Tree) (items : List PlannedItem) (file : List ℕ) where
  pub length-laid : (from : ℕ) (runs : List ForkRun) → are_apart from runs ≡ true → start + last_end from runs ≤ length file → length (laid start host items runs file) ≡ length file
  length-laid from [] apart inside = refl
  length-laid from (run ∷ runs) apart inside =
      let both = and_parts (leb from run.place) (are_apart (end_of run) runs) apart in
      let long : length (laid start host items runs file) ≡ length file = length-laid (end_of run) runs both.1 inside in
      let own = length-filled run.len (drop run.offset (bytes_of host (slice_get items run.item) run.fork)) in
      let ends = from-last_end (end_of run) runs both.1 in
      length-laid_at (start + run.place) (run_bytes host items run) (laid start host items runs file) (omega (arith, long, own, ends, inside)) ∙ long

  -- before the first of them, the file has its own bytes
  pub before-laid : (from at k : ℕ) (runs : List ForkRun) → are_apart from runs ≡ true → start + last_end from runs ≤ length file → at + k ≤ start + from
      → take k (drop at (laid start host items runs file)) ≡ take k (drop at file)
  before-laid from at k [] apart inside before = refl
  before-laid from at k (run ∷ runs) apart inside before =
      let both = and_parts (leb from run.place) (are_apart (end_of run) runs) apart in
      let first = leb-true from run.place both.0 in
      let long : length (laid start host items runs file) ≡ length file = length-laid (end_of run) runs both.1 inside in
      let ends = from-last_end (end_of run) runs both.1 in
      before-laid_at (start + run.place) at k (run_bytes host items run) (laid start host items runs file) (omega (arith, long, ends, inside)) (omega (arith, first, before))
      ∙ before-laid (end_of run) at k runs both.1 inside (omega (arith, first, before))

  -- before the first that ends behind a byte, it has them too
  pub own-laid : (from b k : ℕ) (runs : List ForkRun) → are_apart from runs ≡ true → start + last_end from runs ≤ length file
      → ((next : ForkRun) → next_run runs b ≡ Some next → b + k ≤ next.place)
      → take k (drop (start + b) (laid start host items runs file)) ≡ take k (drop (start + b) file)
  own-laid from b k [] apart inside gap = refl
  own-laid from b k (run ∷ runs) apart inside gap =
      let both = and_parts (leb from run.place) (are_apart (end_of run) runs) apart in
      let long : length (laid start host items runs file) ≡ length file = length-laid (end_of run) runs both.1 inside in
      let own = length-filled run.len (drop run.offset (bytes_of host (slice_get items run.item) run.fork)) in
      let ends = from-last_end (end_of run) runs both.1 in
      elim (cases_Bool (ltb b (end_of run))) [
        | inl here ↦
            let before : b + k ≤ run.place = gap run (ap (λ (t : Bool). cond t (Some run) (next_run runs b)) here) in
            before-laid_at (start + run.place) (start + b) k (run_bytes host items run) (laid start host items runs file) (omega (arith, long, ends, inside)) (omega (arith, before))
            ∙ before-laid (end_of run) (start + b) k runs both.1 inside (omega (arith, before))
        | inr past ↦
            let ended = ltb-false b (end_of run) past in
            behind-laid_at (start + run.place) (start + b) k (run_bytes host items run) (laid start host items runs file) (omega (arith, long, ends, inside))
            (omega (arith, own, ended))
            ∙ own-laid (end_of run) b k runs both.1 inside (λ next is. gap next (ap (λ (t : Bool). cond t (Some run) (next_run runs b)) past ∙ is))
      ]

  -- and in that one what stands in it
  pub run-laid : (from b k : ℕ) (next : ForkRun) (runs : List ForkRun) → are_apart from runs ≡ true → start + last_end from runs ≤ length file
      → next_run runs b ≡ Some next → next.place ≤ b → b + k ≤ end_of next
      → take k (drop (start + b) (laid start host items runs file)) ≡ take k (drop (b - next.place) (run_bytes host items next))
  run-laid from b k next [] apart inside is low high = absurd (none-some next is)
  run-laid from b k next (run ∷ runs) apart inside is low high =
      let both = and_parts (leb from run.place) (are_apart (end_of run) runs) apart in
      let long : length (laid start host items runs file) ≡ length file = length-laid (end_of run) runs both.1 inside in
      let own = length-filled run.len (drop run.offset (bytes_of host (slice_get items run.item) run.fork)) in
      let ends = from-last_end (end_of run) runs both.1 in
      elim (cases_Bool (ltb b (end_of run))) [
        | inl here ↦
            let found : Some run ≡ Some next = sym (ap (λ (t : Bool). cond t (Some run) (next_run runs b)) here) ∙ is in
            let same : run ≡ next = same-run run next found in
            let first : run.place ≤ b = subst (λ (r : ForkRun). r.place ≤ b) (sym same) low in
            let last : b + k ≤ end_of run = subst (λ (r : ForkRun). b + k ≤ end_of r) (sym same) high in
            let there : start + b ≡ start + run.place + (b - run.place) = omega (arith, first) in
            subst (λ (r : ForkRun). take k (drop (start + b) (laid start host items (run ∷ runs) file)) ≡ take k (drop (b - r.place) (run_bytes host items r))) same
            (ap (λ n. take k (drop n (laid start host items (run ∷ runs) file))) there
            ∙ in-laid_at (start + run.place) (b - run.place) k (run_bytes host items run) (laid start host items runs file) (omega (arith, long, ends, inside))
            (omega (arith, own, first, last)))
        | inr past ↦
            let ended = ltb-false b (end_of run) past in
            behind-laid_at (start + run.place) (start + b) k (run_bytes host items run) (laid start host items runs file) (omega (arith, long, ends, inside))
            (omega (arith, own, ended))
            ∙ run-laid (end_of run) b k next runs both.1 inside (sym (ap (λ (t : Bool). cond t (Some run) (next_run runs b)) past) ∙ is) low high
      ]
