-- Forks that are laid in an image inside a file.
use Rattle.std.proofs.Common.{◌≡◌, ◌∙◌, ℕ, ◌+◌, ◌-◌, ◌≤◌, true, leb, List, [], ◌∷◌, ◌++◌, length, take, drop, ap, sym, refl, arith}
use Rattle.std.specs.Prelude.{slice_get}
use Rattle.std.proofs.lemmas.Bool.{and_parts}
use Rattle.std.proofs.lemmas.List.{length-take, length-drop, take-append-le, drop-append-le, drop-drop, drop-take, take-take}
use Rattle.std.proofs.Math.Seq.{drop-append-add, take-append-add}
use Rattle.hfs_put_sources.specs.Items.{PlannedItem}
use Rattle.hfs_put_sources.specs.Trees.{Tree}
use Rattle.hfs_put_sources.specs.declared.fork_run.ForkRun.{ForkRun}
use Rattle.hfs_put.specs.Laid.{bytes_of, laid, laid_at, run_bytes}
use Rattle.hfs_put.specs.Laws.{IsLaidInImage}
use Rattle.hfs_put.specs.Runs.{are_apart, end_of, last_end}
use Rattle.hfs_put.proofs.LaidLemmas.{from-last_end, length-filled, length-laid}

-- ---- one piece

pub take-laid_at : (n place : ℕ) (bytes file : List ℕ) → n ≤ place → place ≤ length file → take n (laid_at place bytes file) ≡ take n file
take-laid_at n place bytes file le inside =
    take-append-le n (take place file) (bytes ++ drop (place + length bytes) file) (omega (arith, length-take place file, le, inside)) ∙ take-take n place file le

pub drop-laid_at : (n place : ℕ) (bytes file : List ℕ) → place + length bytes ≤ n → place ≤ length file → drop n (laid_at place bytes file) ≡ drop n file
drop-laid_at n place bytes file le inside =
    let front : List ℕ = take place file in
    let post : List ℕ = drop (place + length bytes) file in
    let e = n - (place + length bytes) in
    let long : length front ≡ place = omega (arith, length-take place file, inside) in
    let there : n ≡ length front + (length bytes + e) = omega (arith, long, le) in
    let again : place + length bytes + e ≡ n = omega (arith, le) in
    ap (λ k. drop k (front ++ (bytes ++ post))) there
    ∙ drop-append-add front (bytes ++ post) (length bytes + e)
    ∙ drop-append-add bytes post e
    ∙ drop-drop e (place + length bytes) file
    ∙ ap (λ k. drop k file) again

pub image-laid_at : (start len place : ℕ) (bytes file : List ℕ) → place + length bytes ≤ len → start + len ≤ length file
    → take len (drop start (laid_at (start + place) bytes file)) ≡ laid_at place bytes (take len (drop start file))
image-laid_at start len place bytes file le inside =
    let front : List ℕ = take (start + place) file in
    let post : List ℕ = drop (start + place + length bytes) file in
    let own : List ℕ = take place (drop start file) in
    let left = len - (place + length bytes) in
    let long : length front ≡ start + place = omega (arith, length-take (start + place) file, inside, le) in
    let cut : drop start front ≡ own = drop-take start place file in
    let size : length own ≡ place = omega (arith, length-take place (drop start file), length-drop start file, inside, le) in
    let room : len ≡ length own + (length bytes + left) = omega (arith, size, le) in
    let whole : place + length bytes + left ≡ len = omega (arith, le) in
    let behind : take left post ≡ drop (place + length bytes) (take len (drop start file)) =
    ap (λ k. take left (drop k file)) (let e : start + place + length bytes ≡ start + (place + length bytes) = omega arith in e)
    ∙ ap (take left) (sym (drop-drop (place + length bytes) start file))
    ∙ sym (drop-take (place + length bytes) left (drop start file))
    ∙ ap (λ k. drop (place + length bytes) (take k (drop start file))) whole in
    ap (take len) (drop-append-le start front (bytes ++ post) (omega (arith, long)))
    ∙ (λ i. take len (cut i ++ (bytes ++ post)))
    ∙ ap (λ k. take k (own ++ (bytes ++ post))) room
    ∙ take-append-add own (bytes ++ post) (length bytes + left)
    ∙ ap (λ l. own ++ l) (take-append-add bytes post left)
    ∙ (λ i. sym (take-take place len (drop start file) (omega (arith, le))) i ++ (bytes ++ behind i))

-- ---- all of them

module _ (start len : ℕ) (host : Tree) (items : List PlannedItem) (file : List ℕ) where
  in-image : (from : ℕ) (runs : List ForkRun) → start + len ≤ length file → are_apart from runs ≡ true → last_end from runs ≤ len
      → IsLaidInImage start len host items runs file
  in-image from [] inside apart ends = record { before = refl; image = refl; behind = refl }
  in-image from (run ∷ runs) inside apart ends =
      let both = and_parts (leb from run.place) (are_apart (end_of run) runs) apart in
      let bytes : List ℕ = run_bytes host items run in
      let rest : List ℕ = laid start host items runs file in
      let own : length bytes ≡ run.len = length-filled run.len (drop run.offset (bytes_of host (slice_get items run.item) run.fork)) in
      let last = from-last_end (end_of run) runs both.1 in
      let long : length rest ≡ length file = length-laid start host items file (end_of run) runs both.1 (omega (arith, ends, inside)) in
      let others = in-image (end_of run) runs inside both.1 ends in
      record {
        before = take-laid_at start (start + run.place) bytes rest (omega arith) (omega (arith, long, last, ends, inside)) ∙ others.before;
        image = image-laid_at start len run.place bytes rest (omega (arith, own, last, ends)) (omega (arith, long, inside))
            ∙ ap (λ l. laid_at run.place bytes l) others.image
            ∙ ap (λ k. laid_at k bytes (laid 0 host items runs (take len (drop start file)))) (let e : run.place ≡ 0 + run.place = omega arith in e);
        behind = drop-laid_at (start + len) (start + run.place) bytes rest (omega (arith, own, last, ends)) (omega (arith, long, last, ends, inside)) ∙ others.behind;
      }

pub laid-in-image : (start len : ℕ) (host : Tree) (items : List PlannedItem) (runs : List ForkRun) (file : List ℕ) → start + len ≤ length file
    → are_apart 0 runs ≡ true → last_end 0 runs ≤ len → IsLaidInImage start len host items runs file
laid-in-image start len host items runs file inside apart ends = in-image start len host items file 0 runs inside apart ends
