-- Forks that are laid in an image inside a file, of which all that is known is that the image stays as long.
use Rattle.std.proofs.Common.{◌≡◌, ◌⊎◌, ⊎_elim, inl, inr, ℕ, ◌+◌, ◌-◌, ◌≤◌, List, [], ◌∷◌, ◌++◌, length, take, drop, refl, sym, ap, ◌∙◌, arith}
use Rattle.std.specs.Prelude.{slice_get}
use Rattle.std.proofs.lemmas.Bool.{cases_lt}
use Rattle.std.proofs.lemmas.List.{length-take, length-drop, length-append, take-append-drop}
use Rattle.hfs_put.proofs.ImageLemmas.{take-laid_at, drop-laid_at, image-laid_at}
use Rattle.hfs_put.specs.Laid as forks
use Rattle.hfs_put.specs.Laid.{bytes_of, laid_at}
use Rattle.hfs_put.specs.Laws.{IsLaidInImage}
use Rattle.hfs_put.proofs.LaidLemmas.{length-filled, length-laid_at}
use Rattle.hfs_put_plan.specs.Put.{Arrival}
use Rattle.hfs_put.specs.LaidRuns as image
use Rattle.hfs_fields.specs.Each.{Each}
use Rattle.hfs_put_sources.specs.Items.{PlannedItem}
use Rattle.hfs_put_sources.specs.Trees.{Tree}
use Rattle.hfs_put_sources.specs.declared.fork_run.ForkRun.{ForkRun}

-- ---- runs in so many bytes

-- a run lies in so many bytes, or has none
abbrev pub IsWithin : ℕ → ForkRun → Type 0
IsWithin len run = (run.len ≡ 0) ⊎ (run.place + run.len ≤ len)

module _ (place : ℕ) (bytes file : List ℕ) where
  laid_at-parts : length (laid_at place bytes file) ≡ length (take place file) + (length bytes + (length file - (place + length bytes)))
  laid_at-parts =
      omega (
        arith,
        length-append (take place file) (bytes ++ drop (place + length bytes) file),
        length-append bytes (drop (place + length bytes) file),
        length-drop (place + length bytes) file,
      )

module _ (arrivals : List Arrival) where
  length-run : (run : ForkRun) → length (image.run_bytes arrivals run) ≡ run.len
  length-run run = length-filled run.len (drop run.offset (image.fork_bytes (slice_get arrivals run.item) run.fork))

  pub no-fewer : (runs : List ForkRun) (file : List ℕ) → length file ≤ length (image.laid arrivals runs file)
  no-fewer [] file = omega arith
  no-fewer (run ∷ runs) file =
      let below : List ℕ = image.laid arrivals runs file in
      omega (arith, no-fewer runs file, laid_at-parts run.place (image.run_bytes arrivals run) below, length-take run.place below)

  -- where the bytes stay as many, each run lies in them
  pub runs-within : (runs : List ForkRun) (file : List ℕ) → length (image.laid arrivals runs file) ≡ length file → Each (IsWithin (length file)) runs
  runs-within [] file e = tt
  runs-within (run ∷ runs) file e =
      let below : List ℕ = image.laid arrivals runs file in
      let bytes : List ℕ = image.run_bytes arrivals run in
      let size : length bytes ≡ run.len = length-run run in
      let more : length file ≤ length below = no-fewer runs file in
      let parts : length (laid_at run.place bytes below) ≡ length (take run.place below) + (length bytes + (length below - (run.place + length bytes))) =
      laid_at-parts run.place bytes below in
      let front = length-take run.place below in
      let same : length below ≡ length file = omega (arith, e, parts, front, more) in (
        elim (cases_lt 0 run.len) [
          | inr none ↦ inl (omega (arith, none))
          | inl some ↦ inr (omega (arith, e, parts, front, same, size, some))
        ],
        runs-within runs file same,
      )

-- ---- one piece

laid_at-none : (place : ℕ) (bytes file : List ℕ) → length bytes ≡ 0 → laid_at place bytes file ≡ file
laid_at-none place [] file e =
    ap (λ (n : ℕ). take place file ++ drop n file) (let none : place + 0 ≡ place = omega arith in none) ∙ take-append-drop place file
laid_at-none place (x ∷ bytes) file e = absurd (omega (arith, e))

-- ---- all of them

module _ (start len : ℕ) (host : Tree) (items : List PlannedItem) (file : List ℕ) (inside : start + len ≤ length file) where
  abbrev range : List ℕ
  range = take len (drop start file)

  length-run_bytes : (run : ForkRun) → length (forks.run_bytes host items run) ≡ run.len
  length-run_bytes run = length-filled run.len (drop run.offset (bytes_of host (slice_get items run.item) run.fork))

  length-laid : (runs : List ForkRun) → Each (IsWithin len) runs → length (forks.laid start host items runs file) ≡ length file
  length-laid [] within = refl
  length-laid (run ∷ runs) within =
      let bytes : List ℕ = forks.run_bytes host items run in
      let rest : List ℕ = forks.laid start host items runs file in
      let size : length bytes ≡ run.len = length-run_bytes run in
      let long : length rest ≡ length file = length-laid runs within.1 in
      ⊎_elim
      (λ (none : run.len ≡ 0). ap length (laid_at-none (start + run.place) bytes rest (size ∙ none)) ∙ long)
      (λ (fits : run.place + run.len ≤ len). length-laid_at (start + run.place) bytes rest (omega (arith, size, long, fits, inside)) ∙ long)
      within.0

  pub laid-in-range : (runs : List ForkRun) → Each (IsWithin len) runs → IsLaidInImage start len host items runs file
  laid-in-range [] within = record { before = refl; image = refl; behind = refl }
  laid-in-range (run ∷ runs) within =
      let bytes : List ℕ = forks.run_bytes host items run in
      let rest : List ℕ = forks.laid start host items runs file in
      let below : List ℕ = forks.laid 0 host items runs range in
      let size : length bytes ≡ run.len = length-run_bytes run in
      let long : length rest ≡ length file = length-laid runs within.1 in
      let others : IsLaidInImage start len host items runs file = laid-in-range runs within.1 in
      ⊎_elim
      (λ (none : run.len ≡ 0).
      let same : laid_at (start + run.place) bytes rest ≡ rest = laid_at-none (start + run.place) bytes rest (size ∙ none) in
      let there : laid_at (0 + run.place) bytes below ≡ below = laid_at-none (0 + run.place) bytes below (size ∙ none) in
      record {
        before = ap (take start) same ∙ others.before;
        image = ap (λ (l : List ℕ). take len (drop start l)) same ∙ others.image ∙ sym there;
        behind = ap (drop (start + len)) same ∙ others.behind;
      })
      (λ (fits : run.place + run.len ≤ len).
      record {
        before = take-laid_at start (start + run.place) bytes rest (omega arith) (omega (arith, long, fits, inside)) ∙ others.before;
        image = image-laid_at start len run.place bytes rest (omega (arith, size, fits)) (omega (arith, long, inside))
            ∙ ap (λ (l : List ℕ). laid_at run.place bytes l) others.image
            ∙ ap (λ (k : ℕ). laid_at k bytes below) (let e : run.place ≡ 0 + run.place = omega arith in e);
        behind = drop-laid_at (start + len) (start + run.place) bytes rest (omega (arith, size, fits)) (omega (arith, long, fits, inside)) ∙ others.behind;
      })
      within.0
