-- Bytes with others in the place of some, run after run.
use Rattle.std.proofs.Common.{◌≡◌, ◌⊎◌, ⊎_elim, ℕ, zero, suc, ◌+◌, ◌≤◌, List, [], ◌∷◌, ◌++◌, append_assoc, length, take, drop, refl, sym, ap, ◌∙◌, arith}
use Rattle.std.specs.Prelude.{◌-◌, ⊤}
use Rattle.std.proofs.lemmas.List.{length-append, length-drop, length-take-le, drop-append-le, take-append-le, drop-take}
use Rattle.std.proofs.lemmas.Slice.{drop-append-drop}
use Rattle.std.proofs.Math.Seq.{drop-append_seam, take-append_seam}
use Rattle.hfs_fields.specs.Each.{Each}
use Rattle.hfs_fields.proofs.ElementLemmas.{each-both, each-mono}
use Rattle.hfs_put_plan.specs.Put.{Arrival}
use Rattle.hfs_put_sources.specs.declared.fork_run.ForkRun.{ForkRun}
use Rattle.hfs_put.specs.LaidRuns.{run_bytes, laid_at, laid}
use Rattle.hfs_put.proofs.Filled.{filled-pad, length-pad}

take-fewer : (n m : ℕ) (xs : List ℕ) → n ≤ m → take n (take m xs) ≡ take n xs
take-fewer zero m xs le = refl
take-fewer (suc n) zero xs le = absurd (omega (arith, le))
take-fewer (suc n) (suc m) [] le = refl
take-fewer (suc n) (suc m) (x ∷ xs) le = ap (λ (l : List ℕ). x ∷ l) (take-fewer n m xs (omega (arith, le)))

module _ (place : ℕ) (bytes file : List ℕ) (inside : place + length bytes ≤ length file) where
  first-long : length (take place file) ≡ place
  first-long = length-take-le place file (omega (arith, inside))

  pub length-laid_at : length (laid_at place bytes file) ≡ length file
  length-laid_at =
      omega (
        arith,
        inside,
        first-long,
        length-append (take place file) (bytes ++ drop (place + length bytes) file),
        length-append bytes (drop (place + length bytes) file),
        length-drop (place + length bytes) file,
      )

  pub laid-here : take (length bytes) (drop place (laid_at place bytes file)) ≡ bytes
  laid-here =
      ap (λ (n : ℕ). take (length bytes) (drop n (laid_at place bytes file))) (sym first-long)
      ∙ ap (take (length bytes)) (drop-append_seam (take place file) (bytes ++ drop (place + length bytes) file))
      ∙ take-append_seam bytes (drop (place + length bytes) file)

  pub laid-behind : (p : ℕ) → place + length bytes ≤ p → drop p (laid_at place bytes file) ≡ drop p file
  laid-behind p behind =
      ap (drop p) (sym (append_assoc (take place file) bytes (drop (place + length bytes) file)))
      ∙ drop-append-drop (place + length bytes) file (take place file ++ bytes) p behind (omega (arith, first-long, length-append (take place file) bytes))

  pub laid-before : (p len : ℕ) → p + len ≤ place → take len (drop p (laid_at place bytes file)) ≡ take len (drop p file)
  laid-before p len before =
      let rest = bytes ++ drop (place + length bytes) file in
      let some : place ≡ p + (place - p) = omega (arith, before) in
      let start : len ≤ place - p = omega (arith, before) in
      let enough : len ≤ length (drop p (take place file)) = omega (arith, first-long, before, length-drop p (take place file)) in
      ap (take len) (drop-append-le p (take place file) rest (omega (arith, before, first-long)))
      ∙ take-append-le len (drop p (take place file)) rest enough
      ∙ ap (λ (n : ℕ). take len (drop p (take n file))) some
      ∙ ap (take len) (drop-take p (place - p) file)
      ∙ take-fewer len (place - p) (drop p file) start

-- ---- run after run

-- each run ends before those behind it begin
abbrev pub AreApart : List ForkRun → Type 0
AreApart [] = ⊤
AreApart (run ∷ runs) = Each (λ (r : ForkRun). run.place + run.len ≤ r.place) runs × AreApart runs

-- the runs lie in so many bytes
abbrev pub AreInside : ℕ → List ForkRun → Type 0
AreInside len runs = Each (λ (run : ForkRun). run.place + run.len ≤ len) runs

-- so many bytes from a place on are before the run or behind it
abbrev pub IsOutside : ℕ → ℕ → ForkRun → Type 0
IsOutside p len run = (p + len ≤ run.place) ⊎ (run.place + run.len ≤ p)

module _ (arrivals : List Arrival) where
  run-long : (run : ForkRun) → length (run_bytes arrivals run) ≡ run.len
  run-long run = ap (λ (l : List ℕ). length l) (filled-pad run.len _) ∙ length-pad run.len _

  pub length-laid : (runs : List ForkRun) (file : List ℕ) → AreInside (length file) runs → length (laid arrivals runs file) ≡ length file
  length-laid [] file inside = refl
  length-laid (run ∷ runs) file inside =
      let rest = length-laid runs file inside.1 in
      length-laid_at run.place (run_bytes arrivals run) (laid arrivals runs file) (omega (arith, inside.0, rest, run-long run)) ∙ rest

  -- what a run holds
  abbrev pub Holds : List ℕ → ForkRun → Type 0
  Holds bytes run = take run.len (drop run.place bytes) ≡ run_bytes arrivals run

  pub each-laid : (runs : List ForkRun) (file : List ℕ) → AreInside (length file) runs → AreApart runs → Each (Holds (laid arrivals runs file)) runs
  each-laid [] file inside apart = tt
  each-laid (run ∷ runs) file inside apart =
      let rest = length-laid runs file inside.1 in
      let bytes = run_bytes arrivals run in
      let fits : run.place + length bytes ≤ length (laid arrivals runs file) = omega (arith, inside.0, rest, run-long run) in (
        ap (λ (n : ℕ). take n (drop run.place (laid arrivals (run ∷ runs) file))) (sym (run-long run)) ∙ laid-here run.place bytes (laid arrivals runs file) fits,
        each-mono (λ (r : ForkRun). (run.place + run.len ≤ r.place) × Holds (laid arrivals runs file) r) (Holds (laid arrivals (run ∷ runs) file)) runs
            (λ r h.
            let behind : run.place + length bytes ≤ r.place = omega (arith, h.0, run-long run) in
            ap (take r.len) (laid-behind run.place bytes (laid arrivals runs file) fits r.place behind) ∙ h.1)
            (each-both (λ (r : ForkRun). run.place + run.len ≤ r.place) (Holds (laid arrivals runs file)) runs apart.0 (each-laid runs file inside.1 apart.1)),
      )

  pub outside-laid : (runs : List ForkRun) (file : List ℕ) → AreInside (length file) runs → (p len : ℕ) → Each (IsOutside p len) runs
      → take len (drop p (laid arrivals runs file)) ≡ take len (drop p file)
  outside-laid [] file inside p len out = refl
  outside-laid (run ∷ runs) file inside p len out =
      let rest = length-laid runs file inside.1 in
      let bytes = run_bytes arrivals run in
      let fits : run.place + length bytes ≤ length (laid arrivals runs file) = omega (arith, inside.0, rest, run-long run) in
      ⊎_elim
      (λ (before : p + len ≤ run.place). laid-before run.place bytes (laid arrivals runs file) fits p len before)
      (λ (behind : run.place + run.len ≤ p).
      ap (take len) (laid-behind run.place bytes (laid arrivals runs file) fits p (omega (arith, behind, run-long run))))
      out.0
      ∙ outside-laid runs file inside.1 p len out.1
