-- The runs of a fork's extents, and the bytes of their blocks.
use Rattle.std.proofs.Common.{◌≡◌, inl, inr, ⊎_elim, ℕ, zero, suc, ◌+◌, ◌*◌, ◌<◌, Bool, true, false, cond, List, [], ◌∷◌, ◌++◌, map, take, drop, slice_get, Some, None, refl, sym, ap, ◌∙◌, arith, true≢false}
use Rattle.std.specs.Prelude.{◌==◌}
use Rattle.std.specs.List.{cons_option, range_with_len}
use Rattle.std.proofs.lemmas.Bool.{eqb-true, eq-eqb}
use Rattle.std.proofs.lemmas.Grind.{flat_map-append}
use Rattle.std.proofs.lemmas.List.{map-append}
use Rattle.std.proofs.lemmas.List.Sums.{sum_by-cons}
use Rattle.std.proofs.Math.Nat.{add-mul}
use Rattle.std.proofs.Math.Seq.{take-add}
use Rattle.hfs_fields.specs.declared.extent.Extent.{Extent}
use Rattle.hfs_fields.specs.declared.mdb.Mdb.{Mdb}
use Rattle.hfs_fields.specs.Each.{Each}
use Rattle.hfs_fields.specs.Members.{In}
use Rattle.hfs_blocks.specs.Blocks.{block_at, run_of}
use Rattle.hfs_model.specs.declared.call.Fork.{Fork}
use Rattle.hfs_space.specs.Extents.{block_total}
use Rattle.hfs_space.specs.ForkLaws.{block_numbers}
use Rattle.hfs_space.specs.Forks.{blocks_each, joined, run_in}
use Rattle.hfs_put.specs.ForkRuns.{runs_from}
use Rattle.hfs_put_plan.specs.Put.{Arrival}
use Rattle.hfs_put_sources.specs.declared.fork_run.ForkRun.{ForkRun}
use Rattle.hfs_put.specs.LaidRuns.{fork_bytes}
use Rattle.hfs_put.proofs.Filled.{pad, filled-pad, pad-parts, pad-zero}
use Rattle.hfs_put.proofs.LaidAt.{Holds}

-- ---- a run is one of an extent that has blocks

pub record IsRunOf (mdb : Mdb) (item : ℕ) (fork : Fork) (es : List Extent) (run : ForkRun) : Type 0 where
  pub e : Extent
  pub there : In e es
  pub some : 0 < e.count
  pub place : run.place ≡ 512 * (run_in mdb e).first
  pub len : run.len ≡ 512 * (run_in mdb e).count

module _ (mdb : Mdb) (item : ℕ) (fork : Fork) where
  abbrev run_as : ℕ → Extent → ForkRun
  run_as before e = record {
    place = 512 * (run_in mdb e).first;
    len = 512 * (run_in mdb e).count;
    item = item;
    fork = fork;
    offset = 512 * (before * blocks_each mdb);
  }

  above-zero : (n : ℕ) → (n == 0) ≡ false → 0 < n
  above-zero zero e = absurd (true≢false (sym (eq-eqb 0 0 refl) ∙ e))
  above-zero (suc n) e = omega arith

  pub is-run : (before : ℕ) (es : List Extent) (run : ForkRun) → In run (runs_from mdb item fork before es) → IsRunOf mdb item fork es run
  unfolding runs_from
  is-run before [] run i = absurd i
  is-run before (e ∷ es) run i = by (e.count == 0) refl i (λ j. is-run (before + e.count) es run j)
    where
      by : (b : Bool) → (e.count == 0) ≡ b → In run (cons_option (cond b None (Some (run_as before e))) (runs_from mdb item fork (before + e.count) es))
          → (In run (runs_from mdb item fork (before + e.count) es) → IsRunOf mdb item fork es run) → IsRunOf mdb item fork (e ∷ es) run
      by true none i rest = let of = rest i in record { e = of.e; there = inr of.there; some = of.some; place = of.place; len = of.len }
      by false some i rest = ⊎_elim
          (λ (same : run_as before e ≡ run). record {
            e = e;
            there = inl refl;
            some = above-zero e.count some;
            place = ap (λ (r : ForkRun). r.place) (sym same);
            len = ap (λ (r : ForkRun). r.len) (sym same);
          })
          (λ (later : In run (runs_from mdb item fork (before + e.count) es)).
          let of = rest later in record { e = of.e; there = inr of.there; some = of.some; place = of.place; len = of.len })
          i

-- ---- the bytes of blocks in a row

drop-on : (k m : ℕ) (xs : List ℕ) → drop m (drop k xs) ≡ drop (k + m) xs
drop-on zero m xs = ap (λ (n : ℕ). drop n xs) (let e : m ≡ 0 + m = omega arith in e)
drop-on (suc k) m [] = drop-none m ∙ sym (drop-none (suc k + m))
  where
    drop-none : (n : ℕ) → ◌≡◌ {A = List ℕ} (drop n []) []
    drop-none zero = refl
    drop-none (suc n) = refl
drop-on (suc k) m (x ∷ xs) = drop-on k m xs ∙ ap (λ (n : ℕ). drop n (x ∷ xs)) (let e : suc (k + m) ≡ suc k + m = omega arith in e)

pub joined-range : (image : List ℕ) (n k : ℕ) → joined (map (block_at image) (range_with_len n k)) ≡ take (512 * k) (drop (512 * n) image)
joined-range image n zero = ap (λ (m : ℕ). take m (drop (512 * n) image)) (let e : 0 ≡ 512 * zero = omega arith in e)
joined-range image n (suc k) =
    ap (λ (l : List ℕ). take 512 (drop (512 * n) image) ++ l)
    (joined-range image (n + 1) k ∙ ap (λ (m : ℕ). take (512 * k) (drop m image)) (let e : 512 * (n + 1) ≡ 512 * n + 512 = omega arith in e)
    ∙ ap (take (512 * k)) (sym (drop-on (512 * n) 512 image)))
    ∙ sym (take-add 512 (512 * k) (drop (512 * n) image))
    ∙ ap (λ (m : ℕ). take m (drop (512 * n) image)) (let e : 512 + 512 * k ≡ 512 * suc k = omega arith in e)

-- ---- what the runs of a fork hold

module _ (mdb : Mdb) (arrivals : List Arrival) (item : ℕ) (fork : Fork) (image : List ℕ) where
  abbrev bytes : List ℕ
  bytes = fork_bytes (slice_get arrivals item) fork

  abbrev each : ℕ
  each = blocks_each mdb

  -- so many blocks from a block of the fork on
  abbrev part : ℕ → ℕ → List ℕ
  part before count = pad (512 * (count * each)) (drop (512 * (before * each)) bytes)

  part-none : (before : ℕ) → part before 0 ≡ []
  part-none before =
      ap (λ (n : ℕ). pad n (drop (512 * (before * each)) bytes)) (let e : 512 * (0 * each) ≡ 0 = omega arith in e)
      ∙ pad-zero (drop (512 * (before * each)) bytes)

  parts : (before a b : ℕ) → part before a ++ part (before + a) b ≡ part before (a + b)
  parts before a b =
      let sum : (before + a) * each ≡ before * each + a * each = add-mul before a each in
      let next : 512 * ((before + a) * each) ≡ 512 * (before * each) + 512 * (a * each) = omega (arith, sum) in
      let count : (a + b) * each ≡ a * each + b * each = add-mul a b each in
      let total : 512 * ((a + b) * each) ≡ 512 * (a * each) + 512 * (b * each) = omega (arith, count) in
      ap (λ (l : List ℕ). part before a ++ pad (512 * (b * each)) l)
      (ap (λ (n : ℕ). drop n bytes) next ∙ sym (drop-on (512 * (before * each)) (512 * (a * each)) bytes))
      ∙ sym (pad-parts (512 * (a * each)) (512 * (b * each)) (512 * ((a + b) * each)) (drop (512 * (before * each)) bytes) total)

  head-none : (e : Extent) (before : ℕ) → e.count ≡ 0 → joined (map (block_at image) (run_of (run_in mdb e))) ≡ part before e.count
  head-none e before none =
      ap (λ (n : ℕ). joined (map (block_at image) (range_with_len (run_in mdb e).first (n * each)))) none
      ∙ ap (λ (n : ℕ). joined (map (block_at image) (range_with_len (run_in mdb e).first n))) (let z : 0 * each ≡ 0 = omega arith in z)
      ∙ sym (part-none before)
      ∙ ap (part before) (sym none)

  head-some : (e : Extent) (before : ℕ) → Holds arrivals image (run_as mdb item fork before e) → joined (map (block_at image) (run_of (run_in mdb e))) ≡ part before e.count
  head-some e before holds =
      joined-range image (run_in mdb e).first (run_in mdb e).count ∙ holds ∙ filled-pad (512 * (e.count * each)) (drop (512 * (before * each)) bytes)

  pub fork-joined : (before : ℕ) (es : List Extent) → Each (Holds arrivals image) (runs_from mdb item fork before es)
      → joined (map (block_at image) (block_numbers mdb es)) ≡ part before (block_total es)
  unfolding runs_from
  fork-joined before [] hold = sym (part-none before)
  fork-joined before (e ∷ es) hold = by (e.count == 0) refl hold (λ rest. fork-joined (before + e.count) es rest)
    where
      all : joined (map (block_at image) (run_of (run_in mdb e))) ≡ part before e.count
          → joined (map (block_at image) (block_numbers mdb es)) ≡ part (before + e.count) (block_total es)
          → joined (map (block_at image) (block_numbers mdb (e ∷ es))) ≡ part before (block_total (e ∷ es))
      all first rest =
          ap joined (map-append (block_at image) (run_of (run_in mdb e)) (block_numbers mdb es))
          ∙ flat_map-append (λ (b : List ℕ). b) (map (block_at image) (run_of (run_in mdb e))) (map (block_at image) (block_numbers mdb es))
          ∙ (λ i. first i ++ rest i)
          ∙ parts before e.count (block_total es)
          ∙ ap (part before) (sym (sum_by-cons (λ (x : Extent). x.count) e es))

      by : (b : Bool) → (e.count == 0) ≡ b
          → Each (Holds arrivals image) (cons_option (cond b None (Some (run_as mdb item fork before e))) (runs_from mdb item fork (before + e.count) es))
          → (Each (Holds arrivals image) (runs_from mdb item fork (before + e.count) es)
          → joined (map (block_at image) (block_numbers mdb es)) ≡ part (before + e.count) (block_total es))
          → joined (map (block_at image) (block_numbers mdb (e ∷ es))) ≡ part before (block_total (e ∷ es))
      by true none hold rest = all (head-none e before (eqb-true e.count 0 none)) (rest hold)
      by false some hold rest = all (head-some e before hold.0) (rest hold.1)
