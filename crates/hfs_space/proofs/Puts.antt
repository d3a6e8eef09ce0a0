-- A block that is put into a patch, and the runs that it lies in.
use Rattle.std.proofs.Common.{◌≡◌, ◌≢◌, inl, inr, ℕ, ◌+◌, ◌<◌, ◌≤◌, Bool, true, false, cond, List, [], ◌∷◌, ◌++◌, length, take, drop, Some, nat_eq, refl, sym, ap, ◌∙◌, subst, arith}
use Rattle.std.specs.List.{flat_map}
use Rattle.std.proofs.lemmas.Bool.{cases_lt, eq-eqb, ne_eqb}
use Rattle.std.proofs.lemmas.List.{length-append, append-nil, drop_all}
use Rattle.std.proofs.lemmas.List.FromFn.{length-range_with_len}
use Rattle.std.proofs.lemmas.List.Elements.{All-weaker}
use Rattle.std.proofs.lemmas.List.Sums.{sum_by-cons}
use Rattle.hfs_blocks.specs.declared.run.Run.{Run}
use Rattle.hfs_blocks.specs.Blocks.{run_of, total_of, AreRunsWithin}
use Rattle.hfs_blocks.specs.Layers.{Changes, AreWhole, with_change, over}
use Rattle.hfs_blocks.proofs.LayerLemmas.{with_block, over-with_change}
use Rattle.hfs_space.specs.Parts.{with_part}
use Rattle.hfs_space.proofs.PartLemmas.{with_part-written, length-with_part}

-- blocks of 512 bytes with one of 512 bytes among them
pub AreWhole-with_change : (changes new : Changes) (n : ℕ) (b : List ℕ) → new ≡ with_change changes n b → length b ≡ 512 → AreWhole changes → AreWhole new
AreWhole-with_change changes new n b is full whole = subst AreWhole (sym is) each
  where
    each : AreWhole (with_change changes n b)
    each k x found = by (nat_eq n k) refl
      where
        by : (t : Bool) → nat_eq n k ≡ t → length x ≡ 512
        by true same =
            let e : Some b ≡ Some x = sym (ap (λ t. cond t (Some b) (changes k)) same) ∙ found in
            let bx : b ≡ x = cc in
            subst (λ (l : List ℕ). length l ≡ 512) bx full
        by false other = whole k x (sym (ap (λ t. cond t (Some b) (changes k)) other) ∙ found)

module _ (old new : Changes) (below : ℕ → List ℕ) (n : ℕ) (b : List ℕ) (is : new ≡ with_change old n b) where
  shown : (k : ℕ) → over new below k ≡ with_block (over old below) n b k
  shown k = ap (λ (ch : Changes). over ch below k) is ∙ (λ t. over-with_change old below n b t k)

  pub put-here : over new below n ≡ b
  put-here = shown n ∙ ap (λ t. cond t b (over old below n)) (eq-eqb n n refl)

  pub put-other : (k : ℕ) → k ≢ n → over new below k ≡ over old below k
  put-other k ne = shown k ∙ ap (λ t. cond t b (over old below k)) (ne_eqb n k (λ e. ne (sym e)))

-- ---- runs

pub runs-length : (runs : List Run) → length (flat_map run_of runs) ≡ total_of runs
runs-length [] = refl
runs-length (run ∷ runs) =
    let all = length-append (run_of run) (flat_map run_of runs) in
    let here = length-range_with_len run.first run.count in
    let rest = runs-length runs in
    let sums = sum_by-cons (λ (r : Run). r.count) run runs in
    omega (arith, all, here, rest, sums)

pub runs-small : (runs : List Run) (total most : ℕ) → total ≤ most → AreRunsWithin runs total → AreRunsWithin runs most
runs-small runs total most le h = record {
  within = All-weaker (λ (r : Run). r.first + r.count ≤ total) (λ (r : Run). r.first + r.count ≤ most) (λ r fits. omega (arith, fits, le)) runs h.within;
  few = h.few;
  counted = h.counted;
}

-- so many blocks have numbers of 32 bits
pub place-small : (runs : List Run) (total i : ℕ) → AreRunsWithin runs total → i < length (flat_map run_of runs) → i < 4294967296
place-small runs total i h lt = let long = runs-length runs in let few = h.few in omega (arith, long, few, lt)

-- ---- a part of a block, as it is written through a slice of it

-- a part that is a whole block stands alone
whole-part : (from : ℕ) (part bytes : List ℕ) → from ≡ 0 → length part ≡ 512 → length bytes ≡ 512 → with_part from part bytes ≡ part
whole-part from part bytes start all long =
    ap (λ k. with_part k part bytes) start
    ∙ ap (λ (l : List ℕ). part ++ l) (drop_all (0 + length part) bytes (omega (arith, all, long)))
    ∙ append-nil part

-- so it is the same over any block
pub unless_whole : (from : ℕ) (part read shown : List ℕ) → (length part < 512 → read ≡ shown) → length read ≡ 512 → length shown ≡ 512 → from + length part ≤ 512 → with_part from part read ≡ with_part from part shown
unless_whole from part read shown same long shown_long fits = elim (cases_lt (length part) 512) [
  | inl less ↦ ap (with_part from part) (same less)
  | inr all ↦
      let start : from ≡ 0 = omega (arith, all, fits) in
      let full : length part ≡ 512 = omega (arith, all, fits) in
      whole-part from part read start full long ∙ sym (whole-part from part shown start full shown_long)
]

pub written-part : (from k : ℕ) (block read slice part : List ℕ) → block ≡ read → slice ≡ part → k ≡ length part → take from block ++ (slice ++ drop k (drop from block)) ≡ with_part from part read
written-part from k block read slice part same after is =
    (λ t. take from (same t) ++ (after t ++ drop k (drop from (same t)))) ∙ with_part-written from k part read is

pub written-length : (from k : ℕ) (block slice part : List ℕ) → length block ≡ 512 → slice ≡ part → k ≡ length part → from + length part ≤ 512 → length (take from block ++ (slice ++ drop k (drop from block))) ≡ 512
written-length from k block slice part long after is fits =
    ap (λ (l : List ℕ). length l) (written-part from k block block slice part refl after is) ∙ length-with_part from part block (omega (arith, fits, long)) ∙ long
