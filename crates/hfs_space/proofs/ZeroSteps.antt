-- Zeros over the last blocks of a file.
use Rattle.std.proofs.Common.{◌≡◌, ◌≢◌, ℕ, ◌+◌, ◌-◌, ◌*◌, ◌/◌, ◌%◌, ◌<◌, ◌≤◌, inl, inr, Bool, true, false, cond, leb, ltb, ◌||◌, List, [], ◌∷◌, length, drop, get_or, Some, None, refl, sym, ap, ◌∙◌, subst, arith}
use Rattle.std.specs.List.{flat_map, list_any}
use Rattle.std.specs.Prelude.{unwrap_or}
use Rattle.std.proofs.Math.Bool.{or-true}
use Rattle.std.proofs.lemmas.Bool.{cases_lt, cases_Bool, and_parts, leb-true, ltb-true}
use Rattle.std.proofs.lemmas.List.{length-append, length-drop, length-replicate, get_or_append_left, get_or-append_right, get_or-drop, get_or-replicate}
use Rattle.std.proofs.lemmas.List.FromFn.{length-range_with_len, get_or-range_with_len}
use Rattle.hfs_blocks.specs.declared.run.Run.{Run}
use Rattle.hfs_blocks.specs.Blocks.{run_of}
use Rattle.hfs_blocks.specs.Layers.{over}
use Rattle.hfs_space.specs.Parts.{zeros}
use Rattle.hfs_space.specs.Written.{KeepsBeside, HasPart, AreDifferent}
use Rattle.hfs_space.specs.Zeros.{is_of_run, zero_blocks}
use Rattle.hfs_space.proofs.ZeroLemmas.{in-run}

-- each number of the runs is in one of them
listed : (runs : List Run) (j : ℕ) → j < length (flat_map run_of runs) → list_any (is_of_run (get_or (flat_map run_of runs) j 0)) runs ≡ true
listed [] j lt = absurd (omega (arith, lt))
listed (r ∷ rs) j lt =
    let long = length-range_with_len r.first r.count in
    let all = length-append (run_of r) (flat_map run_of rs) in
    elim (cases_lt j r.count) [
      | inl low ↦
          let at : get_or (flat_map run_of (r ∷ rs)) j 0 ≡ r.first + j = get_or_append_left (run_of r) (flat_map run_of rs) 0 j (omega (arith, low, long)) ∙ get_or-range_with_len r.first r.count j 0 low in
          ap (λ (n : ℕ). list_any (is_of_run n) (r ∷ rs)) at ∙ ap (λ b. b || list_any (is_of_run (r.first + j)) rs) (in-run (r.first + j) r (omega arith) (omega (arith, low)))
      | inr high ↦
          let at : get_or (flat_map run_of (r ∷ rs)) j 0 ≡ get_or (flat_map run_of rs) (j - r.count) 0 = get_or-append_right (run_of r) (flat_map run_of rs) r.count j 0 long high in
          let n = get_or (flat_map run_of rs) (j - r.count) 0 in
          ap (λ (k : ℕ). list_any (is_of_run k) (r ∷ rs)) at ∙ ap (λ b. is_of_run n r || b) (listed rs (j - r.count) (omega (arith, lt, all, long, high))) ∙ or-true (is_of_run n r)
    ]

-- and no other number is
unlisted : (runs : List Run) (k : ℕ) → ((j : ℕ) → j < length (flat_map run_of runs) → get_or (flat_map run_of runs) j 0 ≢ k) → list_any (is_of_run k) runs ≡ false
unlisted [] k none = refl
unlisted (r ∷ rs) k none =
    let long = length-range_with_len r.first r.count in
    let all = length-append (run_of r) (flat_map run_of rs) in
    elim (cases_Bool (is_of_run k r)) [
      | inl is ↦
          let parts = and_parts (leb r.first k) (ltb k (r.first + r.count)) is in
          let low = leb-true r.first k parts.0 in
          let high = ltb-true k (r.first + r.count) parts.1 in
          absurd (none (k - r.first) (omega (arith, all, long, low, high))
          (get_or_append_left (run_of r) (flat_map run_of rs) 0 (k - r.first) (omega (arith, long, low, high)) ∙ get_or-range_with_len r.first r.count (k - r.first) 0 (omega (arith, low, high))
          ∙ (let e : r.first + (k - r.first) ≡ k = omega (arith, low) in e)))
      | inr not ↦
          ap (λ b. b || list_any (is_of_run k) rs) not
          ∙ unlisted rs k (λ j lt same.
          none (r.count + j) (omega (arith, lt, all, long))
          (get_or-append_right (run_of r) (flat_map run_of rs) r.count (r.count + j) 0 long (omega arith)
          ∙ ap (λ m. get_or (flat_map run_of rs) m 0) (let e : r.count + j - r.count ≡ j = omega arith in e) ∙ same))
    ]

module _ (ns : List ℕ) (from : ℕ) (runs : List Run) (below : ℕ → List ℕ) (different : AreDifferent ns) (is : flat_map run_of runs ≡ drop from ns) where
  here : (i : ℕ) → from ≤ i → i < length ns → over (zero_blocks runs) below (get_or ns i 0) ≡ zeros 512
  here i ge lt =
      let place : get_or (flat_map run_of runs) (i - from) 0 ≡ get_or ns i 0 =
      ap (λ (l : List ℕ). get_or l (i - from) 0) is ∙ get_or-drop from ns (i - from) 0 ∙ ap (λ k. get_or ns k 0) (let e : from + (i - from) ≡ i = omega (arith, ge) in e) in
      let long = ap (λ (l : List ℕ). length l) is ∙ length-drop from ns in
      let there = subst (λ (n : ℕ). list_any (is_of_run n) runs ≡ true) place (listed runs (i - from) (omega (arith, ge, lt, long))) in
      ap (λ (t : Bool). unwrap_or (cond t (Some (zeros 512)) None) (below (get_or ns i 0))) there

  away : (k : ℕ) → ((i : ℕ) → from ≤ i → i < length ns → get_or ns i 0 ≢ k) → over (zero_blocks runs) below k ≡ below k
  away k none =
      let long = ap (λ (l : List ℕ). length l) is ∙ length-drop from ns in
      ap (λ (t : Bool). unwrap_or (cond t (Some (zeros 512)) None) (below k))
      (unlisted runs k (λ j lt same.
      none (from + j) (omega arith) (omega (arith, lt, long))
      (sym (get_or-drop from ns j 0) ∙ sym (ap (λ (l : List ℕ). get_or l j 0) is) ∙ same)))

  pub HasPart-zeroed : from ≤ length ns → HasPart ns (512 * from) (zeros (512 * (length ns - from))) below (over (zero_blocks runs) below)
  HasPart-zeroed within =
      let zero_byte : ℕ = 0 in
      let many = length-replicate (512 * (length ns - from)) zero_byte in
      record {
        given = λ j lt.
            let few : j < 512 * (length ns - from) = omega (arith, lt, many) in
            ap (λ (b : List ℕ). get_or b ((512 * from + j) % 512) 0) (here ((512 * from + j) / 512) (omega arith) (omega (arith, few)))
            ∙ get_or-replicate 512 ((512 * from + j) % 512) zero_byte 0 (omega arith) ∙ sym (get_or-replicate (512 * (length ns - from)) j zero_byte 0 few);
        others = λ j lt apart. elim apart [
          | inl low ↦
              ap (λ (b : List ℕ). get_or b (j % 512) 0)
              (away (get_or ns (j / 512) 0) (λ i ge below_end same. different (j / 512) i (omega (arith, low, ge)) below_end (sym same)))
          | inr high ↦ absurd (omega (arith, high, many, lt, within))
        ];
      }

  pub KeepsBeside-zeroed : KeepsBeside ns (512 * from) (512 * (length ns - from)) below (over (zero_blocks runs) below)
  KeepsBeside-zeroed k none = away k (λ i ge lt same. none i (record { some = omega (arith, ge, lt); starts = omega (arith, ge); ends = omega (arith, ge, lt) }) lt same)
