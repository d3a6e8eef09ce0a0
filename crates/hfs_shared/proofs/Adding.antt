-- The exchange that adds a change keeps the rule of the history.
use Rattle.std.proofs.Common.{◌≡◌, ℕ, ◌+◌, ◌<◌, ◌==◌, Bool, true, false, List, [], ◌∷◌, ◌++◌, length, refl, ap, sym, subst, arith, inl, length-append, None, ◌∙◌}
use Rattle.std.proofs.lemmas.List.{append-nil}
use Rattle.std.proofs.lemmas.Bool.Decides.{nat_tests}
use mathlib.Core.List.{IsPrefix}
use prog.Atomic.{either}
use Rattle.logbook.specs.Pages.{Cell, cell, keeps, no_nib, step, Moves, Goes}
use Rattle.hfs_shared.specs.declared.item.Item.{Item}
use Rattle.hfs_shared.specs.Histories.{IsKept, Adds}
use Rattle.hfs_shared.proofs.Prefixes.{prefix_whole}

abbrev pub shown : List Item → List Item
shown log = []

abbrev pub moved : List Item → List Item → ℕ → Type 0
moved xs ys n = Unit {0}

-- `now` is the number found
pub adds_goes : (log v : List Item) (e : Item) (old now : ℕ) → length v ≡ old + 1 → length log ≡ now + 1 → IsPrefix v log
    → (b : Bool) → (now == old) ≡ b
    → Goes IsKept shown moved 0 (v, (no_nib, None)) (λ n. either (n == old) (old + 1) n) (Adds (step 0 old (old + 1) e) (v, (no_nib, None))) ((now, true) ∷ []) log
adds_goes log v e old now len whole pre true is =
    let here : now ≡ old = grind (arith, nat_tests) in
    let same : v ≡ log = prefix_whole v log pre (omega arith) in
    let n : either (now == old) (old + 1) now ≡ old + 1 = rw is refl in (
      keeps,
      e ∷ [],
      None,
      tt,
      record { changes = old + 1; words = ap (λ (k : ℕ). (k, true) ∷ []) n; counted = omega (arith, length-append log (e ∷ [])) },
      inl (refl, refl),
      λ _. ap (λ w. w ++ e ∷ []) (sym same),
    )
adds_goes log v e old now len whole pre false is =
    let all : log ++ [] ≡ log = append-nil log in
    let n : either (now == old) (old + 1) now ≡ now = rw is refl in (
      keeps,
      [],
      None,
      tt,
      record { changes = now; words = ap (λ (k : ℕ). (k, true) ∷ []) n; counted = ap length all ∙ whole },
      inl (refl, refl),
      λ (h : now ≡ old). absurd (grind (arith, nat_tests)),
    )

pub adds_moves : (v : List Item) (e : Item) (old : ℕ) → length v ≡ old + 1
    → Moves IsKept shown moved 0 (v, (no_nib, None)) (λ n. either (n == old) (old + 1) n) (Adds (step 0 old (old + 1) e) (v, (no_nib, None)))
adds_moves v e old len cs log kept pre away =
    let P : List Cell → Type 0 = λ c. (0 < length c) × ((cell c 0).1 ≡ true) × Goes IsKept shown moved 0 (v, (no_nib, None)) (λ n. either (n == old) (old + 1) n) (Adds (step 0 old (old + 1) e) (v, (no_nib, None))) c log in
    subst P (sym kept.words) (omega arith, refl, adds_goes log v e old kept.changes len kept.counted pre (kept.changes == old) refl)
