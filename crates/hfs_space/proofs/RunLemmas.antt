-- Flags and blocks of runs, one run after the other.
use Rattle.std.proofs.Common.{◌≡◌, ⊎_elim, ℕ, ◌+◌, ◌<◌, ◌≤◌, Bool, true, false, cond, List, [], ◌∷◌, length, take, get_or, Option, Some, None, refl, sym, ap, ◌∙◌, arith, true≢false}
use Rattle.std.specs.Prelude.{◌&&◌, ◌||◌, nat_le, nat_lt, is_some}
use Rattle.std.specs.Borrow.{Bor}
use Rattle.std.specs.List.{list_any}
use Rattle.std.specs.Option.{option_copied}
use Rattle.std.proofs.lemmas.Bool.{cases_eq, cases_lt, eq-eqb, le-leb, le-ltb, lt-leb, lt-ltb, ltb-true, ne_eqb}
use Rattle.std.proofs.lemmas.List.{length-replicate}
use Rattle.std.proofs.lemmas.List.Elements.{All-head, All-tail}
use Rattle.std.proofs.lemmas.List.Folds.{list_any_more}
use Rattle.std.proofs.lemmas.Option.{none-some, same_Some}
use Rattle.hfs_blocks.specs.declared.run.Run.{Run}
use Rattle.hfs_blocks.specs.Layers.{Numbered, changes, with_change, AreWithin}
use Rattle.hfs_space.specs.Parts.{zeros}
use Rattle.hfs_space.specs.Zeros.{is_of_run}
use Rattle.hfs_space.specs.Flags.{zeros_if}
use Rattle.hfs_space.specs.Again.{AreAgain, GainsRun, is_in}
use Rattle.hfs_space.specs.Zeros.{AreAmong}

-- ---- numbers of a run

-- whether a number stands from the one up to the other
abbrev between : ℕ → ℕ → ℕ → Bool
between first end n = nat_le first n && nat_lt n end

below_first : (first end n : ℕ) → n < first → between first end n ≡ false
below_first first end n h = ap (λ (b : Bool). b && nat_lt n end) (lt-leb first n h)

within : (first end n : ℕ) → first ≤ n → n < end → between first end n ≡ true
within first end n h l = λ i. le-leb first n h i && lt-ltb n end l i

behind_end : (first end n : ℕ) → end ≤ n → between first end n ≡ false
behind_end first end n h = ap (λ (b : Bool). nat_le first n && b) (le-ltb n end h) ∙ and-false (nat_le first n)
  where
    and-false : (b : Bool) → (b && false) ≡ false
    and-false true = refl
    and-false false = refl

-- ---- blocks that become zeros

or-true : (a : Bool) → (a || true) ≡ true
or-true true = refl
or-true false = refl

or-false : (a : Bool) → (a || false) ≡ a
or-false true = refl
or-false false = refl

and-none : (a : Bool) → (a && false) ≡ false
and-none true = refl
and-none false = refl

-- so far, whichever passed before
abbrev pub GainsUpTo : ℕ → ℕ → Numbered → Numbered → Numbered → Type 0
GainsUpTo first n kept old new = (passes : ℕ → Bool) → AreAgain passes kept old → AreAgain (λ k. passes k || between first n k) kept new

-- a run of which the kept patch has no block gains nothing
pub gains_nothing : (run : Run) (kept old : Numbered) → ((n : ℕ) → run.first ≤ n → n < run.first + run.count → changes kept n ≡ None) → GainsRun run kept old old
gains_nothing run kept old none passes are n = are n ∙ ap zeros_if (⊎_elim
    (λ (lt : n < run.first). beside (below_first run.first (run.first + run.count) n lt))
    (λ (ge : run.first ≤ n). ⊎_elim
    (λ (lt : n < run.first + run.count). inside (none n ge lt))
    (λ (le : run.first + run.count ≤ n). beside (behind_end run.first (run.first + run.count) n le))
    (cases_lt n (run.first + run.count)))
    (cases_lt n run.first))
  where
    beside : is_of_run n run ≡ false → (passes n && is_some (changes kept n)) ≡ ((passes n || is_of_run n run) && is_some (changes kept n))
    beside e = ap (λ (b : Bool). b && is_some (changes kept n)) (sym (ap (λ (b : Bool). passes n || b) e ∙ or-false (passes n)))

    inside : changes kept n ≡ None → (passes n && is_some (changes kept n)) ≡ ((passes n || is_of_run n run) && is_some (changes kept n))
    inside e = ap (λ o. passes n && is_some o) e ∙ and-none (passes n) ∙ sym (ap (λ o. (passes n || is_of_run n run) && is_some o) e ∙ and-none (passes n || is_of_run n run))

pub gains_none : (first : ℕ) (kept old : Numbered) → GainsUpTo first first kept old old
gains_none first kept old passes are k =
    are k ∙ ap (λ (b : Bool). zeros_if (b && is_some (changes kept k))) (sym (or-false (passes k)) ∙ ap (λ (b : Bool). passes k || b) (sym (empty k)))
  where
    empty : (k : ℕ) → between first first k ≡ false
    empty k = ⊎_elim (λ (l : k < first). below_first first first k l) (λ (ge : first ≤ k). behind_end first first k ge) (cases_lt k first)

-- the numbers up to the next are those up to this one, and this one
next_other : (first n k : ℕ) → (n ≡ k → ⊥) → between first (n + 1) k ≡ between first n k
next_other first n k other = ⊎_elim
    (λ (l : k < n). ap (λ (b : Bool). nat_le first k && b) (lt-ltb k (n + 1) (omega arith) ∙ sym (lt-ltb k n l)))
    (λ (ge : n ≤ k). ⊎_elim
    (λ (same : n ≡ k). absurd (other same))
    (λ (ne : n ≡ k → ⊥). behind_end first (n + 1) k (next_le n k ge ne) ∙ sym (behind_end first n k ge))
    (cases_eq n k))
    (cases_lt k n)
  where
    next_le : (n k : ℕ) → n ≤ k → (n ≡ k → ⊥) → n + 1 ≤ k
    next_le n k le ne = ⊎_elim (λ (l : n < k). omega (arith, l)) (λ (ge : k ≤ n). let same : n ≡ k = omega arith in absurd (ne same)) (cases_lt n k)

-- the block was put
pub gains_put : (first n : ℕ) (kept old now new : Numbered) → first ≤ n → GainsUpTo first n kept old now → is_some (changes kept n) ≡ true
    → changes new ≡ with_change (changes now) n (zeros 512) → GainsUpTo first (n + 1) kept old new
gains_put first n kept old now new le before has put passes are k = ⊎_elim
    (λ (same : n ≡ k).
    ap (λ (c : ℕ → Option (List ℕ)). c k) put ∙ ap (λ (b : Bool). cond b (Some (zeros 512)) (changes now k)) (eq-eqb n k same)
    ∙ sym (ap zeros_if (λ i. (passes k || within first (n + 1) k (omega arith) (omega arith) i) && is_some (changes kept (sym same i)))
    ∙ ap (λ (b : Bool). zeros_if (b && is_some (changes kept n))) (or-true (passes k)) ∙ ap zeros_if has))
    (λ (other : n ≡ k → ⊥).
    ap (λ (c : ℕ → Option (List ℕ)). c k) put ∙ ap (λ (b : Bool). cond b (Some (zeros 512)) (changes now k)) (ne_eqb n k other)
    ∙ before passes are k ∙ ap (λ (b : Bool). zeros_if ((passes k || b) && is_some (changes kept k))) (sym (next_other first n k other)))
    (cases_eq n k)

-- the kept patch has no such block
pub gains_not : (first n : ℕ) (kept old now : Numbered) → GainsUpTo first n kept old now → is_some (changes kept n) ≡ false → GainsUpTo first (n + 1) kept old now
gains_not first n kept old now before has passes are k = ⊎_elim
    (λ (same : n ≡ k).
    let lacks : is_some (changes kept k) ≡ false = ap (λ (j : ℕ). is_some (changes kept j)) (sym same) ∙ has in
    before passes are k ∙ ap zeros_if (ap (λ (b : Bool). (passes k || between first n k) && b) lacks ∙ and-none (passes k || between first n k))
    ∙ sym (ap zeros_if (ap (λ (b : Bool). (passes k || between first (n + 1) k) && b) lacks ∙ and-none (passes k || between first (n + 1) k))))
    (λ (other : n ≡ k → ⊥). before passes are k ∙ ap (λ (b : Bool). zeros_if ((passes k || b) && is_some (changes kept k))) (sym (next_other first n k other)))
    (cases_eq n k)

-- one run more
pub again_more : (runs : List Run) (i : ℕ) (d : Run) (kept now new : Numbered) → i < length runs → AreAgain (is_in (take i runs)) kept now
    → GainsRun (get_or runs i d) kept now new → AreAgain (is_in (take (i + 1) runs)) kept new
again_more runs i d kept now new l before gains k =
    gains (is_in (take i runs)) before k ∙ ap (λ (b : Bool). zeros_if (b && is_some (changes kept k))) (sym (list_any_more (is_of_run k) runs i d l))

-- what lends a block has one
pub copied_some : (o : Option (Bor (List ℕ))) → is_some (option_copied o) ≡ is_some o
copied_some None = refl
copied_some (Some b) = refl

-- ---- where these blocks are

pub in_total : (total n : ℕ) (runs : List Run) → list_any (is_of_run n) runs ≡ true → AreAmong runs total → n < total
in_total total n [] is among = absurd (true≢false (sym is))
in_total total n (run ∷ runs) is among = elim (is_of_run n run) as (λ (b : Bool). is_of_run n run ≡ b → (b || list_any (is_of_run n) runs) ≡ true → n < total) [
  | true ↦ λ here _.
      let end : n < run.first + run.count = ltb-true n (run.first + run.count) (second (nat_le run.first n) (nat_lt n (run.first + run.count)) here) in
      let most : run.first + run.count ≤ total = All-head (λ (r : Run). r.first + r.count ≤ total) run runs among in
      omega (arith, end, most)
  | false ↦ λ other later. in_total total n runs later (All-tail (λ (r : Run). r.first + r.count ≤ total) run runs among)
] refl is
  where
    second : (a b : Bool) → (a && b) ≡ true → b ≡ true
    second true b e = e
    second false b e = absurd (true≢false (sym e))

pub again_within : (total : ℕ) (runs : List Run) (kept again : Numbered) → AreAmong runs total → AreAgain (is_in runs) kept again → AreWithin (changes again) total
again_within total runs kept again among are n b found = by (is_in runs n) (is_some (changes kept n)) refl (sym (are n) ∙ found)
  where
    by : (inside has : Bool) → is_in runs n ≡ inside → zeros_if (inside && has) ≡ Some b → (n < total) × (length b ≡ 512)
    by true true is e =
        let zero_byte : ℕ = 0 in
        (in_total total n runs is among, ap (λ (l : List ℕ). length l) (sym (same_Some (zeros 512) b e)) ∙ length-replicate 512 zero_byte)
    by true false is e = absurd (none-some b e)
    by false has is e = absurd (none-some b e)

pub among_more : (few more : ℕ) (runs : List Run) → few ≤ more → AreAmong runs few → AreAmong runs more
among_more few more runs le among = λ k d l. omega (arith, le, among k d l)
