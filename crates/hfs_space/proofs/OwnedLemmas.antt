-- How many times a block stands in lists of blocks, and in those of extents.
use Rattle.std.proofs.Common.{◌≡◌, inl, inr, ◌⊎◌, ℕ, zero, suc, ◌+◌, ◌-◌, ◌<◌, ◌≤◌, Bool, true, false, cond, eqb, List, [], ◌∷◌, ◌++◌, length, length-append, refl, sym, ◌∙◌, ap, arith}
use Rattle.std.specs.Prelude.{filter}
use Rattle.std.specs.List.{range_with_len, sum_by}
use Rattle.std.proofs.lemmas.Bool.{eq-eqb, eqb-true, ne_eqb, cases_lt}
use Rattle.std.proofs.lemmas.List.Sums.{sum_by-cons}
use Rattle.std.proofs.lemmas.List.Concat.{flat_map-append}
use Rattle.std.proofs.lemmas.List.FromFn.{length-range_with_len}
use Rattle.hfs_fields.specs.declared.extent.Extent.{Extent}
use Rattle.hfs_space.specs.Extents.{extent_blocks, block_total}
use Rattle.hfs_space.specs.Owners.{owners}
use Rattle.hfs_space.proofs.OwnerLemmas.{append}
use Rattle.hfs_space.proofs.ForkLawLemmas.{range-add}
use Rattle.hfs_space.proofs.NumberLemmas.{owners-cons, outside, inside}

-- where a block stands beside so many, or among them
pub sides : (first count b : ℕ) → ((b < first) ⊎ (first + count ≤ b)) ⊎ ((first ≤ b) × (b < first + count))
sides first count b = elim (cases_lt b first) [
  | inl low ↦ inl (inl low)
  | inr from ↦ elim (cases_lt b (first + count)) [ inl high ↦ inr (from, high) | inr after ↦ inl (inr after) ]
]

-- a block of so many stands among them once, and any other not at all
pub owners-once : (a n b : ℕ) → owners (range_with_len a n) b ≤ 1
owners-once a n b = elim (sides a n b) [
  | inl apart ↦ let none = outside a n b apart in omega (arith, none)
  | inr both ↦ let one = inside a n b both.0 both.1 in omega (arith, one)
]

pub owned-among : (a n b : ℕ) → 0 < owners (range_with_len a n) b → (a ≤ b) × (b < a + n)
owned-among a n b some = elim (sides a n b) [
  | inl apart ↦ absurd (let none = outside a n b apart in omega (arith, none, some))
  | inr both ↦ both
]

-- fewer blocks from one on
pub owners-fewer : (a m n b : ℕ) → m ≤ n → owners (range_with_len a m) b ≤ owners (range_with_len a n) b
owners-fewer a m n b le =
    let split : n ≡ m + (n - m) = omega (arith, le) in
    let all = ap (λ (k : ℕ). owners (range_with_len a k) b) split ∙ ap (λ (l : List ℕ). owners l b) (range-add a m (n - m)) ∙ append b (range_with_len a m) (range_with_len (a + m) (n - m)) in
    omega (arith, all)

-- ---- those of a list that pass a test

pub owners-filter : (p : ℕ → Bool) (xs : List ℕ) (b : ℕ) → owners (filter p xs) b ≤ owners xs b
owners-filter p [] b = omega arith
owners-filter p (x ∷ xs) b = by (p x) (owners-filter p xs b)
  where
    by : (t : Bool) → owners (filter p xs) b ≤ owners xs b → owners (cond t (x ∷ filter p xs) (filter p xs)) b ≤ owners (x ∷ xs) b
    by true rest = let one = owners-cons x (filter p xs) b in let all = owners-cons x xs b in omega (arith, rest, one, all)
    by false rest = let all = owners-cons x xs b in omega (arith, rest, all)

pub owned-passes : (p : ℕ → Bool) (xs : List ℕ) (b : ℕ) → 0 < owners (filter p xs) b → p b ≡ true
owned-passes p [] b some = absurd (let no : 0 < 0 = some in omega (arith, no))
owned-passes p (x ∷ xs) b some = by (p x) refl some (owned-passes p xs b)
  where
    at : (s : Bool) → eqb x b ≡ s → p x ≡ true → 0 < owners (x ∷ filter p xs) b → (0 < owners (filter p xs) b → p b ≡ true) → p b ≡ true
    at true same pass more rest = ap p (sym (eqb-true x b same)) ∙ pass
    at false other pass more rest =
        let one = owners-cons x (filter p xs) b in
        let none : ◌≡◌ {A = ℕ} (cond (eqb x b) 1 0) 0 = ap (λ (t : Bool). cond t 1 0) other in
        rest (omega (arith, one, none, more))

    by : (t : Bool) → p x ≡ t → 0 < owners (cond t (x ∷ filter p xs) (filter p xs)) b → (0 < owners (filter p xs) b → p b ≡ true) → p b ≡ true
    by true pass more rest = at (eqb x b) refl pass more rest
    by false fail more rest = rest more

-- ---- extents

pub blocks-cons : (e : Extent) (es : List Extent) (b : ℕ) → owners (extent_blocks (e ∷ es)) b ≡ owners (range_with_len e.first e.count) b + owners (extent_blocks es) b
blocks-cons e es b = append b (range_with_len e.first e.count) (extent_blocks es)

pub blocks-append : (xs ys : List Extent) (b : ℕ) → owners (extent_blocks (xs ++ ys)) b ≡ owners (extent_blocks xs) b + owners (extent_blocks ys) b
blocks-append xs ys b =
    ap (λ (l : List ℕ). owners l b) (flat_map-append (λ (x : Extent). range_with_len x.first x.count) xs ys) ∙ append b (extent_blocks xs) (extent_blocks ys)

pub blocks-one : (e : Extent) (b : ℕ) → owners (extent_blocks (e ∷ [])) b ≡ owners (range_with_len e.first e.count) b
blocks-one e b =
    let none : owners [] b ≡ 0 = refl in
    let parts = blocks-cons e [] b in
    omega (arith, parts, none)

-- by the extents, in whatever order
pub owners-blocks : (es : List Extent) (b : ℕ) → owners (extent_blocks es) b ≡ sum_by (λ (e : Extent). owners (range_with_len e.first e.count) b) es
owners-blocks [] b = refl
owners-blocks (e ∷ es) b =
    let parts = blocks-cons e es b in
    let rest = owners-blocks es b in
    let sums = sum_by-cons (λ (x : Extent). owners (range_with_len x.first x.count) b) e es in
    omega (arith, parts, rest, sums)

pub length-blocks : (es : List Extent) → length (extent_blocks es) ≡ block_total es
length-blocks [] = refl
length-blocks (e ∷ es) =
    let parts = length-append (range_with_len e.first e.count) (extent_blocks es) in
    let here = length-range_with_len e.first e.count in
    let rest = length-blocks es in
    let sums = sum_by-cons (λ (x : Extent). x.count) e es in
    omega (arith, parts, here, rest, sums)
