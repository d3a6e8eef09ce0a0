-- The numbers of a fork's logical blocks.
use Rattle.std.proofs.Common.{◌≡◌, ℕ, zero, suc, ◌+◌, ◌-◌, ◌*◌, ◌/◌, ◌<◌, ◌≤◌, ◌⊎◌, inl, inr, Bool, cond, eqb, List, [], ◌∷◌, ◌++◌, length, get_or, refl, sym, ap, ◌∙◌, subst, arith}
use Rattle.std.specs.List.{range_with_len}
use Rattle.std.proofs.Math.Nat.{add-mul}
use Rattle.std.proofs.lemmas.Nat.{le-div, div_below}
use Rattle.std.proofs.lemmas.List.{length-append, get_or_append_left, get_or-append_right}
use Rattle.std.proofs.lemmas.List.FromFn.{length-range_with_len, get_or-range_with_len}
use Rattle.std.proofs.lemmas.Bool.{eq-eqb, ne_eqb, cases_lt}
use Rattle.std.proofs.lemmas.List.Elements.{All-head, All-tail}
use Rattle.std.proofs.lemmas.List.Sums.{sum_by-cons}
use Rattle.hfs_fields.specs.declared.extent.Extent.{Extent}
use Rattle.hfs_fields.specs.declared.mdb.Mdb.{Mdb}
use Rattle.hfs_blocks.specs.Blocks.{run_of}
use Rattle.hfs_space.specs.Extents.{extent_blocks, AreExtentsWithin}
use Rattle.hfs_space.specs.ForkLaws.{block_numbers}
use Rattle.hfs_space.specs.Forks.{run_in, blocks_each, HasArea}
use Rattle.hfs_space.specs.Owners.{owners}
use Rattle.hfs_space.proofs.OwnerLemmas.{append}
use Rattle.hfs_space.specs.Written.{AreDifferent}

-- ---- how many times a number stands in a list

pub owners-cons : (x : ℕ) (xs : List ℕ) (b : ℕ) → owners (x ∷ xs) b ≡ cond (eqb x b) 1 0 + owners xs b
owners-cons x xs b = sum_by-cons (λ (o : ℕ). cond (eqb o b) 1 0) x xs

owners-here : (x : ℕ) (xs : List ℕ) (b : ℕ) → x ≡ b → owners (x ∷ xs) b ≡ 1 + owners xs b
owners-here x xs b e = owners-cons x xs b ∙ ap (λ t. cond t 1 0 + owners xs b) (eq-eqb x b e)

owners-at : (ns : List ℕ) (i : ℕ) → i < length ns → 0 < owners ns (get_or ns i 0)
owners-at [] i lt = absurd (omega (arith, lt))
owners-at (n ∷ ns) zero lt = let e = owners-here n ns n refl in omega (arith, e)
owners-at (n ∷ ns) (suc i) lt = let rest = owners-at ns i (omega (arith, lt)) in let e = owners-cons n ns (get_or ns i 0) in omega (arith, rest, e)

pub different-once : (ns : List ℕ) → ((n : ℕ) → owners ns n ≤ 1) → AreDifferent ns
different-once [] once i j less lt same = omega (arith, less, lt)
different-once (n ∷ ns) once zero zero less lt same = omega (arith, less)
different-once (n ∷ ns) once (suc i) zero less lt same = omega (arith, less)
different-once (n ∷ ns) once zero (suc j) less lt same =
    let there = owners-at ns j (omega (arith, lt)) in
    let here = owners-here n ns (get_or ns j 0) same in
    let most = once (get_or ns j 0) in
    omega (arith, there, here, most)
different-once (n ∷ ns) once (suc i) (suc j) less lt same =
    different-once ns (λ b. (let most = once b in let e = owners-cons n ns b in omega (arith, most, e))) i j (omega (arith, less)) (omega (arith, lt)) same

pub outside : (a n b : ℕ) → (b < a) ⊎ (a + n ≤ b) → owners (range_with_len a n) b ≡ 0
outside a zero b apart = refl
outside a (suc n) b apart =
    let ne : a ≡ b → ⊥ = λ same. elim apart [ inl low ↦ omega (arith, low, same) | inr high ↦ omega (arith, high, same) ] in
    let here : ◌≡◌ {A = ℕ} (cond (eqb a b) 1 0) 0 = ap (λ (t : Bool). cond t 1 0) (ne_eqb a b ne) in
    let rest = outside (a + 1) n b (elim apart [ inl low ↦ inl (omega (arith, low)) | inr high ↦ inr (omega (arith, high)) ]) in
    let parts = owners-cons a (range_with_len (a + 1) n) b in
    omega (arith, here, rest, parts)

pub inside : (a n b : ℕ) → a ≤ b → b < a + n → owners (range_with_len a n) b ≡ 1
inside a zero b low high = absurd (omega (arith, low, high))
inside a (suc n) b low high =
    elim (cases_lt a b) [
      | inl lt ↦
          let here : ◌≡◌ {A = ℕ} (cond (eqb a b) 1 0) 0 = ap (λ (t : Bool). cond t 1 0) (ne_eqb a b (λ same. omega (arith, same, lt))) in
          let rest = inside (a + 1) n b (omega (arith, lt)) (omega (arith, high)) in
          let parts = owners-cons a (range_with_len (a + 1) n) b in
          omega (arith, here, rest, parts)
      | inr ge ↦
          let same : a ≡ b = omega (arith, ge, low) in
          let here = owners-here a (range_with_len (a + 1) n) b same in
          let rest = outside (a + 1) n b (inl (omega (arith, same))) in
          omega (arith, here, rest)
    ]

-- ---- products

some-factor : (count each i : ℕ) → i < count * each → 0 < count
some-factor zero each i low = absurd (let none : 0 * each ≡ 0 = omega arith in omega (arith, low, none))
some-factor (suc count) each i low = omega arith

some-each : (each k place : ℕ) → place < k * each → 0 < each
some-each zero k place lt = absurd (let none : k * 0 ≡ 0 = omega arith in omega (arith, lt, none))
some-each (suc each) k place lt = omega arith

mul-le : (a b k : ℕ) → a ≤ b → a * k ≤ b * k
mul-le a b k le = let split = add-mul a (b - a) k in let same = ap (λ n. n * k) (let e : a + (b - a) ≡ b = omega (arith, le) in e) in omega (arith, split, same)

-- ---- rows of numbers, `each` for each number of a row

-- a number of the row is one of those for a number of the other row
row-owners : (start each first count n : ℕ) → owners (range_with_len (start + first * each) (count * each)) n ≤ owners (range_with_len first count) ((n - start) / each)
row-owners start each first count n = elim (cases_lt n (start + first * each)) [
  | inl low ↦ let none = outside (start + first * each) (count * each) n (inl low) in omega (arith, none)
  | inr from ↦ elim (cases_lt n (start + first * each + count * each)) [
    | inr high ↦ let none = outside (start + first * each) (count * each) n (inr high) in omega (arith, none)
    | inl within ↦
        let more : first * each ≤ n - start = omega (arith, from) in
        let less : n - start < (first + count) * each = (let sum = add-mul first count each in omega (arith, from, within, sum)) in
        let some = some-each each (first + count) (n - start) less in
        let one = inside (start + first * each) (count * each) n from within in
        let block = inside first count ((n - start) / each) (le-div first (n - start) each some more) (div_below (n - start) each (first + count) some less) in
        omega (arith, one, block)
  ]
]

-- a number of the row comes before the end of all
row-within : (start each first count blocks total i : ℕ) → i < count * each → first + count ≤ blocks → start + blocks * each ≤ total → start + first * each + i < total
row-within start each first count blocks total i low inside area =
    let most = mul-le (first + count) blocks each inside in
    let sum = add-mul first count each in
    omega (arith, low, most, sum, area)

-- ---- the logical blocks of allocation blocks

module _ (mdb : Mdb) where
  numbers-cons : (e : Extent) (es : List Extent) (n : ℕ) → owners (block_numbers mdb (e ∷ es)) n ≡ owners (run_of (run_in mdb e)) n + owners (block_numbers mdb es) n
  numbers-cons e es n = append n (run_of (run_in mdb e)) (block_numbers mdb es)

  blocks-cons : (e : Extent) (es : List Extent) (b : ℕ) → owners (extent_blocks (e ∷ es)) b ≡ owners (range_with_len e.first e.count) b + owners (extent_blocks es) b
  blocks-cons e es b = append b (range_with_len e.first e.count) (extent_blocks es)

  numbers-owners : (es : List Extent) (n : ℕ) → owners (block_numbers mdb es) n ≤ owners (extent_blocks es) ((n - mdb.allocation_start) / blocks_each mdb)
  numbers-owners [] n = let none : owners [] n ≡ 0 = refl in omega (arith, none)
  numbers-owners (e ∷ es) n =
      let first = row-owners mdb.allocation_start (blocks_each mdb) e.first e.count n in
      let rest = numbers-owners es n in
      let left = numbers-cons e es n in
      let right = blocks-cons e es ((n - mdb.allocation_start) / blocks_each mdb) in
      add-two _ _ _ _ _ _ left right first rest
    where
      add-two : (all a b whole c d : ℕ) → all ≡ a + b → whole ≡ c + d → a ≤ c → b ≤ d → all ≤ whole
      add-two all a b whole c d p q r s = omega (arith, p, q, r, s)

  -- where no allocation block stands twice, no logical block does
  pub numbers-once : (es : List Extent) → ((b : ℕ) → owners (extent_blocks es) b ≤ 1) → (n : ℕ) → owners (block_numbers mdb es) n ≤ 1
  numbers-once es once n = le-one _ _ (numbers-owners es n) (once ((n - mdb.allocation_start) / blocks_each mdb))
    where
      le-one : (a b : ℕ) → a ≤ b → b ≤ 1 → a ≤ 1
      le-one a b p q = omega (arith, p, q)

  pub numbers-different : (es : List Extent) → ((b : ℕ) → owners (extent_blocks es) b ≤ 1) → AreDifferent (block_numbers mdb es)
  numbers-different es once = different-once (block_numbers mdb es) (numbers-once es once)

  -- the numbers are those of the volume's blocks
  pub numbers-within : (total : ℕ) → HasArea mdb total → (es : List Extent) → AreExtentsWithin mdb.allocation_blocks es → (i : ℕ) → i < length (block_numbers mdb es) → get_or (block_numbers mdb es) i 0 < total
  numbers-within total area [] within i lt = absurd (let no : i < 0 = lt in omega (arith, no))
  numbers-within total area (e ∷ es) within i lt =
      let front = length-range_with_len (mdb.allocation_start + e.first * blocks_each mdb) (e.count * blocks_each mdb) in
      let all = length-append (run_of (run_in mdb e)) (block_numbers mdb es) in
      by (e.count * blocks_each mdb) front all
      (λ low.
      row-within mdb.allocation_start (blocks_each mdb) e.first e.count mdb.allocation_blocks total i low
      (All-head (λ (x : Extent). 0 < x.count → x.first + x.count ≤ mdb.allocation_blocks) e es within (some-factor e.count (blocks_each mdb) i low)) area)
      (λ low. get_or-range_with_len (mdb.allocation_start + e.first * blocks_each mdb) (e.count * blocks_each mdb) i 0 low)
      (numbers-within total area es (All-tail (λ (x : Extent). 0 < x.count → x.first + x.count ≤ mdb.allocation_blocks) e es within))
    where
      by : (own : ℕ) → length (run_of (run_in mdb e)) ≡ own → length (run_of (run_in mdb e) ++ block_numbers mdb es) ≡ length (run_of (run_in mdb e)) + length (block_numbers mdb es)
          → (i < own → mdb.allocation_start + e.first * blocks_each mdb + i < total) → (i < own → get_or (run_of (run_in mdb e)) i 0 ≡ mdb.allocation_start + e.first * blocks_each mdb + i)
          → ((k : ℕ) → k < length (block_numbers mdb es) → get_or (block_numbers mdb es) k 0 < total) → get_or (run_of (run_in mdb e) ++ block_numbers mdb es) i 0 < total
      by own front all low_within number rest = elim (cases_lt i own) [
        | inl low ↦
            subst (λ (n : ℕ). n < total) (sym (get_or_append_left (run_of (run_in mdb e)) (block_numbers mdb es) 0 i (omega (arith, low, front)) ∙ number low)) (low_within low)
        | inr high ↦
            subst (λ (n : ℕ). n < total) (sym (get_or-append_right (run_of (run_in mdb e)) (block_numbers mdb es) own i 0 front high)) (rest (i - own) (omega (arith, lt, all, front, high)))
      ]
