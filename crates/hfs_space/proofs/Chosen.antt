-- What the blocks that are chosen are.
use Rattle.std.proofs.Common.{◌≡◌, ℕ, ◌+◌, ◌-◌, ◌<◌, ◌≤◌, inl, inr, Bool, true, false, cond, eqb, List, [], ◌∷◌, ◌++◌, length, Option, Some, None, refl, sym, ap, ◌∙◌, subst, arith}
use Rattle.std.specs.Prelude.{not}
use Rattle.std.specs.List.{range_with_len}
use Rattle.std.proofs.lemmas.Bool.{eqb-true, eqb-false, both_ways, not-true, cases_lt, or_parts}
use Rattle.std.proofs.lemmas.List.{append-nil}
use Rattle.hfs_space.proofs.NumberLemmas.{inside}
use Rattle.hfs_space.proofs.CountingLemmas.{count_below-le}
use Rattle.std.proofs.lemmas.List.Elements.{All-nil, All-cons, All-append, All-weaker}
use Rattle.std.proofs.lemmas.List.Sums.{sum_by-append, sum_by-cons}
use Rattle.hfs_fields.specs.declared.extent.Extent.{Extent}
use Rattle.hfs_space.specs.Extents.{extent_blocks, block_total, AreExtentsWithin}
use Rattle.hfs_space.specs.Owners.{owners}
use Rattle.hfs_space.specs.FreeRuns.{free_blocks, is_in, is_taken, AreFreeRuns, IsWhole}
use Rattle.hfs_space.specs.Choice.{IsRowAfter, AreBeside, some_of, AreChosen, AreFreeOnce, IsRoom, free_count}
use Rattle.hfs_space.proofs.OwnedLemmas.{owners-once, owned-among, owners-filter, owned-passes, blocks-cons, blocks-append, blocks-one, length-blocks}
use Rattle.hfs_space.proofs.Counted.{taken-inside, taken-nothing, free_count-beside, free_count-same, length-free_blocks}
use Rattle.hfs_space.proofs.Firsts.{HaveBlocks, taken-of-runs}

-- the blocks of the runs of free ones are as many as are free
pub runs-total : (used : ℕ → Bool) (n : ℕ) (runs : List Extent) → AreFreeRuns used n runs → block_total runs ≡ free_count used n
runs-total used n runs h = sym (length-blocks runs) ∙ ap (λ (l : List ℕ). length l) h.blocks ∙ length-free_blocks used n

pub runs-once : (used : ℕ → Bool) (n : ℕ) (runs : List Extent) (b : ℕ) → AreFreeRuns used n runs → owners (extent_blocks runs) b ≤ 1
runs-once used n runs b h =
    let same = ap (λ (l : List ℕ). owners l b) h.blocks in
    let few = owners-filter (λ k. not (used k)) (range_with_len 0 n) b in
    let one = owners-once 0 n b in
    omega (arith, same, few, one)

pub runs-free : (used : ℕ → Bool) (n : ℕ) (runs : List Extent) (b : ℕ) → AreFreeRuns used n runs → 0 < owners (extent_blocks runs) b → (b < n) × (used b ≡ false)
runs-free used n runs b h some =
    let same = ap (λ (l : List ℕ). owners l b) h.blocks in
    let there : 0 < owners (free_blocks used n) b = omega (arith, same, some) in
    let few = owners-filter (λ k. not (used k)) (range_with_len 0 n) b in
    let among = owned-among 0 n b (omega (arith, there, few)) in
    (omega (arith, among.1), not-true (used b) (owned-passes (λ k. not (used k)) (range_with_len 0 n) b there))

pub runs-some : (used : ℕ → Bool) (n : ℕ) (runs : List Extent) → AreFreeRuns used n runs → HaveBlocks runs
runs-some used n runs h = All-weaker (IsWhole used n) (λ (e : Extent). 0 < e.count) (λ e w. w.some) runs h.whole

-- ---- the row, and what is free beside it

-- the row's blocks are free, in the volume, and no more than are wanted
pub record IsFree (used : ℕ → Bool) (n wanted : ℕ) (row : Extent) : Type 0 where
  pub free : (b : ℕ) → row.first ≤ b → b < row.first + row.count → used b ≡ false
  pub within : 0 < row.count → row.first + row.count ≤ n
  pub few : row.count ≤ wanted

pub row-free : (used : ℕ → Bool) (n : ℕ) (after : Option ℕ) (wanted : ℕ) (row : Extent) → IsRowAfter used n after wanted row → IsFree used n wanted row
row-free used n None wanted row empty = record {
  free = λ b low high. absurd (omega (arith, low, high, empty));
  within = λ some. absurd (omega (arith, some, empty));
  few = omega (arith, empty);
}
row-free used n (Some first) wanted row h = record {
  free = λ b low high. h.1.free b (omega (arith, low, h.0)) (omega (arith, high, h.0));
  within = λ some. (let in_volume = h.1.within some in omega (arith, in_volume, h.0));
  few = h.1.few;
}

-- so many are free beside the row
pub count-beside : (used : ℕ → Bool) (n wanted : ℕ) (row : Extent) → IsFree used n wanted row → free_count (is_taken used row) n + row.count ≡ free_count used n
count-beside used n wanted row h = elim (cases_lt 0 row.count) [
  | inl some ↦ free_count-beside used n row h.free (h.within some)
  | inr none ↦
      let empty : row.count ≡ 0 = omega (arith, none) in
      let same = free_count-same (is_taken used row) used n (λ b lt. taken-nothing used row b empty) in
      omega (arith, same, empty)
]

some-blocks : (row : Extent) (b : ℕ) → owners (extent_blocks (some_of row)) b ≡ owners (range_with_len row.first row.count) b
some-blocks row b = by (eqb row.count 0) refl
  where
    by : (t : Bool) → eqb row.count 0 ≡ t → owners (extent_blocks (cond t [] (row ∷ []))) b ≡ owners (range_with_len row.first row.count) b
    by true none = ap (λ (k : ℕ). owners (range_with_len row.first k) b) (sym (eqb-true row.count 0 none))
    by false some = blocks-one row b

some-total : (row : Extent) → block_total (some_of row) ≡ row.count
some-total row = by (eqb row.count 0) refl
  where
    by : (t : Bool) → eqb row.count 0 ≡ t → block_total (cond t [] (row ∷ [])) ≡ row.count
    by true none = sym (eqb-true row.count 0 none)
    by false some = let one = sum_by-cons (λ (e : Extent). e.count) row [] in let nothing : block_total [] ≡ 0 = refl in omega (arith, one, nothing)

some-some : (row : Extent) → HaveBlocks (some_of row)
some-some row = by (eqb row.count 0) refl
  where
    by : (t : Bool) → eqb row.count 0 ≡ t → HaveBlocks (cond t [] (row ∷ []))
    by true none = All-nil (λ (e : Extent). 0 < e.count)
    by false some = let more = eqb-false row.count 0 some in
        let positive : 0 < row.count = elim (cases_lt 0 row.count) [ inl lt ↦ lt | inr le ↦ absurd (more (omega (arith, le))) ] in
        All-cons (λ (e : Extent). 0 < e.count) row [] positive (All-nil (λ (e : Extent). 0 < e.count))

-- extents whose blocks are all in the volume lie in it
within-owned : (n : ℕ) (es : List Extent) → ((b : ℕ) → 0 < owners (extent_blocks es) b → b < n) → AreExtentsWithin n es
within-owned n [] all = All-nil (λ (x : Extent). 0 < x.count → x.first + x.count ≤ n)
within-owned n (e ∷ es) all = All-cons (λ (x : Extent). 0 < x.count → x.first + x.count ≤ n) e es
    (λ some.
    let one = inside e.first e.count (e.first + e.count - 1) (omega (arith, some)) (omega (arith, some)) in
    let parts = blocks-cons e es (e.first + e.count - 1) in
    let last = all (e.first + e.count - 1) (omega (arith, one, parts)) in
    omega (arith, last, some))
    (within-owned n es (λ b more. all b (let parts = blocks-cons e es b in omega (arith, parts, more))))

-- ---- all that come

module _ (used : ℕ → Bool) (n wanted : ℕ) (row : Extent) (rest : List Extent) (row_free : IsFree used n wanted row)
    (rest_once : (b : ℕ) → owners (extent_blocks rest) b ≤ 1) (left : (b : ℕ) → 0 < owners (extent_blocks rest) b → (b < n) × (is_taken used row b ≡ false))
    (rest_some : HaveBlocks rest) (total : block_total rest ≡ wanted - row.count) where
  parts : (b : ℕ) → owners (extent_blocks (some_of row ++ rest)) b ≡ owners (range_with_len row.first row.count) b + owners (extent_blocks rest) b
  parts b = let both = blocks-append (some_of row) rest b in let first = some-blocks row b in omega (arith, both, first)

  -- a block of the row is none of the rest
  apart : (b : ℕ) → 0 < owners (range_with_len row.first row.count) b → owners (extent_blocks rest) b ≡ 0
  apart b here =
      let among = owned-among row.first row.count b here in
      let taken = taken-inside used row b among.0 among.1 in
      elim (cases_lt 0 (owners (extent_blocks rest) b)) [
        | inl more ↦ absurd (both_ways (is_taken used row b) (left b more).1 taken)
        | inr none ↦ omega (arith, none)
      ]

  each-once : (b : ℕ) → owners (extent_blocks (some_of row ++ rest)) b ≤ 1
  each-once b =
      let both = parts b in
      let at_most = owners-once row.first row.count b in
      let others = rest_once b in
      elim (cases_lt 0 (owners (range_with_len row.first row.count) b)) [
        | inl here ↦ let none = apart b here in omega (arith, both, at_most, none)
        | inr none ↦ omega (arith, both, none, others)
      ]

  each-free : (b : ℕ) → 0 < owners (extent_blocks (some_of row ++ rest)) b → (b < n) × (used b ≡ false)
  each-free b owned =
      let both = parts b in
      elim (cases_lt 0 (owners (range_with_len row.first row.count) b)) [
        | inl here ↦
            let among = owned-among row.first row.count b here in
            let in_volume = row_free.within (omega (arith, among.0, among.1)) in
            (omega (arith, among.1, in_volume), row_free.free b among.0 among.1)
        | inr none ↦
            let of_rest = left b (omega (arith, both, none, owned)) in
            (of_rest.0, untaken b of_rest.1)
      ]
    where
      untaken : (b : ℕ) → is_taken used row b ≡ false → used b ≡ false
      untaken b is = (or_parts (used b) (is_in row b) is).0

  pub free-once : AreFreeOnce used n wanted (some_of row ++ rest)
  free-once = record {
    some = All-append (λ (e : Extent). 0 < e.count) (some_of row) rest (some-some row) rest_some;
    within = within-owned n (some_of row ++ rest) (λ b owned. (each-free b owned).0);
    once = each-once;
    free = λ b owned. (each-free b owned).1;
    enough = (let all = length-blocks (some_of row ++ rest) in let sums = sum_by-append (λ (e : Extent). e.count) (some_of row) rest in let first = some-total row in let few = row_free.few in
        omega (arith, all, sums, first, total, few));
  }

-- where the row is enough
pub free-row : (used : ℕ → Bool) (n wanted : ℕ) (row : Extent) → IsFree used n wanted row → row.count ≡ wanted → AreFreeOnce used n wanted (some_of row ++ [])
free-row used n wanted row free enough =
    free-once used n wanted row [] free (λ b. (let none : owners [] b ≡ 0 = refl in omega (arith, none))) (λ b some. absurd (let no : 0 < 0 = some in omega (arith, no)))
    (All-nil (λ (e : Extent). 0 < e.count)) (let nothing : block_total [] ≡ 0 = refl in omega (arith, nothing, enough))

-- where more are wanted, and are free
pub free-beside : (used : ℕ → Bool) (n wanted : ℕ) (row : Extent) (rest : List Extent) → IsFree used n wanted row → wanted - row.count ≤ free_count (is_taken used row) n → AreBeside used n row (wanted - row.count) rest
    → AreFreeOnce used n wanted (some_of row ++ rest)
free-beside used n wanted row rest free enough h =
    let test = is_taken used row in
    let runs = h.0 in
    let are = h.1 in
    let total = runs-total test n runs are in
    let taken = taken-of-runs runs (wanted - row.count) rest (runs-some test n runs are) (omega (arith, total, enough)) h.2 in
    free-once used n wanted row rest free (λ b. (let of = taken.owned b in let one = runs-once test n runs b are in omega (arith, of, one)))
    (λ b some. runs-free test n runs b are (let of = taken.owned b in omega (arith, of, some))) taken.some taken.total

-- the runs of free blocks have no more than there are
pub runs-few : (used : ℕ → Bool) (n : ℕ) (runs : List Extent) → n < 65536 → AreFreeRuns used n runs → block_total runs < 65536
runs-few used n runs small h = let total = runs-total used n runs h in let most = count_below-le (λ k. not (used k)) n in omega (arith, total, most, small)

-- ---- the answers

module _ (used : ℕ → Bool) (n : ℕ) (after : Option ℕ) (wanted : ℕ) (row : Extent) (is_row : IsRowAfter used n after wanted row) where
  row_is_free : IsFree used n wanted row
  row_is_free = row-free used n after wanted row is_row

  pub row-few : row.count ≤ wanted
  row-few = row_is_free.few

  pub chosen-row : (pieces : List Extent) → pieces ≡ some_of row → row.count ≡ wanted → AreChosen used n after wanted pieces × (wanted ≤ free_count used n)
  chosen-row pieces is enough = (
    record {
      row = row;
      rest = [];
      is_row = is_row;
      enough = λ _. refl;
      more = λ less. absurd (omega (arith, less, enough));
      parts = is ∙ sym (append-nil (some_of row));
    },
    (let beside = count-beside used n wanted row row_is_free in omega (arith, beside, enough)),
  )

  pub free-chosen-row : (pieces : List Extent) → pieces ≡ some_of row → row.count ≡ wanted → AreFreeOnce used n wanted pieces
  free-chosen-row pieces is enough = subst (AreFreeOnce used n wanted) (sym (is ∙ sym (append-nil (some_of row)))) (free-row used n wanted row row_is_free enough)

  module _ (count : ℕ) (is_count : count ≡ wanted - row.count) where
    pub chosen-beside : (rest pieces : List Extent) → pieces ≡ some_of row ++ rest → row.count < wanted → AreBeside used n row count rest × (count ≤ free_count (is_taken used row) n)
        → AreChosen used n after wanted pieces × (wanted ≤ free_count used n)
    chosen-beside rest pieces are less h = (
      record {
        row = row;
        rest = rest;
        is_row = is_row;
        enough = λ enough. absurd (omega (arith, less, enough));
        more = λ _. subst (λ (k : ℕ). AreBeside used n row k rest) is_count h.0;
        parts = are;
      },
      (let beside = count-beside used n wanted row row_is_free in let most = h.1 in omega (arith, beside, is_count, most)),
    )

    pub free-chosen-beside : (rest pieces : List Extent) → pieces ≡ some_of row ++ rest → AreBeside used n row count rest × (count ≤ free_count (is_taken used row) n) → AreFreeOnce used n wanted pieces
    free-chosen-beside rest pieces are h =
        subst (AreFreeOnce used n wanted) (sym are)
        (free-beside used n wanted row rest row_is_free (let most = h.1 in omega (arith, is_count, most)) (subst (λ (k : ℕ). AreBeside used n row k rest) is_count h.0))

    pub room-beside : (left all : ℕ) → (left ≡ free_count (is_taken used row) n) × (left < count) → all ≡ row.count + left → IsRoom used n wanted (record { free = all; wanted = wanted })
    room-beside left all h sum = record {
      free = (let beside = count-beside used n wanted row row_is_free in let same = h.0 in omega (arith, beside, same, sum));
      all = refl;
      few = (let less = h.1 in omega (arith, is_count, less, sum));
    }
