-- A search for the lowest run that is long enough, and the runs that there are when it ends before the last block.
use Rattle.std.proofs.Common.{◌≡◌, ℕ, zero, suc, ◌+◌, ◌-◌, ◌<◌, ◌≤◌, Bool, true, false, cond, eqb, List, [], ◌∷◌, ◌++◌, Some, refl, sym, ap, ◌∙◌, subst, arith, append_assoc, ne_eqb}
use Rattle.std.specs.Prelude.{min, MatchOption, Option}
use Rattle.std.specs.List.{All}
use Rattle.std.proofs.lemmas.Bool.{le-leb, lt-leb}
use Rattle.std.proofs.lemmas.List.Elements.{All-nil, All-push, All-append, All-head, All-tail}
use Rattle.std.proofs.lemmas.List.Sums.{sum_by-cons}
use Rattle.hfs_fields.specs.declared.extent.Extent.{Extent}
use Rattle.hfs_space.specs.Extents.{block_total}
use Rattle.hfs_space.specs.Choice.{AreBeside, IsLowest, free_count, some_of}
use Rattle.hfs_space.specs.Pieces.{first_blocks, first_with, AreOfLongest, AreOfRuns}
use Rattle.hfs_space.specs.FreeRuns.{AreFreeRuns, IsRunning, IsSearched, run_before, is_taken}
use Rattle.hfs_space.proofs.Chosen.{runs-total}
use Rattle.hfs_space.proofs.Running.{running-free, running-used, running-frees, running-useds, running-all, running-none}

abbrev IsShort : ℕ → Extent → Type 0
IsShort count run = run.count < count

short-before : (i free count : ℕ) → free < count → All (IsShort count) (run_before i free)
short-before i free count few = by (eqb free 0)
  where
    by : (t : Bool) → All (IsShort count) (cond t [] (record { first = i - free; count = free } ∷ []))
    by true = All-nil (IsShort count)
    by false = All-push (IsShort count) [] (record { first = i - free; count = free }) (All-nil (IsShort count)) few

-- ---- one step of the search

pub searched-none : (used : ℕ → Bool) (n count : ℕ) → IsSearched used n count 0 0
searched-none used n count = ([], running-none used n, All-nil (IsShort count))

pub searched-bit : (used : ℕ → Bool) (n count i free : ℕ) → IsSearched used n count i free → free < count → i < n → (taken : Bool) → taken ≡ used i → (next : ℕ) → next ≡ cond taken 0 (free + 1)
    → IsSearched used n count (i + 1) next
searched-bit used n count i free h few low true is next next-is =
    subst (λ k. IsSearched used n count (i + 1) k) (sym next-is)
    (h.0 ++ run_before i free, running-used used n i free h.0 h.1 (omega (arith, low)) (sym is), All-append (IsShort count) h.0 (run_before i free) h.2 (short-before i free count few))
searched-bit used n count i free h few low false is next next-is =
    subst (λ k. IsSearched used n count (i + 1) k) (sym next-is) (h.0, running-free used n i free h.0 h.1 (sym is), h.2)

pub searched-useds : (used : ℕ → Bool) (n count i free more : ℕ) → IsSearched used n count i free → free < count → i + more + 1 ≤ n → ((k : ℕ) → i ≤ k → k < i + more + 1 → used k ≡ true)
    → IsSearched used n count (i + more + 1) 0
searched-useds used n count i free more h few within all = (
  h.0 ++ run_before i free,
  running-useds used n i free h.0 more h.1 (omega (arith, within)) all,
  All-append (IsShort count) h.0 (run_before i free) h.2 (short-before i free count few),
)

pub searched-used : (used : ℕ → Bool) (n count i free : ℕ) → IsSearched used n count i free → free < count → i + 8 ≤ n → ((k : ℕ) → i ≤ k → k < i + 8 → used k ≡ true)
    → IsSearched used n count (i + 8) 0
searched-used used n count i free h few within all =
    subst (λ k. IsSearched used n count k 0) (let e : i + 7 + 1 ≡ i + 8 = omega arith in e)
    (searched-useds used n count i free 7 h few (omega (arith, within)) (λ k low high. all k low (omega (arith, high))))

pub searched-free : (used : ℕ → Bool) (n count i free : ℕ) → IsSearched used n count i free → ((k : ℕ) → i ≤ k → k < i + 8 → used k ≡ false) → IsSearched used n count (i + 8) (free + 8)
searched-free used n count i free h none = (h.0, running-frees used n i free h.0 8 h.1 none, h.2)

-- ---- the runs that there are

before-some : (i free : ℕ) → 0 < free → run_before i free ≡ record { first = i - free; count = free } ∷ []
before-some i free some = ap (λ t. cond t [] (record { first = i - free; count = free } ∷ [])) (ne_eqb free 0 (λ e. omega (arith, e, some)))

-- some runs follow
ends : (used : ℕ → Bool) (n left i free : ℕ) (runs : List Extent) → IsRunning used n i free runs → i + left ≡ n → (rest : List Extent) × AreFreeRuns used n (runs ++ rest)
ends used n zero i free runs h e = (run_before i free, running-all used n i free runs h i refl (omega (arith, e)))
ends used n (suc left) i free runs h e = by (used i) refl (λ free' runs' h'. ends used n left (i + 1) free' runs' h' (omega (arith, e)))
  where
    by : (t : Bool) → used i ≡ t → ((free' : ℕ) (runs' : List Extent) → IsRunning used n (i + 1) free' runs' → (rest : List Extent) × AreFreeRuns used n (runs' ++ rest))
        → (rest : List Extent) × AreFreeRuns used n (runs ++ rest)
    by true is more =
        let r = more 0 (runs ++ run_before i free) (running-used used n i free runs h (omega (arith, e)) is) in
        (run_before i free ++ r.0, subst (AreFreeRuns used n) (append_assoc runs (run_before i free) r.0) r.1)
    by false is more = more (free + 1) runs (running-free used n i free runs h is)

-- the run to which the free blocks belong goes on for a while, and then others follow
goes-on : (used : ℕ → Bool) (n left i free : ℕ) (runs : List Extent) → IsRunning used n i free runs → i + left ≡ n → 0 < free
    → (len : ℕ) × (rest : List Extent) × (free ≤ len) × AreFreeRuns used n (runs ++ record { first = i - free; count = len } ∷ rest)
goes-on used n zero i free runs h e some = (
  free,
  [],
  omega arith,
  subst (λ l. AreFreeRuns used n (runs ++ l)) (before-some i free some) (running-all used n i free runs h i refl (omega (arith, e))),
)
goes-on used n (suc left) i free runs h e some = by (used i) refl (λ h'. goes-on used n left (i + 1) (free + 1) runs h' (omega (arith, e)) (omega arith))
  where
    by : (t : Bool) → used i ≡ t
        → (IsRunning used n (i + 1) (free + 1) runs → (len : ℕ) × (rest : List Extent) × (free + 1 ≤ len) × AreFreeRuns used n (runs ++ record { first = i + 1 - (free + 1); count = len } ∷ rest))
        → (len : ℕ) × (rest : List Extent) × (free ≤ len) × AreFreeRuns used n (runs ++ record { first = i - free; count = len } ∷ rest)
    by true is more =
        let r = ends used n left (i + 1) 0 (runs ++ run_before i free) (running-used used n i free runs h (omega (arith, e)) is) (omega (arith, e)) in (
          free,
          r.0,
          omega arith,
          subst (λ l. AreFreeRuns used n (runs ++ (l ++ r.0))) (before-some i free some) (subst (AreFreeRuns used n) (append_assoc runs (run_before i free) r.0) r.1),
        )
    by false is more =
        let r = more (running-free used n i free runs h is) in
        let same : i + 1 - (free + 1) ≡ i - free = omega arith in (
          r.0,
          r.1,
          omega (arith, r.2),
          subst (λ k. AreFreeRuns used n (runs ++ record { first = k; count = r.0 } ∷ r.1)) same r.3,
        )

-- ---- the first run that is long enough

first-found : (k : ℕ) (runs rest : List Extent) (run : Extent) → All (IsShort k) runs → k ≤ run.count → first_with k (runs ++ run ∷ rest) ≡ Some run
first-found k [] rest run short long = ap (λ t. cond t (Some run) (first_with k rest)) (le-leb k run.count long)
first-found k (r ∷ runs) rest run short long =
    ap (λ t. cond t (Some r) (first_with k (runs ++ run ∷ rest))) (lt-leb k r.count (All-head (IsShort k) r runs short))
    ∙ first-found k runs rest run (All-tail (IsShort k) r runs short) long

first-part : (k first len : ℕ) → 0 < k → k ≤ len → first_blocks k (record { first = first; count = len } ∷ []) ≡ record { first = first; count = k } ∷ []
first-part k first len some long =
    ap (λ t. cond t [] (record { first = first; count = min k len } ∷ [])) (ne_eqb k 0 (λ e. omega (arith, e, some)))
    ∙ ap (λ c. record { first = first; count = c } ∷ []) (let e : min k len ≡ k = omega (arith, long) in e)

part-total : (runs rest : List Extent) (run : Extent) → run.count ≤ block_total (runs ++ run ∷ rest)
part-total [] rest run = let sum = sum_by-cons (λ (e : Extent). e.count) run rest in omega (arith, sum)
part-total (r ∷ runs) rest run =
    let sum = sum_by-cons (λ (e : Extent). e.count) r (runs ++ run ∷ rest) in
    let more = part-total runs rest run in
    omega (arith, sum, more)

pub lowest-is : (used : ℕ → Bool) (n : ℕ) (row : Extent) (k i free : ℕ) (run : Extent) → IsSearched (is_taken used row) n k i free → i ≤ n → k ≤ free → 0 < k → run.first ≡ i - free → run.count ≡ k
    → IsLowest used n row k run
lowest-is used n row k i free run h low long some first-is count-is =
    let left = is_taken used row in
    let r = goes-on left n (n - i) i free h.0 h.1 (omega (arith, low)) (omega (arith, long, some)) in
    let whole : Extent = record { first = i - free; count = r.0 } in
    let all = h.0 ++ whole ∷ r.1 in
    let enough : k ≤ r.0 = omega (arith, long, r.2) in
    let found : first_with k all ≡ Some whole = first-found k h.0 r.1 whole h.2 enough in
    let piece : run ∷ [] ≡ first_blocks k (whole ∷ []) = (λ t. record { first = first-is t; count = count-is t } ∷ []) ∙ sym (first-part k (i - free) r.0 some enough) in
    let total = runs-total left n all r.3 in
    let most = part-total h.0 r.1 whole in
    let are : AreOfRuns all k (run ∷ []) = subst (λ (o : Option Extent). MatchOption o (AreOfLongest all k (run ∷ [])) (λ e. run ∷ [] ≡ first_blocks k (e ∷ []))) (sym found) piece in
    ((all, r.3, are), omega (arith, total, most, enough), count-is, some)

-- the pieces of one run
pub beside-one : (used : ℕ → Bool) (n : ℕ) (row : Extent) (k : ℕ) (run : Extent) (pieces : List Extent) → IsLowest used n row k run → pieces ≡ some_of run
    → AreBeside used n row k pieces × (k ≤ free_count (is_taken used row) n)
beside-one used n row k run pieces h is =
    let one : some_of run ≡ run ∷ [] = ap (λ t. cond t [] (run ∷ [])) (ne_eqb run.count 0 (λ e. omega (arith, e, h.2, h.3))) in
    (subst (λ l. AreBeside used n row k l) (sym (is ∙ one)) h.0, h.1)
