-- What scans find.
use Rattle.std.specs.Prelude.{◌≡◌, ◌↔◌, ℕ, Bool, List, [], Some, None}
use Rattle.hfs_fields.specs.First.{first_failing, EachPasses, IsFirst}

-- a scan finds nothing exactly where each element passes
abbrev pub ScansAreWhole : Type 0 → Type 0
ScansAreWhole X = (test : List X → X → Bool) (xs : List X) → (first_failing test [] xs ≡ None) ↔ EachPasses test xs

-- what a scan finds is the first that fails
abbrev pub ScansAreFirst : Type 0 → Type 0
ScansAreFirst X = (test : List X → X → Bool) (xs : List X) (i : ℕ) → first_failing test [] xs ≡ Some i → IsFirst test xs i
