-- The first element of a list that fails a test, where the test knows the elements before it.
use Rattle.std.specs.Prelude.{◌≡◌, ℕ, ◌<◌, Bool, true, false, if◌then◌else◌, List, [], ◌∷◌, ◌++◌, length, take, slice_index_or, Option, Some, None}

-- its place from 0 on, where these elements precede the list
abbrev pub first_failing : {X : Type 0} → (List X → X → Bool) → List X → List X → Option ℕ
first_failing test before [] = None
first_failing test before (x ∷ xs) = if test before x then first_failing test (before ++ x ∷ []) xs else Some (length before)

-- the element at place i passes
abbrev pub PassesAt : {X : Type 0} → (List X → X → Bool) → List X → ℕ → Type 0
PassesAt {X} test xs i = (d : X) → test (take i xs) (slice_index_or xs i d) ≡ true

-- each element passes
abbrev pub EachPasses : {X : Type 0} → (List X → X → Bool) → List X → Type 0
EachPasses test xs = (i : ℕ) → i < length xs → PassesAt test xs i

-- what a scan finds fails, and each element before it passes
pub record IsFirst {X : Type 0} (test : List X → X → Bool) (xs : List X) (i : ℕ) : Type 0 where
  pub within : i < length xs
  pub fails : (d : X) → test (take i xs) (slice_index_or xs i d) ≡ false
  pub before : (k : ℕ) → k < i → PassesAt test xs k
