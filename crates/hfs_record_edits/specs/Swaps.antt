-- One element that is taken out of a list, is put into it, or takes the place of another.
use Rattle.std.proofs.Common.{◌≡◌, ℕ, Bool, cond, List, [], ◌∷◌, ◌++◌, Option, Some, None}

-- an element, or none
abbrev pub list_of : {X : Type 0} → Option X → List X
list_of None = []
list_of (Some x) = x ∷ []

-- at one place of the list the one was and the other is
pub record Swaps {X : Type 0} (went come : Option X) (old new : List X) : Type 0 where
  pub before : List X
  pub behind : List X
  pub was : old ≡ before ++ (list_of went ++ behind)
  pub is : new ≡ before ++ (list_of come ++ behind)

abbrev pub one_if : Bool → ℕ
one_if b = cond b 1 0
