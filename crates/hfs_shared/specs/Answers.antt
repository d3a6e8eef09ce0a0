-- What calls answer by yes or no.
use Rattle.std.specs.Prelude.{◌≡◌, ◌<◌, Bool, MatchBool, List, length}
use mathlib.Core.List.{IsPrefix}

-- where the answer is yes, all was done and the new state is this one; else nothing was, and it is the old one
abbrev pub IsAllOrNothing : {S : Type 0} → Bool → S → S → S → Type 0
IsAllOrNothing answer done old new = MatchBool answer (new ≡ done) (new ≡ old)

-- the answer is whether the one list begins the other, and where it doesn't, the other is shorter
abbrev pub IsWhetherPrefix : {A : Type 0} → Bool → List A → List A → Type 0
IsWhetherPrefix answer xs ys = MatchBool answer (IsPrefix xs ys) (length ys < length xs)
