-- What an answer gives where it is no error.
use Rattle.std.specs.Prelude.{◌≡◌, ◌++◌, List, Result, IfOk}
use Rattle.std.proofs.Common.{Vec, Global}

-- an answer that is no error has these elements
abbrev pub GivesItems : {A E : Type 0} → List A → Result (Vec A Global) E → Type 0
GivesItems xs result = IfOk result (λ v. v.items ≡ xs)

-- an answer that is no error has the old elements, and these after them
abbrev pub GainsItems : {A E : Type 0} → Vec A Global → List A → Result (Vec A Global) E → Type 0
GainsItems old xs result = IfOk result (λ v. v.items ≡ old.items ++ xs)
