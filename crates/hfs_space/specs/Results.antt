-- What an answer gives where it is no error.
use Rattle.std.specs.Prelude.{◌≡◌, List, Result, IfOk}
use Rattle.std.proofs.Common.{Vec, Global}

-- an answer that is no error is this
abbrev pub Gives : {A E : Type 0} → A → Result A E → Type 0
Gives x result = IfOk result (λ y. y ≡ x)

-- an answer that is no error has these elements
abbrev pub GivesItems : {A E : Type 0} → List A → Result (Vec A Global) E → Type 0
GivesItems xs result = IfOk result (λ v. v.items ≡ xs)
