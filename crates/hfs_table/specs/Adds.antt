-- What a writer of JSON is given.
use Rattle.std.specs.Prelude.{◌≡◌, List, ◌++◌, Result, OnOk}
use Rattle.json.specs.Token.{Token}
use Rattle.json.specs.Written.{Written}

-- tokens follow those that it has, and what was before the first stays
abbrev pub Adds : {E : Type 0} → Result (Unit {0}) E → Written → Written → List Token → Type 0
Adds result old new tokens = OnOk result ((new.before ≡ old.before) × (new.tokens ≡ old.tokens ++ tokens))
