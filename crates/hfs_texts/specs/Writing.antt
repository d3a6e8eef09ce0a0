-- What a writer is given.
use Rattle.std.specs.Prelude.{◌≢◌, ℕ, List, take, Option, Result, Err, OnErr}
use Rattle.std.specs.Io.KnownBytes.{Appends}

-- known bytes grow by a part of these, from the first on: all of them, some, or none
abbrev pub AppendsFront : Option (List ℕ) → Option (List ℕ) → List ℕ → Type 0
AppendsFront old new bytes = (n : ℕ) × Appends old new (take n bytes)

-- at an error other than this one
abbrev pub OnOtherErr : {A E : Type 0} → Result A E → E → Type 0 → Type 0
OnOtherErr result fault Fact = OnErr result (result ≢ Err fault → Fact)
