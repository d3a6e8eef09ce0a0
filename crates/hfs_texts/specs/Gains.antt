-- Texts that grow.
use Rattle.std.specs.Prelude.{◌≡◌, ℕ, List, ◌++◌, String, string_bytes}

-- a text grows by these bytes
abbrev pub Gains : {Z : Type 0} → String Z → String Z → List ℕ → Type 0
Gains old new bytes = string_bytes new ≡ string_bytes old ++ bytes
