-- Pieces of a page that grow.
use Rattle.std.specs.Prelude.{◌≡◌, ℕ, List, ◌++◌}
use Rattle.std.proofs.Common.{Vec, Global}

-- a piece grows by these bytes
abbrev pub Gains : Vec ℕ Global → Vec ℕ Global → List ℕ → Type 0
Gains old new bytes = new.items ≡ old.items ++ bytes
