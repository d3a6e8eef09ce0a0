-- How many allocation blocks so many nodes can take.
use Rattle.std.specs.Prelude.{ℕ, ◌+◌, ◌-◌, ◌/◌, ◌≤◌}
use Rattle.std.proofs.Math.Nat.{div-le_self}

pub few_blocks : (factor nodes : ℕ) → (nodes + (factor - 1)) / factor ≤ nodes + (factor - 1)
few_blocks factor nodes = div-le_self (nodes + (factor - 1)) factor
