-- What holds of results and of the first elements of a list.
use Rattle.std.proofs.Common.{ℕ, zero, suc, ◌≤◌, List, [], ◌∷◌, take, Result, Ok, Err, OnOk, arith}
use Rattle.hfs_fields.specs.Each.{Each}

pub each-take : (P : ℕ → Type 0) (a b : ℕ) (xs : List ℕ) → a ≤ b → Each P (take b xs) → Each P (take a xs)
each-take P zero b xs le h = tt
each-take P (suc a) zero xs le h = absurd (omega (arith, le))
each-take P (suc a) (suc b) [] le h = tt
each-take P (suc a) (suc b) (x ∷ xs) le h = (h.0, each-take P a b xs (omega (arith, le)) h.1)
