-- How many times a block is owned.
use Rattle.std.proofs.Common.{ℕ, List, ◌++◌, ◌≡◌, ◌+◌, cond, eqb}
use Rattle.hfs_space.specs.Owners.{owners}
use Rattle.std.proofs.lemmas.List.Sums.{sum_by-append}

pub append : (b : ℕ) (xs ys : List ℕ) → owners (xs ++ ys) b ≡ owners xs b + owners ys b
append b xs ys = sum_by-append (λ (o : ℕ). cond (eqb o b) 1 0) xs ys
