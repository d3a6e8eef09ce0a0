-- Look-ups in pairs of which a part lies below or above the key.
use Rattle.std.proofs.Common.{ℕ, List, [], ◌∷◌, Option, Some, None}
use Rattle.hfs_btree.specs.Pairs.{Pairs}

-- the first pair
abbrev pub first_pair : {K : Type 0} → Pairs K → Option (K × List ℕ)
first_pair [] = None
first_pair (p ∷ ps) = Some p
