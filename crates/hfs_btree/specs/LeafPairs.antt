-- Pairs of one leaf, by its bytes.
use Rattle.std.specs.Prelude.{◌≡◌, ℕ, List, Option, drop}
use Rattle.hfs_btree.specs.declared.key.Key.{Ghosts}
use Rattle.hfs_btree.specs.Lookups.{first_pair}
use Rattle.hfs_btree.specs.Pairs.{lookup, after, pairs_from}
use Rattle.hfs_btree.specs.Tree.{pairs_of}

-- the body under a key
abbrev pub leaf_body : {K : Type 0} → Ghosts K → List ℕ → K → Option (List ℕ)
leaf_body g bytes key = lookup g.compare key (pairs_of g bytes)

-- the first pair whose key is above this one
abbrev pub leaf_after : {K : Type 0} → Ghosts K → List ℕ → K → Option (K × List ℕ)
leaf_after g bytes key = after g.compare key (pairs_of g bytes)

-- the first pair
abbrev pub leaf_first : {K : Type 0} → Ghosts K → List ℕ → Option (K × List ℕ)
leaf_first g bytes = first_pair (pairs_of g bytes)

-- from this place on are the pairs whose keys aren't below the key
abbrev pub IsPlaceFrom : {K : Type 0} → Ghosts K → List ℕ → K → ℕ → Type 0
IsPlaceFrom g bytes key place = drop place (pairs_of g bytes) ≡ pairs_from g.compare key (pairs_of g bytes)
