-- The levels of a tree above one of them, and levels of two stores of which only some nodes differ.
use Rattle.std.proofs.Common.{ℕ, zero, suc, List}
use Rattle.hfs_btree.specs.declared.key.Key.{Ghosts}

-- so many more, as levels are counted
abbrev pub lift : ℕ → ℕ → ℕ
lift zero k = k
lift (suc i) k = suc (lift i k)

-- the key of a record of a node so many levels above the leaves
abbrev pub entry_key : {K : Type 0} → Ghosts K → ℕ → List ℕ → K
entry_key g zero = g.leaf_key
entry_key g (suc k) = g.index_key
