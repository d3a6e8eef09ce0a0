-- Lemmas about the definitions of specs/Search.antt.
use Rattle.std.specs.Prelude.{◌≡◌, ℕ, List, ◌∷◌, ◌++◌}
use Rattle.std.specs.List.{flat_map}
use Rattle.hfs_btree.specs.declared.key.Key.{Ghosts}
use Rattle.hfs_btree.specs.Pairs.{IsAbove}
use Rattle.hfs_btree.proofs.PairLemmas.{IsBelow}
use Rattle.hfs_btree.specs.Tree.{Store, pairs}
use Rattle.hfs_btree.specs.Header.{leaves}

-- the leaves before this one have only pairs below the key, and those behind it only pairs above
pub record IsLeafFor {K : Type 0} (g : Ghosts K) (nodes : Store) (key : K) (n : ℕ) : Type 0 where
  pub before : List ℕ
  pub behind : List ℕ
  pub split : leaves g nodes ≡ before ++ n ∷ behind
  pub below : IsAbove g.compare key (flat_map (pairs g nodes) before)
  pub above : IsBelow g.compare key (flat_map (pairs g nodes) behind)
