-- Lemmas about the definitions of specs/MapPlaces.antt.
use Rattle.std.specs.Prelude.{◌≡◌, ℕ, List, ◌∷◌, ◌++◌}
use Rattle.hfs_btree.specs.Tree.{Store, node_in, forward_of}
use Rattle.hfs_btree.specs.Header.{chain_from, own_nodes}
use Rattle.hfs_btree_edits.specs.MapPlaces.{entry_of, bits_of}

-- node `at` has a part of the map, behind so many bits of others, and at most so many nodes follow
pub record IsPart (nodes : Store) (most at entry before : ℕ) : Type 0 where
  pub done : List ℕ
  pub split : own_nodes nodes ≡ done ++ at ∷ chain_from nodes most (forward_of (node_in nodes at))
  pub which : entry ≡ entry_of at
  pub bits : before ≡ bits_of nodes done
