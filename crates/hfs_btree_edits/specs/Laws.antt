-- What follows of edits.
use Rattle.std.specs.Prelude.{◌≡◌, ℕ, ◌+◌, ◌≤◌, Bool, true, List}
use Rattle.hfs_btree.specs.declared.key.Key.{Ghosts}
use Rattle.hfs_btree.specs.Tree.{Store}
use Rattle.hfs_btree.specs.Header.{header_in, depth_of, free_nodes}
use Rattle.hfs_btree.specs.Sound.{IsSound}
use Rattle.hfs_btree_edits.specs.Edits.{HasInserted, KeepsTree}
use Rattle.hfs_btree_edits.specs.KeptKeys.{EachKey, IsKeyOr}
use Rattle.hfs_btree_edits.specs.Stored.{bytes_in}

-- an insertion takes at most one node in each level, and one for a new root
abbrev pub InsertionsTakeFewNodes : (K : Type 0) → Ghosts K → Type 0
InsertionsTakeFewNodes K g =
    (key : K) (body : List ℕ) (old new : Store) → HasInserted g key body old new
    → (free_nodes old ≤ free_nodes new + depth_of old + 1) × (depth_of new ≡ depth_of old → free_nodes old ≤ free_nodes new + depth_of old)

-- an edit leaves alone what is in the file after the tree's nodes
abbrev pub EditsKeepTheRest : (K : Type 0) → Ghosts K → Type 0
EditsKeepTheRest K g = (old new : Store) → IsSound g old → KeepsTree g old new → (n : ℕ) → (header_in old).nodes ≤ n → bytes_in new n ≡ bytes_in old n

-- what all keys of a tree and a new key pass, all keys of the new tree pass
abbrev pub NewKeysPass : (K : Type 0) → Ghosts K → Type 0
NewKeysPass K g =
    (key : K) (old new : Store) → EachKey g (IsKeyOr g old key) new → (test : K → Bool) → EachKey g (λ k. test k ≡ true) old → test key ≡ true
    → EachKey g (λ k. test k ≡ true) new
