-- A root that gave way to its only child, and a tree's only leaf, given back: the tree gains nothing.
use Rattle.std.proofs.Common.{◌≡◌, ◌≢◌, ℕ, List, [], ◌∷◌, ◌++◌, sym, ap, ◌∙◌, subst, inl, inr}
use Rattle.hfs_btree.specs.Laid.{IsZeroFrom}
use Rattle.hfs_btree.specs.declared.key.Key.{Ghosts}
use Rattle.hfs_fields.specs.Each.{Each}
use Rattle.hfs_fields.proofs.ElementLemmas.{each-left, each-right}
use Rattle.hfs_fields.specs.Members.{In}
use Rattle.hfs_btree.specs.Tree.{Store}
use Rattle.hfs_btree.specs.Header.{header_in, map_nodes, own_nodes, tree_nodes}
use Rattle.hfs_btree.specs.Sound.{IsOther, IsSound}
use Rattle.hfs_btree_edits.proofs.HeadedLemmas.{map_nodes-is}
use Rattle.hfs_btree_edits.specs.KeptKeys.{tree_keys, EachKey}
use Rattle.hfs_btree_edits.proofs.LevelPartLemmas.{numbers}
use Rattle.hfs_btree_edits.specs.Stored.{IsReleased}
use Rattle.hfs_btree_edits.proofs.ReleasedLemmas.{released-turn}
use Rattle.hfs_btree_edits.specs.Stored.{bytes_in}
use Rattle.hfs_btree_removal.proofs.RemovalLemmas.{IsLowered, IsEmptied}
use Rattle.hfs_btree_removal.specs.Removal.{GainsNothing}
use Rattle.hfs_btree_removal.proofs.Composed.{not-other}
use Rattle.hfs_btree_removal.proofs.Emptied.{emptied-sound, emptied-keys, old-nodes as leaf-was, new-nodes as leaf-is}
use Rattle.hfs_btree_removal.proofs.KeysKept.{keys-then, released-keys}
use Rattle.hfs_btree_removal.proofs.Lowered.{lowered-sound, lowered-keys, old-nodes, new-nodes}

-- node r left the levels, the header record was written, and then the node was given back
module _ {K : Type 0} (g : Ghosts K) (old mid new : Store) (r : ℕ) (ns : List ℕ) (was : tree_nodes g old ≡ r ∷ ns) (is : tree_nodes g mid ≡ ns) (maps : map_nodes mid ≡ map_nodes old)
    (put : (m : ℕ) → m ≢ 0 → bytes_in mid m ≡ bytes_in old m) (keys : EachKey g (λ k. In k (tree_keys g old)) mid) (free : IsReleased g r mid new) (sound : IsSound g mid) where
  now : tree_nodes g new ≡ ns
  now = ap numbers (released-turn g r mid new free sound) ∙ is

  fewer : (m : ℕ) → Each (IsOther m) (tree_nodes g old) → Each (IsOther m) (tree_nodes g new)
  fewer m o = let P : List ℕ → Type 0 = λ xs. Each (IsOther m) xs in subst P (sym now) (subst P was o).1

  blank : (m : ℕ) → In m (tree_nodes g old) → Each (IsOther m) (tree_nodes g new) → IsZeroFrom 0 512 (bytes_in new m)
  blank m i o =
      let P : List ℕ → Type 0 = λ xs. In m xs in
      let Q : List ℕ → Type 0 = λ xs. Each (IsOther m) xs in
      let R : ℕ → Type 0 = λ x. IsZeroFrom 0 512 (bytes_in new x) in
      elim (subst P was i) [ inl e ↦ subst R e free.blank | inr j ↦ absurd (not-other m ns j (subst Q now o)) ]

  rest : (m : ℕ) → Each (IsOther m) (own_nodes old ++ tree_nodes g old) → bytes_in new m ≡ bytes_in old m
  rest m o =
      let P : List ℕ → Type 0 = λ xs. Each (IsOther m) xs in
      let Q : List ℕ → Type 0 = λ xs. Each (IsOther m) (0 ∷ xs) in
      let own = each-left (IsOther m) (own_nodes old) (tree_nodes g old) o in
      let levels = subst P was (each-right (IsOther m) (own_nodes old) (tree_nodes g old) o) in
      free.bytes m (λ e. levels.0 (sym e)) (subst Q (sym maps) own) ∙ put m (λ e. own.0 (sym e))

  left-gains : GainsNothing g old new
  left-gains = record { keys = keys-then g old mid new keys (released-keys g r mid new free sound); nodes = fewer; blank = blank; rest = rest }

module _ {K : Type 0} (g : Ghosts K) (old mid new : Store) (put : (m : ℕ) → m ≢ 0 → bytes_in mid m ≡ bytes_in old m) (free : IsReleased g (header_in old).root mid new) (sound : IsSound g old) where
  pub lowered-gains : (k : ℕ) → IsLowered g old mid k → GainsNothing g old new
  lowered-gains k low =
      left-gains g old mid new (header_in old).root _ (old-nodes g old mid k low sound) (new-nodes g old mid k low sound) (map_nodes-is g old mid low.head) put (lowered-keys g old mid k low sound) free (lowered-sound g old mid k low sound)

  pub emptied-gains : IsEmptied g old mid → GainsNothing g old new
  emptied-gains d =
      left-gains g old mid new (header_in old).root [] (leaf-was g old mid d sound) (leaf-is g old mid d sound) (map_nodes-is g old mid d.head) put (emptied-keys g old mid d sound) free (emptied-sound g old mid d sound)
