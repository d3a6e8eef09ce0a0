-- A tree that gains nothing by an edit, nor by two of them.
use Rattle.std.proofs.Common.{◌≡◌, ℕ, List, ◌∷◌, ◌++◌, refl, sym, ◌∙◌, subst, true, false, inl, inr}
use Rattle.hfs_btree.specs.Laid.{IsZeroFrom}
use Rattle.hfs_btree.specs.declared.key.Key.{Ghosts}
use Rattle.hfs_fields.specs.Each.{Each}
use Rattle.hfs_fields.proofs.ElementLemmas.{each-mono, each-append, each-left, each-right, each-map}
use Rattle.hfs_fields.specs.Members.{In}
use Rattle.hfs_fields.proofs.MemberLemmas.{each_in}
use Rattle.hfs_btree.specs.Tree.{Store, Spot}
use Rattle.hfs_btree.specs.Header.{map_nodes, own_nodes, is_marked, tree_turn, tree_nodes}
use Rattle.hfs_btree.specs.Sound.{IsOther, IsRight, IsMarked, IsSound}
use Rattle.hfs_btree_edits.specs.Edits.{KeepsTree}
use Rattle.hfs_btree_edits.proofs.KeptKeyLemmas.{own-keys, each-among}
use Rattle.hfs_btree_edits.proofs.ReleasedLemmas.{apart}
use Rattle.hfs_btree_edits.specs.Stored.{bytes_in}
use Rattle.hfs_btree_removal.specs.Removal.{KeepsSound, GainsNothing}
use Rattle.hfs_btree_removal.proofs.Composed.{either, not-other}
use Rattle.hfs_btree_removal.proofs.KeysKept.{keys-then}

module _ {K : Type 0} (g : Ghosts K) where
  pub gains-none : (nodes : Store) → GainsNothing g nodes nodes
  gains-none nodes = record {
    keys = own-keys g nodes;
    nodes = λ m o. o;
    blank = λ m i o. absurd (not-other m (tree_nodes g nodes) i o);
    rest = λ m o. refl;
  }

  -- a node of the levels is neither the header node nor a map node
  pub never-own : (nodes : Store) → IsSound g nodes → (m : ℕ) → In m (tree_nodes g nodes) → Each (IsOther m) (own_nodes nodes)
  never-own nodes sound m i =
      each_in (λ n. Each (IsOther n) (own_nodes nodes)) (tree_nodes g nodes) m (apart (own_nodes nodes) (tree_nodes g nodes) sound.structure.levels.different) i

  module _ (old mid new : Store) (sound : IsSound g old) (maps : map_nodes mid ≡ map_nodes old) (a : GainsNothing g old mid) (b : GainsNothing g mid new) where
    own-on : (m : ℕ) → Each (IsOther m) (own_nodes old) → Each (IsOther m) (own_nodes mid)
    own-on m o = let P : List ℕ → Type 0 = λ ns. Each (IsOther m) (0 ∷ ns) in subst P (sym maps) o

    later : (m : ℕ) → Each (IsOther m) (own_nodes old) → Each (IsOther m) (tree_nodes g mid) → bytes_in new m ≡ bytes_in mid m
    later m own o = b.rest m (each-append (IsOther m) (own_nodes mid) (tree_nodes g mid) (own-on m own) o)

    blank-then : (m : ℕ) → In m (tree_nodes g old) → Each (IsOther m) (tree_nodes g new) → IsZeroFrom 0 512 (bytes_in new m)
    blank-then m i o =
        elim (either m (tree_nodes g mid)) [
          | inl j ↦ b.blank m j o
          | inr p ↦
              (let P : List ℕ → Type 0 = λ bs. IsZeroFrom 0 512 bs in
              subst P (sym (later m (never-own old sound m i) p)) (a.blank m i p))
        ]

    pub gains-then : GainsNothing g old new
    gains-then = record {
      keys = keys-then g old mid new a.keys b.keys;
      nodes = λ m o. b.nodes m (a.nodes m o);
      blank = blank-then;
      rest = λ m o. later m (each-left (IsOther m) (own_nodes old) (tree_nodes g old) o) (a.nodes m (each-right (IsOther m) (own_nodes old) (tree_nodes g old) o)) ∙ a.rest m o;
    }

  module _ (old new : Store) (keeps : KeepsSound g old new) (gains : GainsNothing g old new) where
    pub gains-keeps : KeepsTree g old new
    gains-keeps = record {
      sound = keeps.sound;
      exact = keeps.exact;
      frame = keeps.frame;
      free = keeps.free;
      rest = λ n o.
          gains.rest n
          (each-append (IsOther n) (own_nodes old) (tree_nodes g old) (each-left (IsOther n) (own_nodes old) (tree_nodes g old ++ tree_nodes g new) o)
          (each-left (IsOther n) (tree_nodes g old) (tree_nodes g new) (each-right (IsOther n) (own_nodes old) (tree_nodes g old ++ tree_nodes g new) o)));
    }

    -- each node of the levels is marked
    all-marked : Each (IsMarked new) (tree_nodes g new)
    all-marked = each-map (IsMarked new) (λ (s : Spot). s.n) (tree_turn g new) (each-mono (IsRight g new) (λ (s : Spot). IsMarked new s.n) (tree_turn g new) (λ s r. r.marked) keeps.sound.structure.levels.each)

    both-marks : (m : ℕ) → is_marked new m ≡ true → is_marked new m ≡ false → ⊥
    both-marks m a b = let bad : true ≡ false = sym a ∙ b in cc

    blank-at : (m : ℕ) → In m (tree_nodes g old) → is_marked new m ≡ false → IsZeroFrom 0 512 (bytes_in new m)
    blank-at m i clear =
        elim (either m (tree_nodes g new)) [
          | inl j ↦ absurd (both-marks m (each_in (IsMarked new) (tree_nodes g new) m all-marked j) clear)
          | inr o ↦ gains.blank m i o
        ]

    pub gains-blank : Each (λ n. is_marked new n ≡ false → IsZeroFrom 0 512 (bytes_in new n)) (tree_nodes g old)
    gains-blank = each-mono (λ n. In n (tree_nodes g old)) (λ n. is_marked new n ≡ false → IsZeroFrom 0 512 (bytes_in new n)) (tree_nodes g old) blank-at (each-among (tree_nodes g old))
