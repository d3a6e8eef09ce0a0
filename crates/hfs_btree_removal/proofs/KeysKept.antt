-- Keys of nodes that keep their records, and of a node that was given back.
use Rattle.std.proofs.Common.{◌≡◌, ℕ, zero, suc, ◌<◌, List, [], ◌∷◌, get_or, refl, sym, ap, subst, arith}
use Rattle.hfs_btree.specs.declared.key.Key.{Ghosts}
use Rattle.hfs_fields.specs.Each.{Each}
use Rattle.hfs_fields.proofs.ElementLemmas.{each-mono, each-at}
use Rattle.hfs_fields.specs.Members.{In}
use Rattle.hfs_btree.specs.Tree.{Store, Spot, records_in, records_of, first_of, key_at, spots}
use Rattle.hfs_btree.specs.Header.{tree_turn}
use Rattle.hfs_btree.specs.Sound.{IsSound, first_key}
use Rattle.hfs_btree_edits.specs.KeptKeys.{tree_keys, EachKey}
use Rattle.hfs_btree_edits.proofs.KeptKeyLemmas.{hold-keys, keys-hold}
use Rattle.hfs_btree_edits.proofs.LevelPartLemmas.{KeepsAt}
use Rattle.hfs_btree_edits.proofs.UnchangedLemmas.{IsUnchanged}
use Rattle.hfs_btree_edits.specs.Stored.{IsReleased}
use Rattle.hfs_btree_edits.proofs.ReleasedLemmas.{released-same, released-turn}

-- the fact holds of the keys of the node at the spot
abbrev pub HaveKeys : {K : Type 0} → Ghosts K → (K → Type 0) → Store → Spot → Type 0
HaveKeys g P nodes spot = Each (λ entry. P (key_at g spot.above entry)) (records_in nodes spot.n)

pub spots-of : (P : Spot → Type 0) (Q : ℕ → Type 0) (k : ℕ) → ((left n right : ℕ) → Q n → P (record { left = left; n = n; right = right; above = k })) → (left : ℕ) (ns : List ℕ) → Each Q ns → Each P (spots k left ns)
spots-of P Q k f left [] h = tt
spots-of P Q k f left (n ∷ ns) h = (f left n (first_of ns) h.0, spots-of P Q k f n ns h.1)

module _ {K : Type 0} (g : Ghosts K) where
  -- a node's first key is one of its keys
  first-at : (k n : ℕ) (nodes : Store) → key_at g k (get_or (records_in nodes n) 0 []) ≡ first_key g nodes k n
  first-at zero n nodes = refl
  first-at (suc k) n nodes = refl

  pub first-has : (P : K → Type 0) (nodes : Store) (spot : Spot) → 0 < Rattle.std.proofs.Common.length (records_in nodes spot.n) → HaveKeys g P nodes spot → P (first_key g nodes spot.above spot.n)
  first-has P nodes spot some h = subst P (first-at spot.above spot.n nodes) (each-at (λ entry. P (key_at g spot.above entry)) (records_in nodes spot.n) 0 [] h some)

  pub keys-then : (old mid new : Store) → EachKey g (λ k. In k (tree_keys g old)) mid → EachKey g (λ k. In k (tree_keys g mid)) new → EachKey g (λ k. In k (tree_keys g old)) new
  keys-then old mid new a b = keys-hold g mid new b (λ k. In k (tree_keys g old)) a

  module _ (P : K → Type 0) (old new : Store) where
    pub kept-has : (spot : Spot) → KeepsAt g old new spot → HaveKeys g P old spot → HaveKeys g P new spot
    kept-has spot e h = let Q : List (List ℕ) → Type 0 = λ rs. Each (λ entry. P (key_at g spot.above entry)) rs in subst Q (sym e) h

    pub all-have : (ss : List Spot) → Each (KeepsAt g old new) ss → Each (HaveKeys g P old) ss → Each (HaveKeys g P new) ss
    all-have [] e h = tt
    all-have (s ∷ ss) e h = (kept-has s e.0 h.0, all-have ss e.1 h.1)

  -- a node that was given back
  pub released-keys : (n : ℕ) (old new : Store) (d : IsReleased g n old new) (sound : IsSound g old) → EachKey g (λ k. In k (tree_keys g old)) new
  released-keys n old new d sound =
      hold-keys g old new
      (λ P h. let Q : List Spot → Type 0 = λ ss. Each (HaveKeys g P new) ss in
      subst Q (sym (released-turn g n old new d sound))
      (all-have P old new (tree_turn g old) (each-mono (IsUnchanged old new) (KeepsAt g old new) (tree_turn g old) (λ s u. ap records_of u.same) (released-same g n old new d sound)) h))
