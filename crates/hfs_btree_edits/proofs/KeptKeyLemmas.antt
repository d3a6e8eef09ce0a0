-- Lemmas about the definitions of specs/KeptKeys.antt.
use Rattle.std.proofs.Common.{sym, subst, inl, inr}
use Rattle.std.specs.Prelude.{List, [], ◌∷◌, refl}
use Rattle.std.specs.List.{flat_map}
use Rattle.hfs_btree.specs.declared.key.Key.{Ghosts}
use Rattle.hfs_fields.specs.Each.{Each}
use Rattle.hfs_fields.specs.Members.{In}
use Rattle.hfs_fields.proofs.MemberLemmas.{each_in}
use Rattle.hfs_fields.proofs.ElementLemmas.{each-append, each-left, each-right, each-mono, each-map, each-unmap}
use Rattle.hfs_btree.specs.Tree.{Store, Spot, records_in}
use Rattle.hfs_btree.specs.Header.{tree_turn}
use Rattle.hfs_btree.specs.Tree.{key_at}
use Rattle.hfs_btree_edits.specs.KeptKeys.{keys_at, tree_keys, EachKey, IsKeyOr}

-- ---- elements of a list

pub each-among : {X : Type 0} (xs : List X) → Each (λ x. In x xs) xs
each-among [] = tt
each-among (x ∷ xs) = (inl refl, each-mono (λ y. In y xs) (λ y. In y (x ∷ xs)) xs (λ y is. inr is) (each-among xs))

module _ {K : Type 0} (g : Ghosts K) (nodes : Store) where
  keys-each : (P : K → Type 0) (ss : List Spot) → Each (λ spot. Each (λ entry. P (key_at g spot.above entry)) (records_in nodes spot.n)) ss → Each P (flat_map (keys_at g nodes) ss)
  keys-each P [] h = tt
  keys-each P (s ∷ ss) h =
      each-append P (keys_at g nodes s) (flat_map (keys_at g nodes) ss) (each-map P (key_at g s.above) (records_in nodes s.n) h.0) (keys-each P ss h.1)

  each-keys : (P : K → Type 0) (ss : List Spot) → Each P (flat_map (keys_at g nodes) ss) → Each (λ spot. Each (λ entry. P (key_at g spot.above entry)) (records_in nodes spot.n)) ss
  each-keys P [] h = tt
  each-keys P (s ∷ ss) h = (
    each-unmap P (key_at g s.above) (records_in nodes s.n) (each-left P (keys_at g nodes s) (flat_map (keys_at g nodes) ss) h),
    each-keys P ss (each-right P (keys_at g nodes s) (flat_map (keys_at g nodes) ss) h),
  )

  -- each key of a tree is a key of it
  pub own-keys : EachKey g (λ k. In k (tree_keys g nodes)) nodes
  own-keys = each-keys (λ k. In k (tree_keys g nodes)) (tree_turn g nodes) (each-among (tree_keys g nodes))

  pub key-holds : (P : K → Type 0) → EachKey g P nodes → (k : K) → In k (tree_keys g nodes) → P k
  key-holds P h k is = each_in P (tree_keys g nodes) k (keys-each P (tree_turn g nodes) h) is

-- ---- two trees

module _ {K : Type 0} (g : Ghosts K) (old new : Store) where
  pub each-key-mono : (P Q : K → Type 0) → ((k : K) → P k → Q k) → EachKey g P new → EachKey g Q new
  each-key-mono P Q f =
      each-mono (λ (spot : Spot). Each (λ entry. P (key_at g spot.above entry)) (records_in new spot.n)) (λ (spot : Spot). Each (λ entry. Q (key_at g spot.above entry)) (records_in new spot.n))
      (tree_turn g new) (λ spot. each-mono (λ entry. P (key_at g spot.above entry)) (λ entry. Q (key_at g spot.above entry)) (records_in new spot.n) (λ entry. f (key_at g spot.above entry)))

  -- a fact about each key of the old tree holds of each key of the new one
  pub keys-hold : EachKey g (λ k. In k (tree_keys g old)) new → (P : K → Type 0) → EachKey g P old → EachKey g P new
  keys-hold h P was = each-key-mono (λ k. In k (tree_keys g old)) P (key-holds g old P was) h

  pub hold-keys : ((P : K → Type 0) → EachKey g P old → EachKey g P new) → EachKey g (λ k. In k (tree_keys g old)) new
  hold-keys f = f (λ k. In k (tree_keys g old)) (own-keys g old)

  module _ (key : K) where
    -- the same with one key more
    pub keys-hold_with : EachKey g (IsKeyOr g old key) new → (P : K → Type 0) → EachKey g P old → P key → EachKey g P new
    keys-hold_with h P was own = each-key-mono (IsKeyOr g old key) P (λ k is. holds-or P was own k is) h
      where
        holds-or : (P : K → Type 0) → EachKey g P old → P key → (k : K) → IsKeyOr g old key k → P k
        holds-or P was own k (inl e) = subst P (sym e) own
        holds-or P was own k (inr is) = key-holds g old P was k is

    pub hold-keys_with : ((P : K → Type 0) → EachKey g P old → P key → EachKey g P new) → EachKey g (IsKeyOr g old key) new
    hold-keys_with f =
        f (IsKeyOr g old key)
        (each-mono (λ (spot : Spot). Each (λ entry. In (key_at g spot.above entry) (tree_keys g old)) (records_in old spot.n))
        (λ (spot : Spot). Each (λ entry. IsKeyOr g old key (key_at g spot.above entry)) (records_in old spot.n)) (tree_turn g old)
        (λ spot. each-mono (λ entry. In (key_at g spot.above entry) (tree_keys g old)) (λ entry. IsKeyOr g old key (key_at g spot.above entry)) (records_in old spot.n) (λ entry is. inr is)) (own-keys g old))
        (inl refl)
