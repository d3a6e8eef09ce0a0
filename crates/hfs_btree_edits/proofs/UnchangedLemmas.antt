-- Levels whose nodes are all the same.
use Rattle.std.proofs.Common.{◌≡◌, ℕ, zero, suc, List, [], ◌∷◌, map, get_or, refl, sym, ap, ◌∙◌, subst, arith}
use Rattle.std.specs.List.{flat_map}
use Rattle.std.specs.declared.cmp.Ordering.TheVariants.{Equal}
use Rattle.hfs_btree.specs.declared.key.Key.{Ghosts}
use Rattle.hfs_fields.specs.Each.{Each}
use Rattle.hfs_fields.proofs.ElementLemmas.{each-mono, each-left}
use Rattle.hfs_btree.specs.Tree.{Store, Spot, node_in, records_in, records_of, children, pair_of, pairs, spots, turn, last_level}
use Rattle.hfs_btree.specs.Header.{header_in}
use Rattle.hfs_btree.specs.Sound.{IsMarked, IsRight, AreKeysInOrder, AreKeysExact, first_key}
use Rattle.hfs_btree.proofs.LevelLemmas.{each-spots}
use Rattle.hfs_fields.proofs.PartLemmas.{flat_map-same}
use Rattle.hfs_btree_edits.proofs.TurnLemmas.{HasSameChildren, last-same}
use Rattle.hfs_btree_edits.proofs.EditedOrderLemmas.{turn-step}
use Rattle.hfs_btree_edits.proofs.LevelPartLemmas.{KeepsAt, KeepsRecords, turn-kept, turn-keyed}

-- the node at the spot is the same, and is marked
pub record IsUnchanged (old new : Store) (spot : Spot) : Type 0 where
  pub same : node_in new spot.n ≡ node_in old spot.n
  pub marked : IsMarked new spot.n

module _ {K : Type 0} (g : Ghosts K) (old new : Store) (d : ℕ) (ns : List ℕ) (same : Each (IsUnchanged old new) (turn g old d ns)) where
  keeps : Each (KeepsAt g old new) (turn g old d ns)
  keeps = each-mono (IsUnchanged old new) (KeepsAt g old new) (turn g old d ns) (λ s u. ap records_of u.same) same

  pub turn-unchanged : turn g new d ns ≡ turn g old d ns
  turn-unchanged = turn-kept g old new d ns keeps

  pub last-unchanged : last_level g new d ns ≡ last_level g old d ns
  last-unchanged = last-same g old new d ns (each-mono (KeepsAt g old new) (HasSameChildren g old new) (turn g old d ns) (λ s e some. ap (map g.child) e) keeps)

  right-at : (count : (header_in new).nodes ≡ (header_in old).nodes) (s : Spot) → IsUnchanged old new s → IsRight g old s → IsRight g new s
  right-at count s u r = record {
    within = (r.within.0, let lt = r.within.1 in omega arith);
    value = r.value;
    decodes = u.same ∙ r.decodes;
    kind = r.kind;
    height = r.height;
    some = r.some;
    left = r.left;
    right = r.right;
    whole = r.whole;
    marked = u.marked;
  }

  rights_by : (count : (header_in new).nodes ≡ (header_in old).nodes) (ss : List Spot) → Each (IsUnchanged old new) ss → Each (IsRight g old) ss → Each (IsRight g new) ss
  rights_by count [] u h = tt
  rights_by count (s ∷ ss) u h = (right-at count s u.0 h.0, rights_by count ss u.1 h.1)

  pub rights-unchanged : (header_in new).nodes ≡ (header_in old).nodes → Each (IsRight g old) (turn g old d ns) → Each (IsRight g new) (turn g new d ns)
  rights-unchanged count h = let P : List Spot → Type 0 = λ ss. Each (IsRight g new) ss in subst P (sym turn-unchanged) (rights_by count (turn g old d ns) same h)

  pub keyed-unchanged : Each (λ s. AreKeysInOrder g old s.above s.n) (turn g old d ns) → Each (λ s. AreKeysInOrder g new s.above s.n) (turn g new d ns)
  keyed-unchanged h = let P : List Spot → Type 0 = λ ss. Each (λ s. AreKeysInOrder g new s.above s.n) ss in subst P (sym turn-unchanged) (turn-keyed g old new d ns keeps h)

  -- ---- first keys

  abbrev SameFirst : ℕ → ℕ → Type 0
  SameFirst k n = first_key g new k n ≡ first_key g old k n

  first-at : (k n : ℕ) → records_in new n ≡ records_in old n → SameFirst k n
  first-at zero n e = ap (λ (rs : List (List ℕ)). g.leaf_key (get_or rs 0 [])) e
  first-at (suc k) n e = ap (λ (rs : List (List ℕ)). g.index_key (get_or rs 0 [])) e

  firsts : (k : ℕ) (ms : List ℕ) → Each (KeepsAt g old new) (turn g old (suc k) ms) → Each (SameFirst k) ms
  firsts k ms h =
      each-spots (KeepsAt g old new) (SameFirst k) k (λ l n r e. first-at k n e) 0 ms (each-left (KeepsAt g old new) (spots k 0 ms) (turn g old k (flat_map (children g old) ms)) h)

  abbrev Exact : Spot → Type 0
  Exact s = AreKeysExact g old s.above s.n

  abbrev Exact' : Spot → Type 0
  Exact' s = AreKeysExact g new s.above s.n

  each-exact : (k : ℕ) (rs : List (List ℕ)) → Each (SameFirst k) (map g.child rs) → Each (λ e. g.compare (g.index_key e) (first_key g old k (g.child e)) ≡ Equal) rs
      → Each (λ e. g.compare (g.index_key e) (first_key g new k (g.child e)) ≡ Equal) rs
  each-exact k [] f h = tt
  each-exact k (e ∷ rs) f h = (ap (g.compare (g.index_key e)) f.0 ∙ h.0, each-exact k rs f.1 h.1)

  exact-step : (k l n r : ℕ) → KeepsAt g old new (record { left = l; n = n; right = r; above = suc k }) → Each (SameFirst k) (children g old n)
      → Exact (record { left = l; n = n; right = r; above = suc k }) → Exact' (record { left = l; n = n; right = r; above = suc k })
  exact-step k l n r e f h =
      let P : List (List ℕ) → Type 0 = λ rs. Each (λ e. g.compare (g.index_key e) (first_key g new k (g.child e)) ≡ Equal) rs in
      subst P (sym e) (each-exact k (records_in old n) f h)

  pub exact-unchanged : Each Exact (turn g old d ns) → Each Exact' (turn g new d ns)
  exact-unchanged h =
      let P : List Spot → Type 0 = λ ss. Each Exact' ss in
      subst P (sym turn-unchanged) (turn-step g old (KeepsAt g old new) Exact Exact' SameFirst firsts (λ l n r e x. tt) exact-step d ns keeps h)

-- the pairs of leaves that are the same
pub pairs-unchanged : {K : Type 0} (g : Ghosts K) (old new : Store) (ns : List ℕ) → Each (KeepsRecords g old new) ns → flat_map (pairs g new) ns ≡ flat_map (pairs g old) ns
pairs-unchanged g old new ns h = flat_map-same (pairs g new) (pairs g old) ns (each-mono (KeepsRecords g old new) _ ns (λ n e. ap (map (pair_of g)) e) h)

module _ {K : Type 0} (g : Ghosts K) (old new : Store) where
  last-records : (k : ℕ) (ns : List ℕ) → Each (IsUnchanged old new) (turn g old (suc k) ns) → Each (KeepsRecords g old new) (Rattle.hfs_btree.specs.Tree.level_below g old k ns)
  last-records zero ns h = each-spots (IsUnchanged old new) (KeepsRecords g old new) zero (λ l n r u. ap records_of u.same) 0 ns (each-left (IsUnchanged old new) (spots zero 0 ns) [] h)
  last-records (suc k) ns h =
      last-records k (flat_map (children g old) ns) (Rattle.hfs_fields.proofs.ElementLemmas.each-right (IsUnchanged old new) (spots (suc k) 0 ns) (turn g old (suc k) (flat_map (children g old) ns)) h)

  pub content-unchanged : (d : ℕ) (ns : List ℕ) → Each (IsUnchanged old new) (turn g old d ns) → flat_map (pairs g new) (last_level g new d ns) ≡ flat_map (pairs g old) (last_level g old d ns)
  content-unchanged zero ns h = refl
  content-unchanged (suc k) ns h =
      ap (flat_map (pairs g new)) (last-unchanged g old new (suc k) ns h) ∙ pairs-unchanged g old new (Rattle.hfs_btree.specs.Tree.level_below g old k ns) (last-records k ns h)
