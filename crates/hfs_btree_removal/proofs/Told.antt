-- A first key that has changed, told to the node above.
use Rattle.std.proofs.Common.{◌≡◌, ◌≢◌, ℕ, zero, suc, ◌<◌, true, List, [], ◌∷◌, ◌++◌, length, map, get_or, set, take, drop, refl, sym, ap, ◌∙◌, subst, arith}
use Rattle.std.specs.List.{flat_map}
use Rattle.std.specs.Cmp.{IsTotalOrder}
use Rattle.std.specs.Ordering.{is_gt}
use Rattle.std.specs.declared.cmp.Ordering.TheVariants.{Less, Equal}
use Rattle.std.proofs.lemmas.List.{get_or-set_other}
use Rattle.hfs_btree.specs.declared.node.Node.{Node}
use Rattle.hfs_btree.specs.declared.header.Header.{Header}
use Rattle.hfs_btree.specs.declared.key.Key.{Ghosts}
use Rattle.hfs_btree.specs.Pairs.{Order, Pairs, IsAtMost, IsAbove}
use Rattle.hfs_fields.specs.Each.{Each}
use Rattle.hfs_fields.proofs.ElementLemmas.{each-mono, each-append, each-unmap}
use Rattle.hfs_btree.proofs.LookupLemmas.{lt-le}
use Rattle.hfs_btree.specs.Tree.{Store, Spot, records_in, records_of, children, turn, under, level_below}
use Rattle.hfs_btree.specs.Header.{header_in, depth_of, root_level, own_nodes, tree_turn, tree_nodes}
use Rattle.hfs_btree.specs.Sound.{IsDistinct, IsOther, IsRight, IsSound, IsExact, HasStructure, AreKeysExact, ArePartsInOrder, first_key}
use Rattle.hfs_btree_edits.proofs.DistinctLemmas.{other-behind, turn-nodes}
use Rattle.hfs_btree_edits.proofs.EditedLemmas.{IsEdited}
use Rattle.hfs_btree_edits.specs.KeptKeys.{tree_keys}
use Rattle.hfs_btree_edits.proofs.KeptKeyLemmas.{hold-keys, key-holds}
use Rattle.hfs_btree_edits.specs.Stored.{bytes_in}
use Rattle.hfs_fields.specs.Members.{In}
use Rattle.hfs_btree_edits.specs.LevelParts.{lift}
use Rattle.hfs_btree_removal.proofs.Raised.{raised-sound, raised-keys, raised-content, raised-frame, raised-turn, raised-header, raised-free, raised-height}
use Rattle.hfs_btree_removal.proofs.ExactBut.{AreKeysExactFor, IsExactFor, IsExactBut, exact-for}
use Rattle.hfs_btree_edits.proofs.ReleasedLemmas.{each-both}
use Rattle.hfs_btree_removal.proofs.RaisedExact.{raised-exact}
use Rattle.hfs_btree_removal.proofs.NamedOnce.{HavePassing, turn-sons, named-once, own-before, own-behind}
use Rattle.hfs_btree_removal.proofs.Removed.{HasTold}

-- ---- a node's first key is at most the keys under it

module _ {K : Type 0} (cmp : Order K) (total : IsTotalOrder cmp) (own : List ℕ → Pairs K) (key : List ℕ → K) where
  -- a key that is below one that is at most some pairs' is at most theirs
  most-behind : (low high : K) (ps : Pairs K) → cmp low high ≡ Less → IsAtMost cmp high ps → IsAtMost cmp low ps
  most-behind low high ps lt h = each-mono _ _ ps (λ p le. ap is_gt (Rattle.hfs_btree.proofs.LookupLemmas.lt-le cmp total low high p.0 lt le)) h

  past-own : (low high : K) (ps : Pairs K) → 0 < length ps → IsAtMost cmp low ps → IsAbove cmp high ps → cmp low high ≡ Less
  past-own low high [] some a b = absurd (omega arith)
  past-own low high (p ∷ ps) some a b = Rattle.hfs_btree.proofs.LookupLemmas.le-lt cmp total low p.0 high a.0 b.0

  pub first-most : (low : K) (e : List ℕ) (es : List (List ℕ)) → cmp low low ≡ Equal → IsAtMost cmp low (own e) → Each (λ x. 0 < length (own x)) (e ∷ es)
      → ArePartsInOrder cmp (own e) (map (λ x. (key x, own x)) es) → IsAtMost cmp low (flat_map own (e ∷ es))
  first-most low e [] same a some h = each-append _ (own e) [] a tt
  first-most low e (f ∷ es) same a some h =
      let lt = past-own low (key f) (own e) some.0 a h.0 in
      each-append _ (own e) (flat_map own (f ∷ es)) a (first-most low f es same (most-behind low (key f) (own f) lt h.1) some.1 h.2)

-- ---- no record names the root

module _ {K : Type 0} (g : Ghosts K) (nodes : Store) (structure : HasStructure g nodes) (k : ℕ) (deep : depth_of nodes ≡ suc k) where
  abbrev r : ℕ
  r = (header_in nodes).root

  abbrev rest : List ℕ
  rest = map (λ (s : Spot). s.n) (turn g nodes k (flat_map (children g nodes) (r ∷ [])))

  all-is : own_nodes nodes ++ tree_nodes g nodes ≡ own_nodes nodes ++ r ∷ rest
  all-is = ap (λ (d : ℕ). own_nodes nodes ++ map (λ (s : Spot). s.n) (turn g nodes d (r ∷ []))) deep ∙ ap (λ (ns : List ℕ). own_nodes nodes ++ ns) (turn-nodes g nodes k (r ∷ []))

  pub never-named : Each (HavePassing g nodes (λ x. x ≢ r)) (tree_turn g nodes)
  never-named =
      let P : List ℕ → Type 0 = λ ns. IsDistinct ns in
      let Q : ℕ → Type 0 = λ d. Each (HavePassing g nodes (λ x. x ≢ r)) (turn g nodes d (r ∷ [])) in
      subst Q (sym deep) (turn-sons g nodes (λ x. x ≢ r) k (r ∷ []) (other-behind (own_nodes nodes) r rest (subst P all-is structure.levels.different)))

  one : (a n : ℕ) → (0 < a → Each (λ x. x ≢ r) (children g nodes n)) → AreKeysExactFor g nodes (λ x. x ≢ r) a n → AreKeysExact g nodes a n
  one zero n f h = tt
  one (suc j) n f h = each-both _ (λ e. g.child e ≢ r) _ (records_in nodes n) (λ e is o. is o) h (each-unmap (λ x. x ≢ r) g.child (records_in nodes n) (f (omega arith)))

  -- so a tree that is exact but for the keys over its root is exact
  pub exact-root : IsExactBut g nodes r → IsExact g nodes
  exact-root h =
      each-both (λ s. AreKeysExactFor g nodes (λ x. x ≢ r) s.above s.n) (HavePassing g nodes (λ x. x ≢ r)) (λ s. AreKeysExact g nodes s.above s.n) (tree_turn g nodes)
      (λ s e f. one s.above s.n f e) h never-named

-- ---- one node above

module _ {K : Type 0} (g : Ghosts K) (total : IsTotalOrder g.compare) (old new : Store) (sound : IsSound g old) (i k : ℕ) (deep : depth_of old ≡ suc (lift i (suc k))) (before : List ℕ) (n : ℕ) (behind : List ℕ)
    (level : level_below g old i (root_level old) ≡ before ++ n ∷ behind) (v : Node) (place : ℕ) (made : List ℕ) (edit : IsEdited old new n v (set v.records place made))
    (left right : ℕ) (spot : IsRight g old (record { left = left; n = n; right = right; above = suc k })) (within : place < length v.records)
    (index : g.is_index made ≡ true) (names : g.child made ≡ g.child (get_or v.records place []))
    (higher : g.compare (g.index_key (get_or v.records place [])) (g.index_key made) ≡ Less)
    (most : IsAtMost g.compare (g.index_key made) (under g old k (g.child (get_or v.records place [])))) where
  pub has-told : In (g.index_key made) (tree_keys g old) → ((m : ℕ) → Each (IsOther m) (tree_nodes g old) → bytes_in new m ≡ bytes_in old m) → HasTold g old new
  has-told own rest = record {
    sound = raised-sound g total old new sound n v k place made edit left right spot within index names higher most;
    content = raised-content g total old new sound n v k place made edit left right spot within index names higher most;
    turn = raised-turn g total old new sound n v k place made edit left right spot within index names higher most;
    root = ap (λ (h : Header). h.root) (raised-header g total old new sound n v k place made edit left right spot within index names higher most);
    depth = ap (λ (h : Header). h.depth) (raised-header g total old new sound n v k place made edit left right spot within index names higher most);
    free = raised-free g total old new sound n v k place made edit left right spot within index names higher most;
    frame = raised-frame g total old new sound n v k place made edit left right spot within index names higher most;
    keys = hold-keys g old new (λ T was. raised-keys g total old new sound n v k place made edit left right spot within index names higher most T (key-holds g old T was (g.index_key made) own) was);
    rest = rest;
  }

  abbrev c : ℕ
  c = g.child (get_or v.records place [])

  same-records : records_in old n ≡ v.records
  same-records = ap records_of edit.was

  within' : place < length (records_in old n)
  within' = let same = ap (λ (rs : List (List ℕ)). length rs) same-records in omega arith

  c-is : g.child (get_or (records_in old n) place []) ≡ c
  c-is = ap (λ (rs : List (List ℕ)). g.child (get_or rs place [])) same-records

  module _ (but : IsExactBut g old c) (first : g.compare (g.index_key made) (first_key g old k c) ≡ Equal) where
    abbrev Named : ℕ → Type 0
    Named x = Each (λ (s : Spot). s.n ≢ n → 0 < s.above → Each (λ y. y ≢ x) (children g old s.n)) (tree_turn g old)

    named : Named c
    named = subst Named c-is (named-once g old sound.structure i k deep before n behind level place within')

    abbrev Pair : (List (List ℕ) → List (List ℕ)) → List (List ℕ) → Type 0
    Pair f rs = Each (λ e. g.child e ≢ g.child (get_or rs place [])) (f rs)

    own-b : Each (λ e. g.child e ≢ c) (take place v.records)
    own-b = let P : List (List ℕ) → Type 0 = λ rs. Pair (take place) rs in subst P same-records (own-before g old sound.structure i k deep before n behind level place within')

    own-h : Each (λ e. g.child e ≢ c) (drop (suc place) v.records)
    own-h = let P : List (List ℕ) → Type 0 = λ rs. Pair (drop (suc place)) rs in subst P same-records (own-behind g old sound.structure i k deep before n behind level place within')

    abbrev for : (X : ℕ → Type 0) → (X n → get_or (set v.records place made) 0 [] ≡ get_or v.records 0 []) → IsExactFor g new X
    for X kept =
        raised-exact g old new n v k place made edit (raised-height g total old new sound n v k place made edit left right spot within index names higher most) refl (raised-turn g total old new sound n v k place made edit left right spot within index names higher most)
        sound.structure.levels.each c refl names but named own-b own-h first X kept

    -- the tree is exact but for the keys over this node
    pub told-but : IsExactBut g new n
    told-but = for (λ x. x ≢ n) (λ d. absurd (d refl))

    -- and exact where its first key hasn't changed
    pub told-exact : 0 < place → IsExact g new
    told-exact some = exact-for g new (λ x. Unit {0}) (λ x. tt) (for (λ x. Unit {0}) (λ u. get_or-set_other v.records place 0 made [] (λ e. absurd (omega arith))))
