-- Trees that are exact but for the index keys over one node, whose first key has changed.
use Rattle.std.proofs.Common.{◌≡◌, ◌≢◌, ℕ, zero, suc, List, [], ◌∷◌, ◌++◌, map, get_or, sym, ap, ◌∙◌, subst}
use Rattle.std.specs.Prelude.{⊤}
use Rattle.std.specs.List.{flat_map}
use Rattle.std.specs.declared.cmp.Ordering.TheVariants.{Equal}
use Rattle.hfs_btree.specs.declared.key.Key.{Ghosts}
use Rattle.hfs_fields.specs.Each.{Each}
use Rattle.hfs_fields.proofs.ElementLemmas.{each-mono, each-left, each-right, each-append}
use Rattle.hfs_btree.specs.Tree.{Store, Spot, records_in, children, spots, turn}
use Rattle.hfs_btree.specs.Header.{record_in, depth_of, root_level, tree_turn}
use Rattle.hfs_btree.specs.Sound.{IsExact, IsSound, AreKeysExact, first_key}
use Rattle.hfs_btree.proofs.LevelLemmas.{each-spots}
use Rattle.hfs_btree_edits.proofs.EditedOrderLemmas.{each-flat, turn-step}
use Rattle.hfs_btree_edits.proofs.LevelPartLemmas.{KeepsAt, KeepsRecords}
use Rattle.hfs_btree_removal.proofs.PartsLess.{each-remove}
use Rattle.hfs_btree_removal.proofs.Chains.{Cut, with_node, without_node, KeepsBeside}
use Rattle.hfs_btree_removal.proofs.Detached.{IsDetached, es, cs, uppers, above-level, old-turn, new-turn, new-es, beside, uppers-keep}
use Rattle.hfs_btree_removal.proofs.KeysKept.{spots-of}
use Rattle.hfs_fields.proofs.PartLemmas.{flat-each}

module _ {K : Type 0} (g : Ghosts K) (nodes : Store) (X : ℕ → Type 0) where
  -- each index key over a child that passes is equal in order to the child's first key
  abbrev pub AreKeysExactFor : ℕ → ℕ → Type 0
  AreKeysExactFor zero n = ⊤
  AreKeysExactFor (suc k) n = Each (λ e. X (g.child e) → g.compare (g.index_key e) (first_key g nodes k (g.child e)) ≡ Equal) (records_in nodes n)

  abbrev pub IsExactFor : Type 0
  IsExactFor = Each (λ s. AreKeysExactFor s.above s.n) (tree_turn g nodes)

  -- an exact tree
  pub exact-for : ((n : ℕ) → X n) → IsExactFor → IsExact g nodes
  exact-for all h = each-mono (λ s. AreKeysExactFor s.above s.n) (λ s. AreKeysExact g nodes s.above s.n) (tree_turn g nodes) (λ s e. one s.above s.n e) h
    where
      one : (k n : ℕ) → AreKeysExactFor k n → AreKeysExact g nodes k n
      one zero n e = tt
      one (suc k) n e = each-mono _ _ (records_in nodes n) (λ x f. f (all (g.child x))) e

-- the tree is exact but for the keys over node m
abbrev pub IsExactBut : {K : Type 0} → Ghosts K → Store → ℕ → Type 0
IsExactBut g nodes m = IsExactFor g nodes (λ n. n ≢ m)

module _ {K : Type 0} (g : Ghosts K) (old new : Store) (X : ℕ → Type 0) where
  -- a node that passes has kept its first record
  abbrev pub KeepsFirst : Spot → Type 0
  KeepsFirst s = X s.n → record_in new s.n 0 ≡ record_in old s.n 0

  -- the keys of the new nodes were exact for the children as they were
  abbrev pub WasExact : ℕ → ℕ → Type 0
  WasExact zero n = ⊤
  WasExact (suc k) n = Each (λ e. X (g.child e) → g.compare (g.index_key e) (first_key g old k (g.child e)) ≡ Equal) (records_in new n)

  abbrev SameFirst : ℕ → ℕ → Type 0
  SameFirst k n = X n → first_key g new k n ≡ first_key g old k n

  first-by : (k n : ℕ) → (X n → record_in new n 0 ≡ record_in old n 0) → SameFirst k n
  first-by zero n f x = ap g.leaf_key (f x)
  first-by (suc k) n f x = ap g.index_key (f x)

  firsts : (k : ℕ) (ns : List ℕ) → Each KeepsFirst (turn g new (suc k) ns) → Each (SameFirst k) ns
  firsts k ns h = each-spots KeepsFirst (SameFirst k) k (λ l n r f. first-by k n f) 0 ns (each-left KeepsFirst (spots k 0 ns) (turn g new k (flat_map (children g new) ns)) h)

  entries : (k : ℕ) (rs : List (List ℕ)) → Each (SameFirst k) (map g.child rs) → Each (λ e. X (g.child e) → g.compare (g.index_key e) (first_key g old k (g.child e)) ≡ Equal) rs
      → Each (λ e. X (g.child e) → g.compare (g.index_key e) (first_key g new k (g.child e)) ≡ Equal) rs
  entries k [] f h = tt
  entries k (e ∷ rs) f h = ((λ x. ap (g.compare (g.index_key e)) (f.0 x) ∙ h.0 x), entries k rs f.1 h.1)

  pub exact-moved : (d : ℕ) (ns : List ℕ) → Each KeepsFirst (turn g new d ns) → Each (λ s. WasExact s.above s.n) (turn g new d ns) → Each (λ s. AreKeysExactFor g new X s.above s.n) (turn g new d ns)
  exact-moved d ns f h =
      turn-step g new KeepsFirst (λ s. WasExact s.above s.n) (λ s. AreKeysExactFor g new X s.above s.n) SameFirst firsts (λ l n r a b. tt)
      (λ k l n r a c b. entries k (records_in new n) c b) d ns f h

-- the keys were exact where a node has kept its records
was-kept : {K : Type 0} (g : Ghosts K) (old new : Store) (X : ℕ → Type 0) (k n : ℕ) → records_in new n ≡ records_in old n → AreKeysExact g old k n → WasExact g old new X k n
was-kept g old new X zero n same h = tt
was-kept g old new X (suc k) n same h =
    let P : List (List ℕ) → Type 0 = λ rs. Each (λ e. X (g.child e) → g.compare (g.index_key e) (first_key g old k (g.child e)) ≡ Equal) rs in
    subst P (sym same) (each-mono _ _ (records_in old n) (λ e is x. is) h)

module _ {K : Type 0} (g : Ghosts K) (old new : Store) (i k p q : ℕ) (d : IsDetached g old new i k p q) (sound : IsSound g old) (exact : IsExact g old) (X : ℕ → Type 0)
    (first : X p → record_in new p 0 ≡ record_in old p 0) where
  abbrev st : Rattle.hfs_btree.specs.Sound.HasStructure g old
  st = sound.structure

  abbrev U : List Spot
  U = uppers g old new i k p q d st

  abbrev L : List ℕ
  L = above-level g old new i k p q d st

  abbrev CS : List Cut
  CS = cs g old new i k p q d st

  abbrev Exact : Spot → Type 0
  Exact s = AreKeysExact g old s.above s.n

  abbrev Was : Spot → Type 0
  Was s = WasExact g old new X s.above s.n

  abbrev First : Spot → Type 0
  First s = KeepsFirst g old new X s

  all-exact : Each Exact (U ++ (spots (suc k) 0 L ++ flat_map with_node CS))
  all-exact = let P : List Spot → Type 0 = λ ss. Each Exact ss in subst P (old-turn g old new i k p q d st) exact

  both : (P Q R : Spot → Type 0) (ss : List Spot) → ((s : Spot) → P s → Q s → R s) → Each P ss → Each Q ss → Each R ss
  both P Q R [] f a b = tt
  both P Q R (s ∷ ss) f a b = (f s a.0 b.0, both P Q R ss f a.1 b.1)

  was-uppers : Each Was U
  was-uppers =
      both (KeepsAt g old new) Exact Was U (λ s same h. was-kept g old new X s.above s.n same h) (uppers-keep g old new i k p q d st)
      (each-left Exact U (spots (suc k) 0 L ++ flat_map with_node CS) all-exact)

  first-uppers : Each First U
  first-uppers = each-mono (KeepsAt g old new) First U (λ s same x. ap (λ (rs : List (List ℕ)). get_or rs 0 []) same) (uppers-keep g old new i k p q d st)

  level-exact : Each (λ n. AreKeysExact g old (suc k) n) L
  level-exact =
      each-spots Exact (λ n. AreKeysExact g old (suc k) n) (suc k) (λ l n r h. h) 0 L
      (each-left Exact (spots (suc k) 0 L) (flat_map with_node CS) (each-right Exact U (spots (suc k) 0 L ++ flat_map with_node CS) all-exact))

  kept : (ns : List ℕ) → Each (λ n. Rattle.hfs_btree_removal.proofs.Links.IsKept old new n) ns → Each (KeepsRecords g old new) ns
  kept ns h = each-mono (λ n. Rattle.hfs_btree_removal.proofs.Links.IsKept old new n) (KeepsRecords g old new) ns (λ n e. ap Rattle.hfs_btree.specs.Tree.records_of e) h

  was-beside : (ns : List ℕ) → Each (KeepsRecords g old new) ns → Each (λ n. AreKeysExact g old (suc k) n) ns → Each (WasExact g old new X (suc k)) ns
  was-beside [] a h = tt
  was-beside (n ∷ ns) a h = (was-kept g old new X (suc k) n a.0 h.0, was-beside ns a.1 h.1)

  was-p : AreKeysExact g old (suc k) p → WasExact g old new X (suc k) p
  was-p h =
      let P : List (List ℕ) → Type 0 = λ rs. Each (λ e. X (g.child e) → g.compare (g.index_key e) (first_key g old k (g.child e)) ≡ Equal) rs in
      subst P (sym (new-es g old new i k p q d st))
      (each-remove _ (es g old new i k p q d st) q (each-mono _ _ (records_in old p) (λ e is x. is) h))

  was-level : Each (WasExact g old new X (suc k)) L
  was-level =
      let rest = each-right (λ n. AreKeysExact g old (suc k) n) d.before (p ∷ d.behind) level-exact in
      each-append (WasExact g old new X (suc k)) d.before (p ∷ d.behind)
      (was-beside d.before (kept d.before d.before_kept) (each-left (λ n. AreKeysExact g old (suc k) n) d.before (p ∷ d.behind) level-exact))
      (was-p rest.0, was-beside d.behind (kept d.behind d.behind_kept) rest.1)

  first-level : Each (λ n. X n → record_in new n 0 ≡ record_in old n 0) L
  first-level =
      let one : (ns : List ℕ) → Each (KeepsRecords g old new) ns → Each (λ n. X n → record_in new n 0 ≡ record_in old n 0) ns =
      λ ns h. each-mono (KeepsRecords g old new) (λ n. X n → record_in new n 0 ≡ record_in old n 0) ns (λ n e x. ap (λ (rs : List (List ℕ)). get_or rs 0 []) e) h in
      each-append (λ n. X n → record_in new n 0 ≡ record_in old n 0) d.before (p ∷ d.behind) (one d.before (kept d.before d.before_kept)) (first, one d.behind (kept d.behind d.behind_kept))

  cut-exact : Each (λ (cut : Cut). Each (λ n. AreKeysExact g old cut.above n) (cut.front ++ cut.back)) CS
  cut-exact =
      each-mono (λ cut. Each Exact (with_node cut)) (λ (cut : Cut). Each (λ n. AreKeysExact g old cut.above n) (cut.front ++ cut.back)) CS
      (λ cut h.
      let all = each-spots Exact (λ n. AreKeysExact g old cut.above n) cut.above (λ l n r e. e) 0 (cut.front ++ cut.n ∷ cut.back) h in
      each-append (λ n. AreKeysExact g old cut.above n) cut.front cut.back (each-left (λ n. AreKeysExact g old cut.above n) cut.front (cut.n ∷ cut.back) all)
      (each-right (λ n. AreKeysExact g old cut.above n) cut.front (cut.n ∷ cut.back) all).1)
      (each-flat Exact with_node CS (each-right Exact (spots (suc k) 0 L) (flat_map with_node CS) (each-right Exact U (spots (suc k) 0 L ++ flat_map with_node CS) all-exact)))

  was-one : (a : ℕ) (ns : List ℕ) → Each (KeepsRecords g old new) ns → Each (λ n. AreKeysExact g old a n) ns → Each (WasExact g old new X a) ns
  was-one a [] same h = tt
  was-one a (n ∷ ns) same h = (was-kept g old new X a n same.0 h.0, was-one a ns same.1 h.1)

  was-cuts : (xs : List Cut) → Each (KeepsBeside g old new) xs → Each (λ (cut : Cut). Each (λ n. AreKeysExact g old cut.above n) (cut.front ++ cut.back)) xs → Each (λ cut. Each Was (without_node cut)) xs
  was-cuts [] a h = tt
  was-cuts (cut ∷ xs) a h =
      (spots-of Was (WasExact g old new X cut.above) cut.above (λ l n r e. e) 0 (cut.front ++ cut.back) (was-one cut.above (cut.front ++ cut.back) a.0 h.0), was-cuts xs a.1 h.1)

  first-cuts : Each (λ cut. Each First (without_node cut)) CS
  first-cuts =
      each-mono (KeepsBeside g old new) (λ cut. Each First (without_node cut)) CS
      (λ cut h. spots-of First (KeepsRecords g old new) cut.above (λ l n r e x. ap (λ (rs : List (List ℕ)). get_or rs 0 []) e) 0 (cut.front ++ cut.back) h) (beside g old new i k p q d st)

  new-was : Each Was (tree_turn g new)
  new-was =
      let P : List Spot → Type 0 = λ ss. Each Was ss in
      subst P (sym (new-turn g old new i k p q d st))
      (each-append Was U (spots (suc k) 0 L ++ flat_map without_node CS) was-uppers
      (each-append Was (spots (suc k) 0 L) (flat_map without_node CS) (spots-of Was (WasExact g old new X (suc k)) (suc k) (λ l n r e. e) 0 L was-level)
      (flat-each Was without_node CS (was-cuts CS (beside g old new i k p q d st) cut-exact))))

  new-first : Each First (tree_turn g new)
  new-first =
      let P : List Spot → Type 0 = λ ss. Each First ss in
      subst P (sym (new-turn g old new i k p q d st))
      (each-append First U (spots (suc k) 0 L ++ flat_map without_node CS) first-uppers
      (each-append First (spots (suc k) 0 L) (flat_map without_node CS) (spots-of First (λ n. X n → record_in new n 0 ≡ record_in old n 0) (suc k) (λ l n r e. e) 0 L first-level)
      (flat-each First without_node CS first-cuts)))

  pub detached-exact : IsExactFor g new X
  detached-exact = exact-moved g old new X (depth_of new) (root_level new) new-first new-was
