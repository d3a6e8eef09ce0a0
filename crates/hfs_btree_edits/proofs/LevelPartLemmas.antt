-- Lemmas about the definitions of specs/LevelParts.antt.
use Rattle.std.proofs.Common.{◌≡◌, ℕ, zero, suc, ◌+◌, List, [], ◌∷◌, ◌++◌, map, refl, sym, ap, ◌∙◌, subst, append_assoc, arith}
use Rattle.std.specs.List.{flat_map}
use Rattle.hfs_btree.specs.declared.key.Key.{Ghosts}
use Rattle.hfs_btree.specs.Pairs.{Pairs}
use Rattle.hfs_fields.specs.Each.{Each}
use Rattle.hfs_fields.proofs.ElementLemmas.{each-append, each-left, each-right}
use Rattle.hfs_btree.specs.Tree.{Store, Spot, records_in, children, pair_of, spots, turn, under, level_below}
use Rattle.hfs_btree.specs.Sound.{ArePartsInOrder, AreKeysInOrder, part_of}
use Rattle.hfs_btree_edits.specs.LevelParts.{lift}

pub lift-is : (i k : ℕ) → lift i k ≡ i + k
lift-is zero k = omega arith
lift-is (suc i) k = let e = lift-is i k in omega arith

-- the first i levels in turn, where the level behind them stands k above the leaves
abbrev pub upper : {K : Type 0} → Ghosts K → Store → ℕ → ℕ → List ℕ → List Spot
upper g nodes zero k ns = []
upper g nodes (suc i) k ns = spots (suc (lift i k)) 0 ns ++ upper g nodes i k (flat_map (children g nodes) ns)

-- the numbers of nodes in turn
abbrev pub numbers : List Spot → List ℕ
numbers ss = map (λ (s : Spot). s.n) ss

pub numbers-spots : (above left : ℕ) (ns : List ℕ) → numbers (spots above left ns) ≡ ns
numbers-spots above left [] = refl
numbers-spots above left (n ∷ ns) = ap (λ (ms : List ℕ). n ∷ ms) (numbers-spots above n ns)

-- what holds of each number holds at each spot, and the other way
pub at-spots : (P : ℕ → Type 0) (above left : ℕ) (ns : List ℕ) → Each P ns → Each (λ (s : Spot). P s.n) (spots above left ns)
at-spots P above left [] h = tt
at-spots P above left (n ∷ ns) h = (h.0, at-spots P above n ns h.1)

pub of-spots : (P : ℕ → Type 0) (above left : ℕ) (ns : List ℕ) → Each (λ (s : Spot). P s.n) (spots above left ns) → Each P ns
of-spots P above left [] h = tt
of-spots P above left (n ∷ ns) h = (h.0, of-spots P above n ns h.1)

-- ---- one store

module _ {K : Type 0} (g : Ghosts K) (nodes : Store) where
  pub turn-split : (i k : ℕ) (ns : List ℕ) → turn g nodes (suc (lift i k)) ns ≡ upper g nodes i k ns ++ turn g nodes (suc k) (level_below g nodes i ns)
  turn-split zero k ns = refl
  turn-split (suc i) k ns =
      ap (λ (ss : List Spot). spots (suc (lift i k)) 0 ns ++ ss) (turn-split i k (flat_map (children g nodes) ns))
      ∙ sym (append_assoc (spots (suc (lift i k)) 0 ns) (upper g nodes i k (flat_map (children g nodes) ns)) (turn g nodes (suc k) (level_below g nodes i (flat_map (children g nodes) ns))))

-- ---- two stores

module _ {K : Type 0} (g : Ghosts K) (old new : Store) where
  -- a node has kept its records
  abbrev pub KeepsRecords : ℕ → Type 0
  KeepsRecords n = records_in new n ≡ records_in old n

  abbrev pub KeepsAt : Spot → Type 0
  KeepsAt spot = KeepsRecords spot.n

  -- and what is under it
  abbrev pub KeepsUnder : ℕ → ℕ → Type 0
  KeepsUnder k n = under g new k n ≡ under g old k n

  pub flat-kept : (ns : List ℕ) → Each KeepsRecords ns → flat_map (children g new) ns ≡ flat_map (children g old) ns
  flat-kept [] h = refl
  flat-kept (n ∷ ns) h = ap (λ (es : List (List ℕ)). map g.child es ++ flat_map (children g new) ns) h.0 ∙ ap (λ (ms : List ℕ). children g old n ++ ms) (flat-kept ns h.1)

  pub upper-kept : (i k : ℕ) (ns : List ℕ) → Each KeepsAt (upper g old i k ns) → (upper g new i k ns ≡ upper g old i k ns) × (level_below g new i ns ≡ level_below g old i ns)
  upper-kept zero k ns h = (refl, refl)
  upper-kept (suc i) k ns h =
      let here = spots (suc (lift i k)) 0 ns in
      let below = flat-kept ns (of-spots KeepsRecords (suc (lift i k)) 0 ns (each-left KeepsAt here (upper g old i k (flat_map (children g old) ns)) h)) in
      let rest = upper-kept i k (flat_map (children g old) ns) (each-right KeepsAt here (upper g old i k (flat_map (children g old) ns)) h) in (
        ap (λ (ms : List ℕ). here ++ upper g new i k ms) below ∙ ap (λ (ss : List Spot). here ++ ss) rest.0,
        ap (level_below g new i) below ∙ rest.1,
      )

  pub turn-kept : (d : ℕ) (ns : List ℕ) → Each KeepsAt (turn g old d ns) → turn g new d ns ≡ turn g old d ns
  turn-kept zero ns h = refl
  turn-kept (suc k) ns h =
      let below = flat-kept ns (of-spots KeepsRecords k 0 ns (each-left KeepsAt (spots k 0 ns) (turn g old k (flat_map (children g old) ns)) h)) in
      ap (λ (ms : List ℕ). spots k 0 ns ++ turn g new k ms) below
      ∙ ap (λ (ss : List Spot). spots k 0 ns ++ ss) (turn-kept k (flat_map (children g old) ns) (each-right KeepsAt (spots k 0 ns) (turn g old k (flat_map (children g old) ns)) h))

  -- the level so many below, where the levels down to it have kept their records
  pub level-below-kept : (j : ℕ) (ns : List ℕ) → Each KeepsAt (turn g old (suc j) ns) → level_below g new j ns ≡ level_below g old j ns
  level-below-kept zero ns h = refl
  level-below-kept (suc j) ns h =
      let rest = turn g old (suc j) (flat_map (children g old) ns) in
      let below = flat-kept ns (of-spots KeepsRecords (suc j) 0 ns (each-left KeepsAt (spots (suc j) 0 ns) rest h)) in
      ap (level_below g new j) below ∙ level-below-kept j (flat_map (children g old) ns) (each-right KeepsAt (spots (suc j) 0 ns) rest h)

  -- ---- what is under the nodes of a level

  pub same-flat : (k : ℕ) (ns : List ℕ) → Each (KeepsUnder k) ns → flat_map (under g new k) ns ≡ flat_map (under g old k) ns
  same-flat k [] h = refl
  same-flat k (n ∷ ns) h = ap (λ (ps : Pairs K). ps ++ flat_map (under g new k) ns) h.0 ∙ ap (λ (ps : Pairs K). under g old k n ++ ps) (same-flat k ns h.1)

  -- where all children of a level have kept what is under them, the pairs of the old children of each node are the same
  pub children-kept : (k : ℕ) (ns : List ℕ) → Each (KeepsUnder k) (flat_map (children g old) ns) → Each (λ n. Each (KeepsUnder k) (children g old n)) ns
  children-kept k [] h = tt
  children-kept k (n ∷ ns) h = (
    each-left (KeepsUnder k) (children g old n) (flat_map (children g old) ns) h,
    children-kept k ns (each-right (KeepsUnder k) (children g old n) (flat_map (children g old) ns) h),
  )

  pub node-kept : (k n : ℕ) → KeepsRecords n → Each (KeepsUnder k) (children g old n) → KeepsUnder (suc k) n
  node-kept k n same h = ap (λ (es : List (List ℕ)). flat_map (under g new k) (map g.child es)) same ∙ same-flat k (children g old n) h

  pub level-kept : (k : ℕ) (ns : List ℕ) → Each KeepsRecords ns → Each (λ n. Each (KeepsUnder k) (children g old n)) ns → Each (KeepsUnder (suc k)) ns
  level-kept k [] h below = tt
  level-kept k (n ∷ ns) h below = (node-kept k n h.0 below.0, level-kept k ns h.1 below.1)

  leaves-kept : (ns : List ℕ) → Each KeepsRecords ns → Each (KeepsUnder 0) ns
  leaves-kept [] h = tt
  leaves-kept (n ∷ ns) h = (ap (map (pair_of g)) h.0, leaves-kept ns h.1)

  -- where all nodes from a level on have kept their records
  pub under-kept : (k : ℕ) (ns : List ℕ) → Each KeepsAt (turn g old (suc k) ns) → Each (KeepsUnder k) ns
  under-kept zero ns h = leaves-kept ns (of-spots KeepsRecords 0 0 ns (each-left KeepsAt (spots 0 0 ns) [] h))
  under-kept (suc k) ns h =
      let here = of-spots KeepsRecords (suc k) 0 ns (each-left KeepsAt (spots (suc k) 0 ns) (turn g old (suc k) (flat_map (children g old) ns)) h) in
      let below = under-kept k (flat_map (children g old) ns) (each-right KeepsAt (spots (suc k) 0 ns) (turn g old (suc k) (flat_map (children g old) ns)) h) in
      level-kept k ns here (children-kept k ns below)

  -- ---- the order of keys

  -- the parts of records whose children have kept what is under them
  pub parts-kept : (k : ℕ) (es : List (List ℕ)) → Each (KeepsUnder k) (map g.child es) → map (part_of g (under g new k)) es ≡ map (part_of g (under g old k)) es
  parts-kept k [] h = refl
  parts-kept k (e ∷ es) h =
      ap (λ (ps : Pairs K). (g.index_key e, ps) ∷ map (part_of g (under g new k)) es) h.0
      ∙ ap (λ (ps : List (K × Pairs K)). part_of g (under g old k) e ∷ ps) (parts-kept k es h.1)

  pub keys-kept : (k n : ℕ) → KeepsRecords n → Each (KeepsUnder k) (children g old n) → AreKeysInOrder g old (suc k) n → AreKeysInOrder g new (suc k) n
  keys-kept k n same h keyed =
      let P : List (K × Pairs K) → Type 0 = λ ps. ArePartsInOrder g.compare [] ps in
      subst P (sym (ap (map (part_of g (under g new k))) same ∙ parts-kept k (records_in old n) h)) keyed

  abbrev pub KeyedOld : Spot → Type 0
  KeyedOld spot = AreKeysInOrder g old spot.above spot.n

  abbrev pub KeyedNew : Spot → Type 0
  KeyedNew spot = AreKeysInOrder g new spot.above spot.n

  pub level-keyed : (k left : ℕ) (ns : List ℕ) → Each KeepsRecords ns → Each (λ n. Each (KeepsUnder k) (children g old n)) ns → Each KeyedOld (spots (suc k) left ns) → Each KeyedNew (spots (suc k) left ns)
  level-keyed k left [] h below keyed = tt
  level-keyed k left (n ∷ ns) h below keyed = (keys-kept k n h.0 below.0 keyed.0, level-keyed k n ns h.1 below.1 keyed.1)

  leaves-keyed : (left : ℕ) (ns : List ℕ) → Each KeyedNew (spots 0 left ns)
  leaves-keyed left [] = tt
  leaves-keyed left (n ∷ ns) = (tt, leaves-keyed n ns)

  -- the levels above one whose nodes have kept what is under them
  pub upper-keyed : (i k : ℕ) (ns : List ℕ) → Each KeepsAt (upper g old i k ns) → Each KeyedOld (upper g old i k ns) → Each (KeepsUnder k) (level_below g old i ns)
      → Each KeyedNew (upper g old i k ns) × Each (KeepsUnder (lift i k)) ns
  upper-keyed zero k ns h keyed below = (tt, below)
  upper-keyed (suc i) k ns h keyed below =
      let next = flat_map (children g old) ns in
      let here = spots (suc (lift i k)) 0 ns in
      let rest = upper-keyed i k next (each-right KeepsAt here (upper g old i k next) h) (each-right KeyedOld here (upper g old i k next) keyed) below in
      let same = of-spots KeepsRecords (suc (lift i k)) 0 ns (each-left KeepsAt here (upper g old i k next) h) in
      let parts = children-kept (lift i k) ns rest.1 in (
        each-append KeyedNew here (upper g old i k next) (level-keyed (lift i k) 0 ns same parts (each-left KeyedOld here (upper g old i k next) keyed)) rest.0,
        level-kept (lift i k) ns same parts,
      )

  -- the levels below
  pub turn-keyed : (d : ℕ) (ns : List ℕ) → Each KeepsAt (turn g old d ns) → Each KeyedOld (turn g old d ns) → Each KeyedNew (turn g old d ns)
  turn-keyed zero ns h keyed = tt
  turn-keyed (suc zero) ns h keyed = each-append KeyedNew (spots 0 0 ns) [] (leaves-keyed 0 ns) tt
  turn-keyed (suc (suc k)) ns h keyed =
      let next = flat_map (children g old) ns in
      let here = spots (suc k) 0 ns in
      let same = of-spots KeepsRecords (suc k) 0 ns (each-left KeepsAt here (turn g old (suc k) next) h) in
      let rest = each-right KeepsAt here (turn g old (suc k) next) h in
      each-append KeyedNew here (turn g old (suc k) next)
      (level-keyed k 0 ns same (children-kept k ns (under-kept k next rest)) (each-left KeyedOld here (turn g old (suc k) next) keyed))
      (turn-keyed (suc k) next rest (each-right KeyedOld here (turn g old (suc k) next) keyed))
