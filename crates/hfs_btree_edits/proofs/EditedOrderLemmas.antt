-- The order of a tree in which a leaf has got other pairs, between the same bounds.
use Rattle.std.proofs.Common.{◌≡◌, ℕ, zero, suc, ◌<◌, List, [], ◌∷◌, map, refl, sym, subst, arith}
use Rattle.std.specs.List.{flat_map}
use Rattle.std.specs.Cmp.{IsTotalOrder}
use Rattle.hfs_btree.specs.declared.key.Key.{Ghosts}
use Rattle.hfs_fields.specs.Each.{Each}
use Rattle.hfs_fields.proofs.ElementLemmas.{each-left, each-right, each-append, each-unmap}
use Rattle.hfs_btree.specs.Tree.{Store, Spot, records_in, children, pairs, spots, turn, under, first_of}
use Rattle.hfs_btree.specs.Sound.{AreKeysInOrder, ArePartsInOrder, part_of}
use Rattle.hfs_btree.proofs.LevelLemmas.{each-spots}
use Rattle.hfs_btree_edits.proofs.BoundLemmas.{KeepsBounds, bounds-same, bounds-flat, parts-kept}

-- what holds of all elements of lists laid together holds of those of each
pub each-flat : {X Y : Type 0} (P : Y → Type 0) (f : X → List Y) (xs : List X) → Each P (flat_map f xs) → Each (λ x. Each P (f x)) xs
each-flat P f [] h = tt
each-flat P f (x ∷ xs) h = (each-left P (f x) (flat_map f xs) h, each-flat P f xs (each-right P (f x) (flat_map f xs) h))

module _ {K : Type 0} (g : Ghosts K) (total : IsTotalOrder g.compare) (old new : Store) where
  -- above the leaves the records are the same, and the pairs of a leaf keep their bounds
  pub record StaysAt (spot : Spot) : Type 0 where
    pub above : 0 < spot.above → records_in new spot.n ≡ records_in old spot.n
    pub leaf : spot.above ≡ 0 → KeepsBounds g.compare (pairs g old spot.n) (pairs g new spot.n)

  abbrev pub Bounded : ℕ → ℕ → Type 0
  Bounded k n = KeepsBounds g.compare (under g old k n) (under g new k n)

  under-step : (k n : ℕ) → records_in new n ≡ records_in old n → Each (Bounded k) (children g old n) → Bounded (suc k) n
  under-step k n same below =
      let P : List (List ℕ) → Type 0 = λ es. KeepsBounds g.compare (flat_map (under g old k) (children g old n)) (flat_map (under g new k) (map g.child es)) in
      subst P (sym same) (bounds-flat g.compare total (under g old k) (under g new k) (children g old n) below)

  pub join : (k : ℕ) (ns : List ℕ) → Each (λ n. records_in new n ≡ records_in old n) ns → Each (λ n. Each (Bounded k) (children g old n)) ns → Each (Bounded (suc k)) ns
  join k [] same below = tt
  join k (n ∷ ns) same below = (under-step k n same.0 below.0, join k ns same.1 below.1)

  records-level : (k left : ℕ) (ns : List ℕ) → Each StaysAt (spots (suc k) left ns) → Each (λ n. records_in new n ≡ records_in old n) ns
  records-level k left ns h = each-spots StaysAt (λ n. records_in new n ≡ records_in old n) (suc k) (λ l n r stays. stays.above (omega arith)) left ns h

  pub bounds-under : (k : ℕ) (ns : List ℕ) → Each StaysAt (turn g old (suc k) ns) → Each (Bounded k) ns
  bounds-under zero ns h = each-spots StaysAt (Bounded zero) zero (λ l n r stays. stays.leaf refl) 0 ns (each-left StaysAt (spots zero 0 ns) [] h)
  bounds-under (suc k) ns h =
      join k ns (records-level k 0 ns (each-left StaysAt (spots (suc k) 0 ns) (turn g old (suc k) (flat_map (children g old) ns)) h))
      (each-flat (Bounded k) (children g old) ns (bounds-under k (flat_map (children g old) ns) (each-right StaysAt (spots (suc k) 0 ns) (turn g old (suc k) (flat_map (children g old) ns)) h)))

  abbrev pub Keyed : Spot → Type 0
  Keyed spot = AreKeysInOrder g old spot.above spot.n

  abbrev pub Keyed' : Spot → Type 0
  Keyed' spot = AreKeysInOrder g new spot.above spot.n

  keys-step : (k n : ℕ) → records_in new n ≡ records_in old n → Each (Bounded k) (children g old n) → AreKeysInOrder g old (suc k) n → AreKeysInOrder g new (suc k) n
  keys-step k n same below keys =
      let P : List (List ℕ) → Type 0 = λ es. ArePartsInOrder g.compare [] (map (part_of g (under g new k)) es) in
      subst P (sym same)
      (parts-kept g.compare total g.index_key (λ e. under g old k (g.child e)) (λ e. under g new k (g.child e)) [] [] (records_in old n) (bounds-same g.compare total [] [] refl)
      (each-unmap (Bounded k) g.child (records_in old n) below) keys)

  pub keys-level : (k left : ℕ) (ns : List ℕ) → Each (λ n. records_in new n ≡ records_in old n) ns → Each (λ n. Each (Bounded k) (children g old n)) ns
      → Each Keyed (spots (suc k) left ns) → Each Keyed' (spots (suc k) left ns)
  keys-level k left [] same below keys = tt
  keys-level k left (n ∷ ns) same below keys = (keys-step k n same.0 below.0 keys.0, keys-level k n ns same.1 below.1 keys.1)

  none-keyed : (left : ℕ) (ns : List ℕ) → Each Keyed' (spots zero left ns)
  none-keyed left [] = tt
  none-keyed left (n ∷ ns) = (tt, none-keyed n ns)

  pub keys-stay : (d : ℕ) (ns : List ℕ) → Each StaysAt (turn g old d ns) → Each Keyed (turn g old d ns) → Each Keyed' (turn g old d ns)
  keys-stay zero ns h keys = tt
  keys-stay (suc zero) ns h keys = each-append Keyed' (spots zero 0 ns) [] (none-keyed 0 ns) tt
  keys-stay (suc (suc k)) ns h keys =
      let rest : List Spot = turn g old (suc k) (flat_map (children g old) ns) in
      let here = records-level k 0 ns (each-left StaysAt (spots (suc k) 0 ns) rest h) in
      let below = each-flat (Bounded k) (children g old) ns (bounds-under k (flat_map (children g old) ns) (each-right StaysAt (spots (suc k) 0 ns) rest h)) in
      each-append Keyed' (spots (suc k) 0 ns) rest
      (keys-level k 0 ns here below (each-left Keyed (spots (suc k) 0 ns) rest keys))
      (keys-stay (suc k) (flat_map (children g old) ns) (each-right StaysAt (spots (suc k) 0 ns) rest h) (each-right Keyed (spots (suc k) 0 ns) rest keys))

-- ---- a fact at each node of the turn, by facts on its children

module _ {K : Type 0} (g : Ghosts K) (old : Store) (R P Q : Spot → Type 0) (C : ℕ → ℕ → Type 0) (all : (k : ℕ) (ns : List ℕ) → Each R (turn g old (suc k) ns) → Each (C k) ns)
    (leaf : (l n r : ℕ) → R (record { left = l; n = n; right = r; above = 0 }) → P (record { left = l; n = n; right = r; above = 0 }) → Q (record { left = l; n = n; right = r; above = 0 }))
    (step : (k l n r : ℕ) → R (record { left = l; n = n; right = r; above = suc k }) → Each (C k) (children g old n) → P (record { left = l; n = n; right = r; above = suc k })
    → Q (record { left = l; n = n; right = r; above = suc k })) where
  at-leaves : (left : ℕ) (ns : List ℕ) → Each R (spots zero left ns) → Each P (spots zero left ns) → Each Q (spots zero left ns)
  at-leaves left [] r p = tt
  at-leaves left (n ∷ ns) r p = (leaf left n (first_of ns) r.0 p.0, at-leaves n ns r.1 p.1)

  at-level : (k left : ℕ) (ns : List ℕ) → Each R (spots (suc k) left ns) → Each (λ n. Each (C k) (children g old n)) ns → Each P (spots (suc k) left ns) → Each Q (spots (suc k) left ns)
  at-level k left [] r c p = tt
  at-level k left (n ∷ ns) r c p = (step k left n (first_of ns) r.0 c.0 p.0, at-level k n ns r.1 c.1 p.1)

  pub turn-step : (d : ℕ) (ns : List ℕ) → Each R (turn g old d ns) → Each P (turn g old d ns) → Each Q (turn g old d ns)
  turn-step zero ns r p = tt
  turn-step (suc zero) ns r p = each-append Q (spots zero 0 ns) [] (at-leaves 0 ns (each-left R (spots zero 0 ns) [] r) (each-left P (spots zero 0 ns) [] p)) tt
  turn-step (suc (suc k)) ns r p =
      let next : List ℕ = flat_map (children g old) ns in
      let rest : List Spot = turn g old (suc k) next in
      let lower = each-right R (spots (suc k) 0 ns) rest r in
      each-append Q (spots (suc k) 0 ns) rest
      (at-level k 0 ns (each-left R (spots (suc k) 0 ns) rest r) (each-flat (C k) (children g old) ns (all k next lower)) (each-left P (spots (suc k) 0 ns) rest p))
      (turn-step (suc k) next lower (each-right P (spots (suc k) 0 ns) rest p))
