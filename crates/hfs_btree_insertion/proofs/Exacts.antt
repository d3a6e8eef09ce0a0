-- Exact index keys, where nodes have kept their first records.
use Rattle.hfs_btree_edits.specs.LevelParts.{lift, entry_key}
use Rattle.std.proofs.Common.{◌≡◌, ℕ, zero, suc, List, [], ◌∷◌, ◌++◌, map, get_or, refl, sym, ap, ◌∙◌, subst}
use Rattle.std.specs.Prelude.{⊤}
use Rattle.std.specs.List.{flat_map}
use Rattle.std.specs.declared.cmp.Ordering.TheVariants.{Equal}
use Rattle.hfs_btree.specs.declared.key.Key.{Ghosts}
use Rattle.hfs_fields.specs.Each.{Each}
use Rattle.hfs_fields.proofs.ElementLemmas.{each-append, each-left, each-right, each-mono}
use Rattle.hfs_btree.specs.Tree.{Store, Spot, records_in, children, spots, turn, level_below}
use Rattle.hfs_btree.specs.Header.{record_in}
use Rattle.hfs_btree.specs.Sound.{AreKeysExact, first_key}
use Rattle.hfs_btree_edits.proofs.LevelPartLemmas.{upper, of-spots, KeepsRecords, KeepsAt}

pub first-entry : {K : Type 0} (g : Ghosts K) (nodes : Store) (k n : ℕ) → first_key g nodes k n ≡ entry_key g k (record_in nodes n 0)
first-entry g nodes zero n = refl
first-entry g nodes (suc k) n = refl

module _ {K : Type 0} (g : Ghosts K) (old new : Store) where
  abbrev pub KeepsFirst : ℕ → Type 0
  KeepsFirst n = record_in new n 0 ≡ record_in old n 0

  pub keeps-first : (n : ℕ) → KeepsRecords g old new n → KeepsFirst n
  keeps-first n e = ap (λ (xs : List (List ℕ)). get_or xs 0 []) e

  first-same : (k n : ℕ) → KeepsFirst n → first_key g new k n ≡ first_key g old k n
  first-same k n e = first-entry g new k n ∙ ap (entry_key g k) e ∙ sym (first-entry g old k n)

  -- records whose keys are equal to the first keys of their children
  abbrev pub IsExactIn : Store → ℕ → List ℕ → Type 0
  IsExactIn nodes k e = g.compare (g.index_key e) (first_key g nodes k (g.child e)) ≡ Equal

  abbrev pub AreRecordsExact : Store → ℕ → List (List ℕ) → Type 0
  AreRecordsExact nodes zero xs = ⊤
  AreRecordsExact nodes (suc k) xs = Each (IsExactIn nodes k) xs

  pub exact-of : (nodes : Store) (k n : ℕ) (xs : List (List ℕ)) → records_in nodes n ≡ xs → AreKeysExact g nodes k n → AreRecordsExact nodes k xs
  exact-of nodes zero n xs is h = tt
  exact-of nodes (suc k) n xs is h = let P : List (List ℕ) → Type 0 = λ ys. AreRecordsExact nodes (suc k) ys in subst P is h

  pub of-exact : (nodes : Store) (k n : ℕ) (xs : List (List ℕ)) → records_in nodes n ≡ xs → AreRecordsExact nodes k xs → AreKeysExact g nodes k n
  of-exact nodes zero n xs is h = tt
  of-exact nodes (suc k) n xs is h = let P : List (List ℕ) → Type 0 = λ ys. AreRecordsExact nodes (suc k) ys in subst P (sym is) h

  pub exact-left : (nodes : Store) (k : ℕ) (xs ys : List (List ℕ)) → AreRecordsExact nodes k (xs ++ ys) → AreRecordsExact nodes k xs
  exact-left nodes zero xs ys h = tt
  exact-left nodes (suc k) xs ys h = each-left (IsExactIn nodes k) xs ys h

  pub exact-right : (nodes : Store) (k : ℕ) (xs ys : List (List ℕ)) → AreRecordsExact nodes k (xs ++ ys) → AreRecordsExact nodes k ys
  exact-right nodes zero xs ys h = tt
  exact-right nodes (suc k) xs ys h = each-right (IsExactIn nodes k) xs ys h

  -- of the levels below a level only the first counts
  abbrev pub FirstsBelow : ℕ → List ℕ → Type 0
  FirstsBelow zero ns = ⊤
  FirstsBelow (suc k) ns = Each KeepsFirst ns

  pub entries-exact : (k : ℕ) (xs : List (List ℕ)) → Each KeepsFirst (map g.child xs) → Each (IsExactIn old k) xs → Each (IsExactIn new k) xs
  entries-exact k [] first h = tt
  entries-exact k (e ∷ xs) first h = (ap (g.compare (g.index_key e)) (first-same k (g.child e) first.0) ∙ h.0, entries-exact k xs first.1 h.1)

  pub records-exact : (k : ℕ) (xs : List (List ℕ)) → FirstsBelow k (map g.child xs) → AreRecordsExact old k xs → AreRecordsExact new k xs
  records-exact zero xs first h = tt
  records-exact (suc k) xs first h = entries-exact k xs first h

  pub node-exact : (k n : ℕ) → KeepsRecords g old new n → FirstsBelow k (children g old n) → AreKeysExact g old k n → AreKeysExact g new k n
  node-exact k n same first h = of-exact new k n (records_in old n) same (records-exact k (records_in old n) first (exact-of old k n (records_in old n) refl h))

  pub firsts-left : (k : ℕ) (xs ys : List ℕ) → FirstsBelow k (xs ++ ys) → FirstsBelow k xs × FirstsBelow k ys
  firsts-left zero xs ys h = (tt, tt)
  firsts-left (suc k) xs ys h = (each-left KeepsFirst xs ys h, each-right KeepsFirst xs ys h)

  pub level-exact : (k : ℕ) (ns : List ℕ) → Each (KeepsRecords g old new) ns → FirstsBelow k (flat_map (children g old) ns) → Each (AreKeysExact g old k) ns → Each (AreKeysExact g new k) ns
  level-exact k [] same first h = tt
  level-exact k (n ∷ ns) same first h =
      let parts = firsts-left k (children g old n) (flat_map (children g old) ns) first in
      (node-exact k n same.0 parts.0 h.0, level-exact k ns same.1 parts.1 h.1)

  abbrev pub Exact : Store → Spot → Type 0
  Exact nodes spot = AreKeysExact g nodes spot.above spot.n

  pub exact-spots : (nodes : Store) (k left : ℕ) (ns : List ℕ) → Each (AreKeysExact g nodes k) ns → Each (Exact nodes) (spots k left ns)
  exact-spots nodes k left [] h = tt
  exact-spots nodes k left (n ∷ ns) h = (h.0, exact-spots nodes k n ns h.1)

  pub exact-of-spots : (nodes : Store) (k left : ℕ) (ns : List ℕ) → Each (Exact nodes) (spots k left ns) → Each (AreKeysExact g nodes k) ns
  exact-of-spots nodes k left [] h = tt
  exact-of-spots nodes k left (n ∷ ns) h = (h.0, exact-of-spots nodes k n ns h.1)

  -- the levels above one whose nodes have kept their first records
  pub upper-firsts : (i k : ℕ) (ns : List ℕ) → Each (KeepsAt g old new) (upper g old i k ns) → Each KeepsFirst (level_below g old i ns) → Each KeepsFirst ns
  upper-firsts zero k ns keep first = first
  upper-firsts (suc i) k ns keep first =
      each-mono (KeepsRecords g old new) KeepsFirst ns keeps-first
      (of-spots (KeepsRecords g old new) (suc (lift i k)) 0 ns (each-left (KeepsAt g old new) (spots (suc (lift i k)) 0 ns) (upper g old i k (flat_map (children g old) ns)) keep))

  pub upper-exact : (i k : ℕ) (ns : List ℕ) → Each (KeepsAt g old new) (upper g old i k ns) → Each KeepsFirst (level_below g old i ns) → Each (Exact old) (upper g old i k ns) → Each (Exact new) (upper g old i k ns)
  upper-exact zero k ns keep first h = tt
  upper-exact (suc i) k ns keep first h =
      let next = flat_map (children g old) ns in
      let here = spots (suc (lift i k)) 0 ns in
      let rest = upper g old i k next in
      let keep-rest = each-right (KeepsAt g old new) here rest keep in
      each-append (Exact new) here rest
      (exact-spots new (suc (lift i k)) 0 ns (level-exact (suc (lift i k)) ns (of-spots (KeepsRecords g old new) (suc (lift i k)) 0 ns (each-left (KeepsAt g old new) here rest keep))
      (upper-firsts i k next keep-rest first) (exact-of-spots old (suc (lift i k)) 0 ns (each-left (Exact old) here rest h))))
      (upper-exact i k next keep-rest first (each-right (Exact old) here rest h))

  -- the levels from one on whose nodes have kept their records
  pub turn-firsts : (d : ℕ) (ns : List ℕ) → Each (KeepsAt g old new) (turn g old d ns) → FirstsBelow d ns
  turn-firsts zero ns keep = tt
  turn-firsts (suc k) ns keep =
      each-mono (KeepsRecords g old new) KeepsFirst ns keeps-first (of-spots (KeepsRecords g old new) k 0 ns (each-left (KeepsAt g old new) (spots k 0 ns) (turn g old k (flat_map (children g old) ns)) keep))

  pub turn-exact : (d : ℕ) (ns : List ℕ) → Each (KeepsAt g old new) (turn g old d ns) → Each (Exact old) (turn g old d ns) → Each (Exact new) (turn g old d ns)
  turn-exact zero ns keep h = tt
  turn-exact (suc k) ns keep h =
      let next = flat_map (children g old) ns in
      let here = spots k 0 ns in
      let rest = turn g old k next in
      let keep-rest = each-right (KeepsAt g old new) here rest keep in
      each-append (Exact new) here rest
      (exact-spots new k 0 ns (level-exact k ns (of-spots (KeepsRecords g old new) k 0 ns (each-left (KeepsAt g old new) here rest keep)) (turn-firsts k next keep-rest)
      (exact-of-spots old k 0 ns (each-left (Exact old) here rest h))))
      (turn-exact k next keep-rest (each-right (Exact old) here rest h))
