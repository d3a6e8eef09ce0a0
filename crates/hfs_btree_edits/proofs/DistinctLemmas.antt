-- Lists in which no number stands twice.
use Rattle.std.proofs.Common.{◌≡◌, ◌≢◌, ℕ, zero, suc, List, [], ◌∷◌, ◌++◌, map, refl, sym, ap, ◌∙◌, subst}
use Rattle.std.specs.List.{flat_map}
use Rattle.std.proofs.lemmas.List.{map-append}
use Rattle.hfs_btree.specs.declared.key.Key.{Ghosts}
use Rattle.hfs_fields.specs.Each.{Each}
use Rattle.hfs_fields.proofs.ElementLemmas.{each-left, each-right}
use Rattle.hfs_btree.specs.Tree.{Store, Spot, children, spots, turn, level_below, last_level}
use Rattle.hfs_btree.specs.Sound.{IsOther, IsDistinct}

pub distinct-left : (xs ys : List ℕ) → IsDistinct (xs ++ ys) → IsDistinct xs
distinct-left [] ys h = tt
distinct-left (x ∷ xs) ys h = (each-left _ xs ys h.0, distinct-left xs ys h.1)

pub distinct-right : (xs ys : List ℕ) → IsDistinct (xs ++ ys) → IsDistinct ys
distinct-right [] ys h = h
distinct-right (x ∷ xs) ys h = distinct-right xs ys h.1

-- a number of a distinct list is other than those before and behind it
pub other-before : (xs : List ℕ) (n : ℕ) (ys : List ℕ) → IsDistinct (xs ++ n ∷ ys) → Each (λ m. m ≢ n) xs
other-before [] n ys h = tt
other-before (x ∷ xs) n ys h = (λ e. (each-right (IsOther x) xs (n ∷ ys) h.0).0 (sym e), other-before xs n ys h.1)

pub other-behind : (xs : List ℕ) (n : ℕ) (ys : List ℕ) → IsDistinct (xs ++ n ∷ ys) → Each (λ m. m ≢ n) ys
other-behind [] n ys h = h.0
other-behind (x ∷ xs) n ys h = other-behind xs n ys h.1

-- the nodes of a level
pub spots-nodes : (k left : ℕ) (ns : List ℕ) → map (λ (spot : Spot). spot.n) (spots k left ns) ≡ ns
spots-nodes k left [] = refl
spots-nodes k left (n ∷ ns) = ap (λ (ms : List ℕ). n ∷ ms) (spots-nodes k n ns)

module _ {K : Type 0} (g : Ghosts K) (nodes : Store) where
  -- the nodes of the levels, level by level
  pub turn-nodes : (k : ℕ) (ns : List ℕ) → map (λ (spot : Spot). spot.n) (turn g nodes (suc k) ns) ≡ ns ++ map (λ (spot : Spot). spot.n) (turn g nodes k (flat_map (children g nodes) ns))
  turn-nodes k ns =
      map-append (λ (spot : Spot). spot.n) (spots k 0 ns) (turn g nodes k (flat_map (children g nodes) ns))
      ∙ ap (λ (ms : List ℕ). ms ++ map (λ (spot : Spot). spot.n) (turn g nodes k (flat_map (children g nodes) ns))) (spots-nodes k 0 ns)

  -- a level is distinct where the levels are
  pub level-distinct : (k : ℕ) (ns : List ℕ) → IsDistinct (map (λ (spot : Spot). spot.n) (turn g nodes (suc k) ns)) → IsDistinct (level_below g nodes k ns)
  level-distinct zero ns h = let P : List ℕ → Type 0 = IsDistinct in distinct-left ns [] (subst P (turn-nodes zero ns) h)
  level-distinct (suc k) ns h = let P : List ℕ → Type 0 = IsDistinct in level-distinct k (flat_map (children g nodes) ns) (distinct-right ns _ (subst P (turn-nodes (suc k) ns) h))

  pub last-distinct : (d : ℕ) (ns : List ℕ) → IsDistinct (map (λ (spot : Spot). spot.n) (turn g nodes d ns)) → IsDistinct (last_level g nodes d ns)
  last-distinct zero ns h = tt
  last-distinct (suc k) ns h = level-distinct k ns h
