-- Records of an index node of which one is taken out.
use Rattle.std.proofs.Common.{◌≡◌, ℕ, zero, suc, ◌+◌, ◌<◌, List, [], ◌∷◌, ◌++◌, length, map, take, drop, refl, ap, arith}
use Rattle.std.specs.Prelude.{remove}
use Rattle.std.specs.Cmp.{IsTotalOrder}
use Rattle.std.specs.declared.cmp.Ordering.TheVariants.{Less}
use Rattle.hfs_btree.specs.Pairs.{Order, Pairs, IsAbove, IsAtMost}
use Rattle.hfs_fields.specs.Each.{Each}
use Rattle.hfs_fields.proofs.ElementLemmas.{each-mono}
use Rattle.hfs_btree.proofs.LookupLemmas.{lt-le}
use Rattle.hfs_btree.specs.Sound.{ArePartsInOrder}

pub map-remove : {X Y : Type 0} (f : X → Y) (xs : List X) (q : ℕ) → q < length xs → map f (remove xs q) ≡ map f (take q xs) ++ map f (drop (suc q) xs)
map-remove f [] q lt = absurd (omega arith)
map-remove f (x ∷ xs) zero lt = refl
map-remove f (x ∷ xs) (suc q) lt = ap (λ ys. f x ∷ ys) (map-remove f xs q (omega arith))

pub each-remove : {X : Type 0} (P : X → Type 0) (xs : List X) (q : ℕ) → Each P xs → Each P (remove xs q)
each-remove P [] zero h = tt
each-remove P [] (suc q) h = tt
each-remove P (x ∷ xs) zero h = h.1
each-remove P (x ∷ xs) (suc q) h = (h.0, each-remove P xs q h.1)

pub length-remove' : {X : Type 0} (xs : List X) (q : ℕ) → q < length xs → length (remove xs q) + 1 ≡ length xs
length-remove' [] q lt = absurd (omega arith)
length-remove' (x ∷ xs) zero lt = omega arith
length-remove' (x ∷ xs) (suc q) lt = let ih = length-remove' xs q (omega arith) in omega arith

module _ {K : Type 0} (cmp : Order K) (total : IsTotalOrder cmp) where
  -- what is below a key at most that of some pairs is below a key that is above them
  above-past : (before : Pairs K) (low high : K) (own : Pairs K) → 0 < length own → IsAbove cmp low before → IsAtMost cmp low own → IsAbove cmp high own → IsAbove cmp high before
  above-past before low high [] some a b c = absurd (omega arith)
  above-past before low high (p ∷ own) some a b c = each-mono _ _ before (λ x lt. total.trans x.0 p.0 high (lt-le cmp total x.0 low p.0 lt b.0) c.0) a

  -- parts stay in order where one that has a pair is taken out
  pub parts-drop : (before : Pairs K) (xs : List (K × Pairs K)) (part : K × Pairs K) (ys : List (K × Pairs K)) → 0 < length part.1
      → ArePartsInOrder cmp before (xs ++ part ∷ ys) → ArePartsInOrder cmp before (xs ++ ys)
  parts-drop before [] part [] some h = tt
  parts-drop before [] part (y ∷ ys) some h = (above-past before part.0 y.0 part.1 some h.0 h.1 h.2.0, h.2.1, h.2.2)
  parts-drop before (x ∷ xs) part ys some h = (h.0, h.1, parts-drop x.1 xs part ys some h.2)

  -- a part's key may rise as long as it is at most the part's pairs
  pub parts-raise : (before : Pairs K) (xs : List (K × Pairs K)) (low high : K) (own : Pairs K) (ys : List (K × Pairs K)) → cmp low high ≡ Less → IsAtMost cmp high own
      → ArePartsInOrder cmp before (xs ++ (low, own) ∷ ys) → ArePartsInOrder cmp before (xs ++ (high, own) ∷ ys)
  parts-raise before [] low high own ys lt b h = (each-mono _ _ before (λ p e. total.trans p.0 low high e lt) h.0, b, h.2)
  parts-raise before (x ∷ xs) low high own ys lt b h = (h.0, h.1, parts-raise x.1 xs low high own ys lt b h.2)
