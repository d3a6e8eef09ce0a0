-- The nodes of a level, and what holds of each.
use Rattle.std.proofs.Common.{◌≡◌, ℕ, zero, suc, ◌<◌, List, [], ◌∷◌, ◌++◌, length, map, get_or, take, drop, refl, ap, ◌∙◌, arith, length-append}
use Rattle.std.specs.List.{flat_map}
use Rattle.std.proofs.lemmas.List.{length-map}
use Rattle.std.proofs.lemmas.List.Concat.{flat_map-append}
use Rattle.hfs_btree.specs.declared.key.Key.{Ghosts}
use Rattle.hfs_btree.specs.Pairs.{Pairs}
use Rattle.hfs_fields.specs.Each.{Each}
use Rattle.hfs_fields.proofs.ElementLemmas.{each-left, each-right}
use Rattle.hfs_btree.specs.Tree.{Store, Spot, records_in, records_of, children, pair_of, pairs, spots, first_of, turn, under}
use Rattle.hfs_btree.specs.Sound.{IsRight}

pub flat_map-flat_map : {X Y Z : Type 0} (f : Y → List Z) (h : X → List Y) (xs : List X) → flat_map f (flat_map h xs) ≡ flat_map (λ x. flat_map f (h x)) xs
flat_map-flat_map f h [] = refl
flat_map-flat_map f h (x ∷ xs) = flat_map-append f (h x) (flat_map h xs) ∙ ap (λ ys. flat_map f (h x) ++ ys) (flat_map-flat_map f h xs)

-- a mapped list, split at a place
pub map-split : {X Y : Type 0} (f : X → Y) (xs : List X) (q : ℕ) (d : X) → q < length xs → map f xs ≡ map f (take q xs) ++ f (get_or xs q d) ∷ map f (drop (suc q) xs)
map-split f [] q d lt = absurd (omega arith)
map-split f (x ∷ xs) zero d lt = refl
map-split f (x ∷ xs) (suc q) d lt = ap (λ ys. f x ∷ ys) (map-split f xs q d (omega arith))

-- what holds at each spot of a level holds of each node
pub each-spots : (P : Spot → Type 0) (Q : ℕ → Type 0) (k : ℕ) → ((left n right : ℕ) → P (record { left = left; n = n; right = right; above = k }) → Q n) → (left : ℕ) (ns : List ℕ) → Each P (spots k left ns) → Each Q ns
each-spots P Q k f left [] h = tt
each-spots P Q k f left (n ∷ ns) h = (f left n (first_of ns) h.0, each-spots P Q k f n ns h.1)

-- the spot of a node, which is linked to the first of those behind it
pub at-spot : (P : Spot → Type 0) (k left : ℕ) (before : List ℕ) (n : ℕ) (behind : List ℕ) → Each P (spots k left (before ++ n ∷ behind))
    → (l : ℕ) × P (record { left = l; n = n; right = first_of behind; above = k })
at-spot P k left [] n behind h = (left, h.0)
at-spot P k left (m ∷ before) n behind h = at-spot P k m before n behind h.1

module _ {K : Type 0} (g : Ghosts K) (nodes : Store) (P : Spot → Type 0) (right : (spot : Spot) → P spot → IsRight g nodes spot) where
  pub records-some : (spot : Spot) → IsRight g nodes spot → 0 < length (records_in nodes spot.n)
  records-some spot is = let same : length (records_in nodes spot.n) ≡ length is.value.records = ap (λ r. length (records_of r)) is.decodes in let some = is.some in omega arith

  pairs-some : (k left n right' : ℕ) → P (record { left = left; n = n; right = right'; above = k }) → 0 < length (pairs g nodes n)
  pairs-some k left n right' h =
      let some : 0 < length (records_in nodes n) = records-some _ (right _ h) in
      let count = length-map (records_in nodes n) (pair_of g) in
      omega arith

  children-some : (k left n right' : ℕ) → P (record { left = left; n = n; right = right'; above = k }) → 0 < length (children g nodes n)
  children-some k left n right' h =
      let some : 0 < length (records_in nodes n) = records-some _ (right _ h) in
      let count = length-map (records_in nodes n) g.child in
      omega arith

  flat-some : (f : ℕ → Pairs K) (ns : List ℕ) → 0 < length ns → Each (λ n. 0 < length (f n)) ns → 0 < length (flat_map f ns)
  flat-some f [] some h = absurd (omega arith)
  flat-some f (n ∷ ns) some h = let here = h.0 in omega (arith, length-append (f n) (flat_map f ns))

  each-under : (f : ℕ → Pairs K) (ns : List ℕ) → Each (λ n. 0 < length (children g nodes n)) ns → Each (λ n. 0 < length (f n)) (flat_map (children g nodes) ns)
      → Each (λ n. 0 < length (flat_map f (children g nodes n))) ns
  each-under f [] some h = tt
  each-under f (n ∷ ns) some h = (
    flat-some f (children g nodes n) some.0 (each-left _ (children g nodes n) (flat_map (children g nodes) ns) h),
    each-under f ns some.1 (each-right _ (children g nodes n) (flat_map (children g nodes) ns) h),
  )

  -- there is a pair under each node of a level
  pub under-some : (k : ℕ) (ns : List ℕ) → Each P (turn g nodes (suc k) ns) → Each (λ n. 0 < length (under g nodes k n)) ns
  under-some zero ns h = each-spots P _ zero (pairs-some zero) 0 ns (each-left P (spots zero 0 ns) [] h)
  under-some (suc k) ns h =
      each-under (under g nodes k) ns
      (each-spots P _ (suc k) (children-some (suc k)) 0 ns (each-left P (spots (suc k) 0 ns) (turn g nodes (suc k) (flat_map (children g nodes) ns)) h))
      (under-some k (flat_map (children g nodes) ns) (each-right P (spots (suc k) 0 ns) (turn g nodes (suc k) (flat_map (children g nodes) ns)) h))
