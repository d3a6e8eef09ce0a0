-- Lists in which no number stands twice.
use Rattle.std.proofs.Common.{◌≡◌, ◌≢◌, ℕ, zero, suc, ◌<◌, List, [], ◌∷◌, ◌++◌, length, map, get_or, take, drop, refl, sym, ap, subst, arith, append_assoc}
use Rattle.std.proofs.Common.{◌≤◌, inl, inr}
use Rattle.std.specs.Prelude.{insert, true, false}
use Rattle.std.specs.List.{range_with_len}
use Rattle.std.proofs.lemmas.Bool.{cases_lt}
use Rattle.std.proofs.lemmas.List.{get_or_past}
use Rattle.std.proofs.lemmas.List.FromFn.{length-map-range_with_len}
use Rattle.hfs_btree.specs.Header.{marks, is_marked, header_in, map_bytes, bit_of}
use Rattle.hfs_fields.specs.Each.{Each}
use Rattle.hfs_btree.specs.Tree.{Store, first_of}
use Rattle.hfs_btree.specs.Sound.{IsOther, IsDistinct}
use Rattle.hfs_fields.proofs.ElementLemmas.{each-append, each-left, each-right}

-- the numbers about one of them are others
pub apart-at : (xs ys : List ℕ) (x : ℕ) → IsDistinct (xs ++ x ∷ ys) → Each (IsOther x) xs × Each (IsOther x) ys
apart-at [] ys x h = (tt, h.0)
apart-at (a ∷ xs) ys x h =
    let rest = apart-at xs ys x h.1 in
    let other : x ≢ a = (each-right (IsOther a) xs (x ∷ ys) h.0).0 in
    ((λ e. other (sym e), rest.0), rest.1)

-- another number is put in
pub distinct-put : (xs ys : List ℕ) (m : ℕ) → IsDistinct (xs ++ ys) → Each (IsOther m) (xs ++ ys) → IsDistinct (xs ++ m ∷ ys)
distinct-put [] ys m h other = (other, h)
distinct-put (a ∷ xs) ys m h other =
    let is : a ≢ m = other.0 in (
      each-append (IsOther a) xs (m ∷ ys) (each-left (IsOther a) xs ys h.0) (λ e. is (sym e), each-right (IsOther a) xs ys h.0),
      distinct-put xs ys m h.1 other.1,
    )

-- a mapped list with one more behind a place
pub map-insert : {X Y : Type 0} (f : X → Y) (xs : List X) (q : ℕ) (x d : X) → q < length xs
    → map f (insert xs (suc q) x) ≡ map f (take q xs) ++ f (get_or xs q d) ∷ f x ∷ map f (drop (suc q) xs)
map-insert f [] q x d lt = absurd (omega arith)
map-insert f (y ∷ xs) zero x d lt = refl
map-insert f (y ∷ xs) (suc q) x d lt = ap (λ ys. f y ∷ ys) (map-insert f xs q x d (omega arith))

-- where a number stands in a list of five parts
pub in-second : (o u b h r : List ℕ) (p : ℕ) → o ++ (u ++ ((b ++ p ∷ h) ++ r)) ≡ (o ++ (u ++ b)) ++ p ∷ (h ++ r)
in-second o u b h r p = simp append_assoc

pub in-third : (o u v b h r : List ℕ) (n : ℕ) → o ++ (u ++ (v ++ ((b ++ n ∷ h) ++ r))) ≡ (o ++ (u ++ (v ++ b))) ++ n ∷ (h ++ r)
in-third o u v b h r n = simp append_assoc

pub behind-third : (o u v b h r : List ℕ) (n m : ℕ) → o ++ (u ++ (v ++ ((b ++ n ∷ m ∷ h) ++ r))) ≡ (o ++ (u ++ (v ++ (b ++ n ∷ [])))) ++ m ∷ (h ++ r)
behind-third o u v b h r n m = simp append_assoc

pub front-third : (o u v b h r : List ℕ) (n : ℕ) → o ++ (u ++ (v ++ ((b ++ n ∷ h) ++ r))) ≡ (o ++ (u ++ (v ++ (b ++ n ∷ [])))) ++ (h ++ r)
front-third o u v b h r n = simp append_assoc

-- the number behind a place, where there is one, is none of the others
pub right-others : (o u v b h r : List ℕ) (n : ℕ) → IsDistinct (o ++ (u ++ (v ++ ((b ++ n ∷ h) ++ r)))) → Each (IsOther 0) (u ++ (v ++ ((b ++ n ∷ h) ++ r)))
    → Each (IsOther (first_of h)) (u ++ (v ++ b)) × Each (IsOther (first_of h)) (drop 1 h ++ r)
right-others o u v b [] r n distinct some =
    let shape : u ++ (v ++ ((b ++ n ∷ []) ++ r)) ≡ (u ++ (v ++ b)) ++ n ∷ r = simp append_assoc in
    let P : List ℕ → Type 0 = λ xs. Each (IsOther 0) xs in
    let all = subst P shape some in
    (each-left (IsOther 0) (u ++ (v ++ b)) (n ∷ r) all, (each-right (IsOther 0) (u ++ (v ++ b)) (n ∷ r) all).1)
right-others o u v b (y ∷ h) r n distinct some =
    let P : List ℕ → Type 0 = λ xs. IsDistinct xs in
    let both = apart-at (o ++ (u ++ (v ++ (b ++ n ∷ [])))) (h ++ r) y (subst P (behind-third o u v b h r n y) distinct) in
    let shape : u ++ (v ++ (b ++ n ∷ [])) ≡ (u ++ (v ++ b)) ++ n ∷ [] = simp append_assoc in
    let Q : List ℕ → Type 0 = λ xs. Each (IsOther y) xs in
    let left = subst Q shape (each-right (IsOther y) o (u ++ (v ++ (b ++ n ∷ []))) both.0) in
    (each-left (IsOther y) (u ++ (v ++ b)) (n ∷ []) left, both.1)

pub nonzero : (m : ℕ) → 0 ≢ m → 1 ≤ m
nonzero zero other = absurd (other refl)
nonzero (suc m) other = omega arith

pub each-take : {X : Type 0} (P : X → Type 0) (i : ℕ) (xs : List X) → Each P xs → Each P (take i xs)
each-take P zero xs h = tt
each-take P (suc i) [] h = tt
each-take P (suc i) (x ∷ xs) h = (h.0, each-take P i xs h.1)

pub each-drop : {X : Type 0} (P : X → Type 0) (i : ℕ) (xs : List X) → Each P xs → Each P (drop i xs)
each-drop P zero xs h = h
each-drop P (suc i) [] h = tt
each-drop P (suc i) (x ∷ xs) h = each-drop P i xs h.1

-- a node that is marked is one of the tree's
pub marked-within : (nodes : Store) (m : ℕ) → is_marked nodes m ≡ true → m < (header_in nodes).nodes
unfolding marks
marked-within nodes m h =
    elim (cases_lt m (header_in nodes).nodes) [
      | inl lt ↦ lt
      | inr ge ↦ absurd (
          let len = length-map-range_with_len (bit_of (map_bytes nodes)) 0 (header_in nodes).nodes in
          let none = get_or_past (map (bit_of (map_bytes nodes)) (range_with_len 0 (header_in nodes).nodes)) m false (omega (arith, len)) in
          cc
          )
    ]
