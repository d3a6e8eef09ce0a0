-- The nodes of a level in turn.
use Rattle.std.proofs.Common.{◌≡◌, ℕ, zero, suc, ◌+◌, ◌-◌, ◌<◌, ◌≤◌, Bool, true, false, List, [], ◌∷◌, ◌++◌, length, get_or, set, take, drop, Option, Some, Result, Ok, Err, subst, refl, sym, ap, ◌∙◌, arith, inl, inr, append-nil}
use Rattle.std.specs.Prelude.{◌&&◌, ◌||◌, ◌==◌, not, cond, min}
use Rattle.std.specs.List.{flat_map, sum_by}
use Rattle.std.specs.Result.{IsErrAnd, IfErr, MatchResult}
use Rattle.std.proofs.lemmas.Bool.{cases_eq, eq-eqb, ne_eqb, cond-true, cond-false}
use Rattle.std.proofs.lemmas.List.{drop_more, drop_all, take_more, get_or-set_same, get_or-set_other}
use Rattle.std.proofs.lemmas.List.Concat.{flat_map-append}
use Rattle.std.proofs.lemmas.List.Sums.{sum_by-append}
use Rattle.hfs_btree.specs.declared.key.Key.{Ghosts}
use Rattle.hfs_btree.specs.Tree.{Store, Spot, spots, turn, children, first_of, last_of, last_level}
use Rattle.hfs_btree_checks.specs.Shape.{is_right, turn_fault}
use Rattle.hfs_btree_checks.specs.ShapeSteps.{is_met, IsFault, IsWrongAt}
use Rattle.hfs_btree_checks.specs.declared.fault.TreeFault.{TreeFault}
use Rattle.hfs_btree_checks.specs.declared.fault.TreeFault.TheVariants.{At, Memory}

-- ---- marks of nodes that were met

pub met-one : (met : List Bool) (n : ℕ) → n < length met → (k : ℕ) → is_met (set met n true) k ≡ ((k == n) || is_met met k)
met-one met n lt k =
    elim (cases_eq k n) [
      | inl e ↦ rw (e, eq-eqb n n refl) (get_or-set_same met n true false lt)
      | inr d ↦ get_or-set_other met n k true false d ∙ ap (λ (b : Bool). b || is_met met k) (sym (ne_eqb k n d))
    ]

pub met-more : (met : List Bool) (n : ℕ) → n < length met → (λ (k : ℕ). (k == n) || is_met met k) ≡ is_met (set met n true)
met-more met n lt = λ j k. sym (met-one met n lt k) j

-- ---- one node of a level

module _ {K : Type 0} (g : Ghosts K) (nodes : Store) (met : List Bool) (above left : ℕ) (level : List ℕ) (i n right : ℕ) (lt : i < length level) (is : get_or level i 0 ≡ n)
    (next : first_of (drop (i + 1) level) ≡ right) where
  abbrev spot : Spot
  spot = record { left = left; n = n; right = right; above = above }

  abbrev others : List Spot → List Spot
  others rest = spots above n (drop (i + 1) level) ++ rest

  here : drop i level ≡ n ∷ drop (i + 1) level
  here = drop_more level i 0 lt ∙ ap (λ (x : ℕ). x ∷ drop (i + 1) level) is

  opened : (rest : List Spot) → turn_fault g nodes (is_met met) (spots above left (drop i level) ++ rest)
      ≡ cond (is_right g nodes spot && not (is_met met n)) (turn_fault g nodes (λ k. (k == n) || is_met met k) (others rest)) (Some n)
  opened rest =
      ap (λ (ns : List ℕ). turn_fault g nodes (is_met met) (spots above left ns ++ rest)) here
      ∙ ap (λ (r : ℕ). cond (is_right g nodes (record { left = left; n = n; right = r; above = above }) && not (is_met met n)) (turn_fault g nodes (λ k. (k == n) || is_met met k) (others rest)) (Some n)) next

  pub stops : (is_right g nodes spot && not (is_met met n)) ≡ false → (rest : List Spot) → turn_fault g nodes (is_met met) (spots above left (drop i level) ++ rest) ≡ Some n
  stops wrong rest = opened rest ∙ cond-false _ _ _ wrong

  pub goes-on : (is_right g nodes spot && not (is_met met n)) ≡ true → n < length met
      → (rest : List Spot) → turn_fault g nodes (is_met met) (spots above left (drop i level) ++ rest) ≡ turn_fault g nodes (is_met (set met n true)) (others rest)
  goes-on right' within rest =
      opened rest ∙ cond-true _ _ _ right' ∙ ap (λ (f : ℕ → Bool). turn_fault g nodes f (others rest)) (met-more met n within)

-- ---- what comes after a place

pub next-is : (level : List ℕ) (i : ℕ) → i < length level → first_of (drop i level) ≡ get_or level i 0
next-is level i lt = ap first_of (drop_more level i 0 lt)

pub next-none : (level : List ℕ) (i : ℕ) → length level ≤ i → first_of (drop i level) ≡ 0
next-none level i le = ap first_of (drop_all i level le)

-- the children so far, with those of one node more
pub more-children : (f : ℕ → List ℕ) (level : List ℕ) (i n : ℕ) → i < length level → get_or level i 0 ≡ n → flat_map f (take (i + 1) level) ≡ flat_map f (take i level) ++ f n
more-children f level i n lt is =
    ap (flat_map f) (take_more level i 0 lt ∙ ap (λ (x : ℕ). take i level ++ x ∷ []) is) ∙ flat_map-append f (take i level) (n ∷ []) ∙ ap (λ (xs : List ℕ). flat_map f (take i level) ++ xs) (append-nil (f n))

-- the records so far, with those of one node more
pub more-records : (f : ℕ → ℕ) (level : List ℕ) (i n : ℕ) → i < length level → get_or level i 0 ≡ n → sum_by f (take (i + 1) level) ≡ sum_by f (take i level) + f n
more-records f level i n lt is =
    ap (sum_by f) (take_more level i 0 lt ∙ ap (λ (x : ℕ). take i level ++ x ∷ []) is) ∙ sum_by-append f (take i level) (n ∷ []) ∙ omega arith

-- ---- the answer of a part, passed on

pub passed-on : {A : Type 0} (r : Result A TreeFault) (e : TreeFault) (P : TreeFault → Type 0) → IsErrAnd r (λ x. x ≡ e) → P e → IfErr r P
passed-on (Ok a) e P is p = tt
passed-on (Err x) e P is p = subst P (sym is) p

pub named : (test : Bool) (n : ℕ) (fault : Option ℕ) (e : TreeFault) → IsWrongAt test n e → (test ≡ false → fault ≡ Some n) → IsFault fault e
named test n fault (At m) wrong stops = stops wrong.1 ∙ ap Some (sym wrong.0)
named test n fault Memory wrong stops = tt

-- a count that stays at its greatest number
pub kept-min : (total count most records : ℕ) → records ≡ min total most → min (records + count) most ≡ min (total + count) most
kept-min total count most records h = omega arith

-- ---- levels

module _ {K : Type 0} (g : Ghosts K) (nodes : Store) where
  pub turn-step : (below next : ℕ) (level : List ℕ) → below ≡ suc next → turn g nodes below level ≡ spots next 0 level ++ turn g nodes next (flat_map (children g nodes) level)
  turn-step below next level e = ap (λ (k : ℕ). turn g nodes k level) e

  lower : (next : ℕ) (level : List ℕ) → 1 ≤ next → last_level g nodes (suc next) level ≡ last_level g nodes next (flat_map (children g nodes) level)
  lower zero level some = absurd (omega arith)
  lower (suc k) level some = refl

  pub last_level-one : (below : ℕ) (level : List ℕ) → below ≡ 1 → last_level g nodes below level ≡ level
  last_level-one below level e = ap (λ (k : ℕ). last_level g nodes k level) e

pub last_of-at : (n : ℕ) (ns : List ℕ) → last_of (n ∷ ns) ≡ get_or (n ∷ ns) (length ns) 0
last_of-at n [] = refl
last_of-at n (m ∷ ms) = last_of-at m ms

pub last_of-end : (level : List ℕ) → 0 < length level → last_of level ≡ get_or level (length level - 1) 0
last_of-end [] some = absurd (omega arith)
last_of-end (n ∷ ns) some = last_of-at n ns ∙ ap (λ (i : ℕ). get_or (n ∷ ns) i 0) (omega arith)

pub passed-fault : {A : Type 0} (r : Result A TreeFault) (e : TreeFault) (Q : A → Type 0) (P : TreeFault → Type 0) → IsErrAnd r (λ x. x ≡ e) → P e → MatchResult r Q P
passed-fault (Ok a) e Q P is p = absurd is
passed-fault (Err x) e Q P is p = subst P (sym is) p
