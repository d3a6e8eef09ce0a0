-- What stands under an ID, as a catalog is gone through.
use Rattle.std.proofs.Common.{◌≡◌, ℕ, zero, suc, ◌+◌, ◌^◌, ◌<◌, Bool, true, false, cond, not, ◌&&◌, ◌||◌, nat_eq, ltb, Bor, List, [], ◌∷◌, ◌++◌, length, get_or, take, refl, sym, ◌∙◌, ap, arith, Option, Some, None}
use Rattle.std.specs.List.{position_from, find, list_any, list_all}
use Rattle.std.specs.Option.{option_or, unwrap_or, option_copied, is_some, IfSome}
use Rattle.std.proofs.lemmas.Bool.{eqb-true, eq-eqb, ne_eqb, lt-ltb, true≢false}
use Rattle.std.proofs.lemmas.List.{take_more, length-take-le}
use Rattle.hfs_catalog.specs.Indexes.{with_number, only_if, is_place}

none_some : (x : ℕ) → None ≡ Some x → ⊥
none_some x e = cc

pub same_some : (x y : ℕ) → Some x ≡ Some y → x ≡ y
same_some x y e = cc

or_none : (o : Option ℕ) → option_or o None ≡ o
or_none None = refl
or_none (Some n) = refl

-- a number that is put where there is none
pub put_where_none : (old new : ℕ → Option ℕ) (id n : ℕ) → old id ≡ None → new ≡ with_number old id n → (k : ℕ) → new k ≡ option_or (old k) (only_if (nat_eq id k) n)
put_where_none old new id n none is k = (λ i. is i k) ∙ elim (nat_eq id k) as (λ (b : Bool). nat_eq id k ≡ b → cond b (Some n) (old k) ≡ option_or (old k) (only_if b n)) [
  | true ↦ λ e. ap (λ (o : Option ℕ). option_or o (Some n)) (sym none ∙ ap old (eqb-true id k e))
  | false ↦ λ e. sym (or_none (old k))
] refl

-- the first number, which is put back in place of one that was put over it
pub put_back : (old mid new : ℕ → Option ℕ) (id n first : ℕ) → old id ≡ Some first → mid ≡ with_number old id n → new ≡ with_number mid id first → (k : ℕ) → new k ≡ option_or (old k) (only_if (nat_eq id k) n)
put_back old mid new id n first there was is k = (λ i. is i k) ∙ elim (nat_eq id k) as (λ (b : Bool). nat_eq id k ≡ b → cond b (Some first) (mid k) ≡ option_or (old k) (only_if b n)) [
  | true ↦ λ e. ap (λ (o : Option ℕ). option_or o (Some n)) (sym there ∙ ap old (eqb-true id k e))
  | false ↦ λ e. (λ i. was i k) ∙ ap (λ (b : Bool). cond b (Some n) (old k)) e ∙ sym (or_none (old k))
] refl

-- a number that is put in place of one that is so much less
pub count_more : (old new : ℕ → Option ℕ) (id n more : ℕ) → n ≡ unwrap_or (old id) 0 → new ≡ with_number old id (n + more) → (k : ℕ) → unwrap_or (new k) 0 ≡ unwrap_or (old k) 0 + cond (nat_eq id k) more 0
count_more old new id n more was is k = (λ i. unwrap_or (is i k) 0) ∙ elim (nat_eq id k) as (λ (b : Bool). nat_eq id k ≡ b → unwrap_or (cond b (Some (n + more)) (old k)) 0 ≡ unwrap_or (old k) 0 + cond b more 0) [
  | true ↦ λ e. let same : unwrap_or (old id) 0 ≡ unwrap_or (old k) 0 = ap (λ (j : ℕ). unwrap_or (old j) 0) (eqb-true id k e) in omega (arith, was, same)
  | false ↦ λ e. omega arith
] refl

-- so many more of one ID, and one more, are a number of 64 bits
pub one_more_fits : (n id more : ℕ) → n + cond (nat_eq id id) more 0 + 1 < 2 ^ 64 → more + 1 < 2 ^ 64
one_more_fits n id more h = let same : cond (nat_eq id id) more 0 ≡ more = ap (λ (b : Bool). cond b more 0) (eq-eqb id id refl) in omega (arith, h, same)

-- ---- the first place

module _ {X : Type 0} (p : X → Bool) where
  from_push : (i : ℕ) (xs : List X) (x : X) → position_from p i (xs ++ x ∷ []) ≡ option_or (position_from p i xs) (only_if (p x) (i + length xs))
  from_push i [] x = ap (λ (n : ℕ). only_if (p x) n) (omega arith)
  from_push i (y ∷ ys) x = elim (p y) as (λ (b : Bool). cond b (Some i) (position_from p (i + 1) (ys ++ x ∷ [])) ≡ option_or (cond b (Some i) (position_from p (i + 1) ys)) (only_if (p x) (i + length (y ∷ ys)))) [
    | true ↦ refl
    | false ↦ from_push (i + 1) ys x ∙ ap (λ (n : ℕ). option_or (position_from p (i + 1) ys) (only_if (p x) n)) (omega arith)
  ]

  pub first_place_more : (xs : List X) (i : ℕ) (x : X) → i < length xs → x ≡ get_or xs i x → position_from p 0 (take (i + 1) xs) ≡ option_or (position_from p 0 (take i xs)) (only_if (p x) i)
  first_place_more xs i x lt is =
      ap (position_from p 0) (take_more xs i x lt ∙ ap (λ (y : X). take i xs ++ y ∷ []) (sym is))
      ∙ from_push 0 (take i xs) x
      ∙ ap (λ (n : ℕ). option_or (position_from p 0 (take i xs)) (only_if (p x) n)) (omega (arith, length-take-le i xs (omega arith)))

  -- what stands at the first place, counted from k
  record StandsAt (k : ℕ) (xs : List X) (j : ℕ) : Type 0 where
    m : ℕ
    place : j ≡ k + m
    within : m < length xs
    stands : (d : X) → find p xs ≡ Some (get_or xs m d)

  stands_at : (k : ℕ) (xs : List X) (j : ℕ) → position_from p k xs ≡ Some j → StandsAt k xs j
  stands_at k [] j is = absurd (none_some j is)
  stands_at k (x ∷ xs) j is = elim (p x) as (λ (b : Bool). p x ≡ b → cond b (Some k) (position_from p (k + 1) xs) ≡ Some j → StandsAt k (x ∷ xs) j) [
    | true ↦ λ e here. record { m = 0; place = omega (arith, same_some k j here); within = omega arith; stands = λ d. ap (λ (b : Bool). cond b (Some x) (find p xs)) e }
    | false ↦ λ e later.
        let rest = stands_at (k + 1) xs j later in
        record { m = suc rest.m; place = omega (arith, rest.place); within = omega (arith, rest.within); stands = λ d. ap (λ (b : Bool). cond b (Some x) (find p xs)) e ∙ rest.stands d }
  ] refl is

  pub found_within : (xs : List X) (i : ℕ) → position_from p 0 xs ≡ Some i → i < length xs
  found_within xs i is = let at = stands_at 0 xs i is in omega (arith, at.place, at.within)

  pub found_is : (xs : List X) (i : ℕ) (x : X) → position_from p 0 xs ≡ Some i → x ≡ get_or xs i x → Some x ≡ find p xs
  found_is xs i x is here =
      let at = stands_at 0 xs i is in
      let same : i ≡ at.m = omega (arith, at.place) in
      ap Some here ∙ ap (λ (n : ℕ). Some (get_or xs n x)) same ∙ sym (at.stands x)

  pub found_get : (xs : List X) (i : ℕ) (o : Option (Bor X)) → position_from p 0 xs ≡ Some i → is_some o ≡ ltb i (length xs) → IfSome o (λ x. x.now ≡ get_or xs i x.now) → option_copied o ≡ find p xs
  found_get xs i None is some at = absurd (true≢false (sym (some ∙ lt-ltb i (length xs) (found_within xs i is))))
  found_get xs i (Some x) is some at = found_is xs i x.now is at

  pub found_none : (k : ℕ) (xs : List X) → position_from p k xs ≡ None → find p xs ≡ None
  found_none k [] is = refl
  found_none k (x ∷ xs) is = elim (p x) as (λ (b : Bool). p x ≡ b → cond b (Some k) (position_from p (k + 1) xs) ≡ None → cond b (Some x) (find p xs) ≡ None) [
    | true ↦ λ e some. absurd (none_some k (sym some))
    | false ↦ λ e later. found_none (k + 1) xs later
  ] refl is

  -- ---- what the first place says

  pub any_place : (k : ℕ) (xs : List X) → is_some (position_from p k xs) ≡ list_any p xs
  any_place k [] = refl
  any_place k (x ∷ xs) = elim (p x) as (λ (b : Bool). is_some (cond b (Some k) (position_from p (k + 1) xs)) ≡ (b || list_any p xs)) [
    | true ↦ refl
    | false ↦ any_place (k + 1) xs
  ]

  -- where the element at i passes, it is the first exactly where none before it does
  first_of_all : (k : ℕ) (xs : List X) (i j : ℕ) (x : X) → j ≡ k + i → i < length xs → x ≡ get_or xs i x → p x ≡ true → is_place (position_from p k xs) j ≡ list_all (λ y. not (p y)) (take i xs)
  first_of_all k [] i j x place lt is h = absurd (omega arith)
  first_of_all k (y ∷ ys) zero j x place lt is h =
      ap (λ (b : Bool). is_place (cond b (Some k) (position_from p (k + 1) ys)) j) (sym (ap p is) ∙ h) ∙ eq-eqb k j (omega arith)
  first_of_all k (y ∷ ys) (suc i) j x place lt is h = elim (p y) as (λ (b : Bool). is_place (cond b (Some k) (position_from p (k + 1) ys)) j ≡ (not b && list_all (λ z. not (p z)) (take i ys))) [
    | true ↦ ne_eqb k j (λ (e : k ≡ j). omega arith)
    | false ↦ first_of_all (k + 1) ys i j x (omega arith) (omega arith) is h
  ]

  pub is_first : (xs : List X) (i : ℕ) (x : X) → i < length xs → x ≡ get_or xs i x → p x ≡ true → is_place (position_from p 0 xs) i ≡ list_all (λ y. not (p y)) (take i xs)
  is_first xs i x lt is h = first_of_all 0 xs i i x (omega arith) lt is h
