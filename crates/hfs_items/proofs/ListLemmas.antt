-- What stands in lists that are made of others, and facts of each element and each later one.
use Rattle.std.proofs.Common.{◌≡◌, ◌⊎◌, inl, inr, ⊎_elim, ℕ, zero, suc, ◌<◌, List, [], ◌∷◌, ◌++◌, length, map, get_or, refl, sym, ap, subst, arith}
use Rattle.std.specs.Prelude.{⊤}
use Rattle.std.specs.List.{flat_map, AllPairs}
use Rattle.hfs_model.proofs.Members.{In}

-- ---- members

pub in_left : {A : Type 0} (xs ys : List A) (x : A) → In x xs → In x (xs ++ ys)
in_left [] ys x i = absurd i
in_left (y ∷ xs) ys x i = ⊎_elim (λ (here : y ≡ x). inl here) (λ (there : In x xs). inr (in_left xs ys x there)) i

pub in_right : {A : Type 0} (xs ys : List A) (x : A) → In x ys → In x (xs ++ ys)
in_right [] ys x i = i
in_right (y ∷ xs) ys x i = inr (in_right xs ys x i)

pub in_append : {A : Type 0} (xs ys : List A) (x : A) → In x (xs ++ ys) → In x xs ⊎ In x ys
in_append [] ys x i = inr i
in_append (y ∷ xs) ys x i = ⊎_elim
    (λ (here : y ≡ x). inl (inl here))
    (λ (there : In x (xs ++ ys)). ⊎_elim (λ (l : In x xs). inl (inr l)) (λ (r : In x ys). inr r) (in_append xs ys x there))
    i

module _ {A B : Type 0} (f : A → List B) where
  pub in_flat_map : (xs : List A) (y : B) → In y (flat_map f xs) → (x : A) × In x xs × In y (f x)
  in_flat_map [] y i = absurd i
  in_flat_map (x ∷ xs) y i = ⊎_elim
      (λ (here : In y (f x)). (x, inl refl, here))
      (λ (there : In y (flat_map f xs)). let rest = in_flat_map xs y there in (rest.0, inr rest.1, rest.2))
      (in_append (f x) (flat_map f xs) y i)

  pub flat_map_in : (xs : List A) (x : A) (y : B) → In x xs → In y (f x) → In y (flat_map f xs)
  flat_map_in [] x y i j = absurd i
  flat_map_in (z ∷ xs) x y i j = ⊎_elim
      (λ (here : z ≡ x). in_left (f z) (flat_map f xs) y (subst (λ (w : A). In y (f w)) (sym here) j))
      (λ (there : In x xs). in_right (f z) (flat_map f xs) y (flat_map_in xs x y there j))
      i

module _ {A B : Type 0} (f : A → B) where
  pub in_map : (xs : List A) (y : B) → In y (map f xs) → (x : A) × In x xs × (f x ≡ y)
  in_map [] y i = absurd i
  in_map (x ∷ xs) y i = ⊎_elim
      (λ (here : f x ≡ y). (x, inl refl, here))
      (λ (there : In y (map f xs)). let rest = in_map xs y there in (rest.0, inr rest.1, rest.2))
      i

  pub map_in : (xs : List A) (x : A) → In x xs → In (f x) (map f xs)
  map_in [] x i = absurd i
  map_in (z ∷ xs) x i = ⊎_elim (λ (here : z ≡ x). inl (ap f here)) (λ (there : In x xs). inr (map_in xs x there)) i

-- ---- each element and each later one

module _ {A : Type 0} (R : A → A → Type 0) where
  abbrev pub Pairs : List A → Type 0
  Pairs [] = ⊤
  Pairs (x ∷ xs) = ((y : A) → In y xs → R x y) × Pairs xs

  pub pairs-append : (xs ys : List A) → Pairs xs → Pairs ys → ((x y : A) → In x xs → In y ys → R x y) → Pairs (xs ++ ys)
  pairs-append [] ys p q across = q
  pairs-append (x ∷ xs) ys p q across = (
    λ y i. ⊎_elim (λ (l : In y xs). p.0 y l) (λ (r : In y ys). across x y (inl refl) r) (in_append xs ys y i),
    pairs-append xs ys p.1 q (λ a b i j. across a b (inr i) j),
  )

  in_at : (xs : List A) (j : ℕ) (d : A) → j < length xs → In (get_or xs j d) xs
  in_at [] j d lt = absurd (omega arith)
  in_at (x ∷ xs) zero d lt = inl refl
  in_at (x ∷ xs) (suc j) d lt = inr (in_at xs j d (omega arith))

  pub all_pairs : (xs : List A) → Pairs xs → AllPairs R xs
  all_pairs [] p i j d lt len = absurd (omega arith)
  all_pairs (x ∷ xs) p i zero d lt len = absurd (omega arith)
  all_pairs (x ∷ xs) p zero (suc j) d lt len = p.0 (get_or xs j d) (in_at xs j d (omega arith))
  all_pairs (x ∷ xs) p (suc i) (suc j) d lt len = all_pairs xs p.1 i j d (omega arith) (omega arith)

  at_in : (xs : List A) (x : A) → In x xs → (j : ℕ) × (j < length xs) × ((d : A) → get_or xs j d ≡ x)
  at_in [] x i = absurd i
  at_in (y ∷ xs) x i = ⊎_elim
      (λ (here : y ≡ x). let first : (j : ℕ) × (j < length (y ∷ xs)) × ((d : A) → get_or (y ∷ xs) j d ≡ x) = (0, omega arith, λ d. here) in first)
      (λ (there : In x xs). let rest = at_in xs x there in let later : (j : ℕ) × (j < length (y ∷ xs)) × ((d : A) → get_or (y ∷ xs) j d ≡ x) = (suc rest.0, omega (arith, rest.1), rest.2) in later)
      i

  pub pairs_all : (xs : List A) → AllPairs R xs → Pairs xs
  pairs_all [] p = tt
  pairs_all (x ∷ xs) p = (
    λ y i. let at = at_in xs y i in subst (λ (z : A). R x z) (at.2 x) (p 0 (suc at.0) x (omega arith) (omega (arith, at.1))),
    pairs_all xs (λ i j d lt len. p (suc i) (suc j) d (omega arith) (omega arith)),
  )

module _ {A B : Type 0} (S : A → A → Type 0) (R : B → B → Type 0) (f : A → List B) where
  -- of lists that stand one behind the other
  pub pairs-flat_map : (xs : List A) → Pairs S xs → ((x : A) → In x xs → Pairs R (f x))
      → ((x y : A) → In x xs → In y xs → S x y → (a b : B) → In a (f x) → In b (f y) → R a b) → Pairs R (flat_map f xs)
  pairs-flat_map [] p own across = tt
  pairs-flat_map (x ∷ xs) p own across =
      pairs-append R (f x) (flat_map f xs) (own x (inl refl)) (pairs-flat_map xs p.1 (λ y i. own y (inr i)) (λ y z i j. across y z (inr i) (inr j)))
      (λ a b i j. let at = in_flat_map f xs b j in across x at.0 (inl refl) (inr at.1) (p.0 at.0 at.1) a b i at.2)
