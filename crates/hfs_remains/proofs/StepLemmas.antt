-- What is made of a list's elements, one after the other.
use Rattle.std.proofs.Common.{◌≡◌, ℕ, ◌+◌, ◌<◌, ◌≤◌, List, ◌++◌, length, drop, get_or, sym, ap, ◌∙◌, append_assoc}
use Rattle.std.specs.List.{flat_map}
use Rattle.std.proofs.lemmas.List.{drop_more, drop_all, append-nil}

module _ {X A : Type 0} (f : X → List A) where
  -- one more element
  pub step-drop : (xs : List X) (i : ℕ) (x : X) (old new all : List A) → i < length xs → x ≡ get_or xs i x → new ≡ old ++ f x
      → old ++ flat_map f (drop i xs) ≡ all → new ++ flat_map f (drop (i + 1) xs) ≡ all
  step-drop xs i x old new all within is more before =
      ap (λ (l : List A). l ++ flat_map f (drop (i + 1) xs)) more
      ∙ append_assoc old (f x) (flat_map f (drop (i + 1) xs))
      ∙ ap (λ (y : X). old ++ (f y ++ flat_map f (drop (i + 1) xs))) is
      ∙ ap (λ (l : List X). old ++ flat_map f l) (sym (drop_more xs i x within))
      ∙ before

  -- no element is left
  pub end-drop : (xs : List X) (i : ℕ) (made all : List A) → length xs ≤ i → made ++ flat_map f (drop i xs) ≡ all → made ≡ all
  end-drop xs i made all over is =
      sym (append-nil made) ∙ ap (λ (l : List X). made ++ flat_map f l) (sym (drop_all i xs over)) ∙ is
