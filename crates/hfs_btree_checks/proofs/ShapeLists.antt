-- Tests of each element of a list.
use Rattle.std.proofs.Common.{◌≡◌, ℕ, zero, suc, ◌+◌, ◌<◌, Bool, true, List, [], ◌∷◌, ◌++◌, length, get_or, take, map, ap, sym, ◌∙◌, arith, append_assoc}
use Rattle.std.specs.List.{list_all}
use Rattle.std.proofs.lemmas.Bool.{and_parts}
use Rattle.std.proofs.lemmas.List.{take_more, map-append}

pub all-at : {X : Type 0} (p : X → Bool) (xs : List X) (i : ℕ) (d : X) → list_all p xs ≡ true → i < length xs → p (get_or xs i d) ≡ true
all-at p [] i d h lt = absurd (omega arith)
all-at p (x ∷ xs) zero d h lt = (and_parts (p x) (list_all p xs) h).0
all-at p (x ∷ xs) (suc i) d h lt = all-at p xs i d (and_parts (p x) (list_all p xs) h).1 (omega arith)

-- what stood before, and the map of one element more
pub map-take-more : {X Y : Type 0} (f : X → Y) (before : List Y) (xs : List X) (i : ℕ) (d : X) → i < length xs
    → (before ++ map f (take i xs)) ++ f (get_or xs i d) ∷ [] ≡ before ++ map f (take (i + 1) xs)
map-take-more f before xs i d lt =
    append_assoc before (map f (take i xs)) (f (get_or xs i d) ∷ [])
    ∙ ap (λ ys. before ++ ys) (sym (ap (map f) (take_more xs i d lt) ∙ map-append f (take i xs) (get_or xs i d ∷ [])))
