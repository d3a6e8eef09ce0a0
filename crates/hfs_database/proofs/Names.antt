-- Columns as they are named.
use Rattle.std.proofs.Common.{◌≡◌, refl, ap, List, [], ◌∷◌, ◌++◌, map}
use Rattle.std.specs.Prelude.{flat_map}

-- what is made of each thing that a list is told as is what is made of each of its own
pub told_each : {A B C : Type 0} (tell : A → B) (make : B → List C) (xs : List A) → flat_map make (map tell xs) ≡ flat_map (λ x. make (tell x)) xs
told_each tell make [] = refl
told_each tell make (x ∷ rest) = ap (λ l. make (tell x) ++ l) (told_each tell make rest)
