-- Elements of lists that are joined.
use Rattle.std.proofs.Common.{[], List, ◌≡◌, refl, ◌∷◌, ◌++◌, ◌⊎◌, inr, ⊎_elim, inl}
use Rattle.hfs_fields.specs.Each.{Each}
use Rattle.std.specs.List.{flat_map}
use Rattle.hfs_fields.proofs.ElementLemmas.{each-append}
use Rattle.hfs_fields.specs.Members.{In}

pub flat_map-same : {X Y : Type 0} (f h : X → List Y) (xs : List X) → Each (λ x. f x ≡ h x) xs → flat_map f xs ≡ flat_map h xs
flat_map-same f h [] each = refl
flat_map-same f h (x ∷ xs) each = λ i. each.0 i ++ flat_map-same f h xs each.1 i

pub flat-each : {X Y : Type 0} (P : Y → Type 0) (f : X → List Y) (xs : List X) → Each (λ x. Each P (f x)) xs → Each P (flat_map f xs)
flat-each P f [] h = tt
flat-each P f (x ∷ xs) h = each-append P (f x) (flat_map f xs) h.0 (flat-each P f xs h.1)

pub in_parts : {A : Type 0} (x : A) (xs ys : List A) → In x (xs ++ ys) → In x xs ⊎ In x ys
in_parts x [] ys there = inr there
in_parts x (y ∷ xs) ys there =
    ⊎_elim
    (λ (e : y ≡ x). inl (inl e))
    (λ (later : In x (xs ++ ys)). ⊎_elim (λ (l : In x xs). inl (inr l)) (λ (r : In x ys). inr r) (in_parts x xs ys later))
    there
