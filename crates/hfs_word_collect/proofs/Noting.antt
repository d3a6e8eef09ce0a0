-- What was read by one opening more.
use Rattle.std.proofs.Common.{◌≡◌, ℕ, List, [], ◌∷◌, ◌++◌, Option, Some, None, subst}
use Rattle.hfs_word_collect.specs.Openings.{HaveRead}

last : {X : Type 0} (Holds : X → List ℕ → Type 0) (xs : List (Option X)) (x : X) (image : List ℕ) → HaveRead Holds (xs ++ Some x ∷ []) image → Holds x image
last Holds [] x image h = h.0
last Holds (None ∷ xs) x image h = last Holds xs x image h
last Holds (Some y ∷ xs) x image h = last Holds xs x image h.1

before : {X : Type 0} (Holds : X → List ℕ → Type 0) (xs : List (Option X)) (x : X) (image : List ℕ) → HaveRead Holds (xs ++ Some x ∷ []) image → HaveRead Holds xs image
before Holds [] x image h = tt
before Holds (None ∷ xs) x image h = before Holds xs x image h
before Holds (Some y ∷ xs) x image h = (h.0, before Holds xs x image h.1)

pub noted : {X : Type 0} (Holds : X → List ℕ → Type 0) (old new : List (Option X)) (x : X) (image : List ℕ) → new ≡ old ++ Some x ∷ [] → HaveRead Holds new image → Holds x image
noted Holds old new x image is h = last Holds old x image (subst (λ (xs : List (Option _)). HaveRead Holds xs image) is h)

pub held_before : {X : Type 0} (Holds : X → List ℕ → Type 0) (old new : List (Option X)) (x : X) (image : List ℕ) → new ≡ old ++ Some x ∷ [] → HaveRead Holds new image → HaveRead Holds old image
held_before Holds old new x image is h = before Holds old x image (subst (λ (xs : List (Option _)). HaveRead Holds xs image) is h)
