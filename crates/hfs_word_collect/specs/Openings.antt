-- What was read by openings of a file.
use Rattle.std.specs.Prelude.{⊤, ℕ, List, [], ◌∷◌, Option, Some, None}

-- the image has the bytes that were read of each of these
abbrev pub HaveRead : {X : Type 0} → (X → List ℕ → Type 0) → List (Option X) → List ℕ → Type 0
HaveRead Holds [] image = ⊤
HaveRead Holds (None ∷ rest) image = HaveRead Holds rest image
HaveRead Holds (Some seen ∷ rest) image = Holds seen image × HaveRead Holds rest image
