-- What is said about files by their paths, where the last that speaks of a path counts.
use Rattle.std.specs.Prelude.{◌≡◌, ℕ, if◌then◌else◌, List, [], ◌∷◌, Option, Some, None, bytes_eq}
use Rattle.std.specs.Map.{lookup}
use Rattle.std.specs.Option.{option_or}
use Rattle.std.proofs.Common.{Vec, Global}

-- what the last of these says that says anything
unfoldable pub last_told : {A X : Type 0} → (A → Option X) → List A → Option X
last_told told [] = None
last_told told (a ∷ rest) = option_or (last_told told rest) (told a)

-- this of one path, and nothing of others
abbrev pub told_of : {X : Type 0} → List ℕ → X → List ℕ → Option X
told_of path value other = if bytes_eq path other then Some value else None

-- paths, each with what is said of it
abbrev pub Entries : Type 0 → Type 0
Entries X = List (Vec ℕ Global × X)

-- what is said about a path
abbrev pub told_at : {X : Type 0} → Entries X → List ℕ → Option X
told_at entries path = lookup (λ (key : Vec ℕ Global). bytes_eq path key.items) entries

-- for each path what this says about it, or else what was known before
abbrev pub Tells : {X : Type 0} → (List ℕ → Option X) → Entries X → Entries X → Type 0
Tells told old new = (path : List ℕ) → told_at new path ≡ option_or (told path) (told_at old path)
