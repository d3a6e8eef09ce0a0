-- Items of one folder that are called the same.
use Rattle.std.specs.Prelude.{ℕ, Bool, List, [], ◌∷◌, ◌++◌, get_or}
use Rattle.std.specs.List.{list_any}
use Rattle.hfs_fields.specs.Order.{same_name}

-- one of these is the same name
abbrev pub is_twin : List (List ℕ) → List ℕ → Bool
is_twin before name = list_any (λ other. same_name other name) before

-- of names after others, whether each is that of one before it
abbrev pub twins_behind : List (List ℕ) → List (List ℕ) → List Bool
twins_behind before [] = []
twins_behind before (name ∷ names) = is_twin before name ∷ twins_behind (before ++ name ∷ []) names

-- of all names of a folder
unfoldable pub later_twins : List (List ℕ) → List Bool
later_twins names = twins_behind [] names

-- the name at a place; none where there are fewer
abbrev pub name_at : List (List ℕ) → ℕ → List ℕ
name_at names place = get_or names place []
