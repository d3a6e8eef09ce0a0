-- The items of a volume in the order of its table.
use Rattle.std.specs.Prelude.{ℕ, zero, suc, List, [], ◌∷◌, ◌++◌, length, flat_map}
use Rattle.hfs_model.specs.Volume.{Volume, Entry}
use Rattle.hfs_model.specs.Children.{children, entries_of}

-- an item with its ID, and its path: the names from the root's down to its own
pub record Row : Type 0 where
  pub path : List (List ℕ)
  pub entry : Entry

-- the path of what lies in a folder: the folder's, and its own name
abbrev pub path_below : List (List ℕ) → Entry → List (List ℕ)
path_below above e = above ++ e.1.name ∷ []

abbrev pub row_below : List (List ℕ) → Entry → Row
row_below above e = record { path = path_below above e; entry = e }

-- the rows of all that lies in a folder, at most so many folders deep: for each child in name order its row, followed by those of
-- what lies in it
abbrev pub rows_in : List Entry → ℕ → List (List ℕ) → ℕ → List Row
rows_in es zero above dir = []
rows_in es (suc depth) above dir = flat_map (λ (e : Entry). row_below above e ∷ rows_in es depth (path_below above e) e.0) (children es dir)

-- all rows. The root is the one item under 1, and in a lawful volume nothing lies deeper than there are items
abbrev pub rows_of : List Entry → List Row
rows_of es = rows_in es (length es) [] 1

-- the table of a volume
abbrev pub table_of : Volume → List Row
table_of v = rows_of (entries_of v)
