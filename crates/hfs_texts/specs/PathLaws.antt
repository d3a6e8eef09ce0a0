-- The paths that a table prints, and the names that are read of them.
use Rattle.std.specs.Prelude.{◌≡◌, ℕ, IsTrue, List, ◌∷◌, Some}
use Rattle.std.specs.List.{list_all}
use Rattle.hfs_fields.specs.Names.{is_item_name}
use Rattle.hfs_texts.specs.MacPaths.{mac_path}
use Rattle.hfs_texts.specs.Paths.{path_names}

-- of names as items have them: a printed path is read as the names that it is printed of, and is printed of no others
pub record ArePrintedPathsRead : Type 0 where
  pub read : (name : List ℕ) (names : List (List ℕ)) → IsTrue (list_all is_item_name (name ∷ names)) → path_names (mac_path (name ∷ names)) ≡ Some (name ∷ names)
  pub one : (a b : List ℕ) (more rest : List (List ℕ)) → IsTrue (list_all is_item_name (a ∷ more)) → IsTrue (list_all is_item_name (b ∷ rest))
      → mac_path (a ∷ more) ≡ mac_path (b ∷ rest) → a ∷ more ≡ b ∷ rest
