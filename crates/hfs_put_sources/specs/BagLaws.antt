-- The paths of a bag's tag files are those of the walk over what lies in it.
use Rattle.std.specs.Prelude.{◌≡◌, ℕ, ◌<◌, IsFalse, List, [], ◌++◌, codes, length}
use Rattle.hfs_put_sources.specs.Paths.{ends_in_slash, entry_path}

pub record ArePathsOfWalk (source : List ℕ) : Type 0 where
  -- what has a name in the payload
  pub at_top : (name : List ℕ) → entry_path (entry_path source (codes "data")) name ≡ entry_path source (codes "data/") ++ name
  -- what has a name in a folder that has this path below the payload
  pub inside : (path name : List ℕ) → 0 < length path → IsFalse (ends_in_slash path)
      → entry_path (entry_path source (codes "data/") ++ path) name ≡ entry_path source (codes "data/") ++ (path ++ (codes "/" ++ name))
  -- a manifest has the payload's name before it
  pub in_manifest : (path : List ℕ) → entry_path source [] ++ (codes "data/" ++ path) ≡ entry_path source (codes "data/") ++ path
