-- The names that lead to things, from the root's down.
use Rattle.std.specs.Prelude.{ℕ, zero, suc, ◌^◌, Bool, ◌||◌, ◌==◌, if◌then◌else◌, List, [], ◌∷◌, codes, reverse, take, Option, Some, None}
use Rattle.std.specs.List.{starts_with}
use Rattle.std.specs.Option.{option_map_or}
use Rattle.hfs_catalog.specs.Indexes.{is_place}
use Rattle.hfs_remains_places.specs.declared.things.Thing.{Thing}
use Rattle.hfs_remains_places.specs.Folders.{thing_at}
use Rattle.hfs_remains_places.specs.Chains.{place_at, ups_of}
use Rattle.hfs_remains_places.specs.Paths.{payload_path, root_of}

-- a path below the payload leads to what is old or lost
unfoldable pub lies_apart : List ℕ → Bool
lies_apart path = starts_with ◌==◌ path (codes "=old/") || starts_with ◌==◌ path (codes "=lost/")

-- the name of the root: its item's, or where that is lost the volume's
abbrev pub root_name : List Thing → List ℕ → List ℕ
root_name things volume = option_map_or (λ root. (thing_at things root).name) (root_of things) volume

-- the name of the thing at a place, and after it those of the folders above it, in so many steps up
unfoldable pub names_up : List Thing → ℕ → Option ℕ → List (List ℕ)
names_up things zero at = []
names_up things (suc k) None = []
names_up things (suc k) (Some i) = (thing_at things i).name ∷ names_up things k (place_at (ups_of things) i)

-- where these names begin: there are none of the root
abbrev pub below_root : List Thing → ℕ → Option ℕ
below_root things i = if is_place (root_of things) i then None else Some i

-- the names that lead to a thing with this path, of a volume of this name; none where it lies apart
abbrev pub names_by : List Thing → List ℕ → ℕ → List ℕ → List (List ℕ)
names_by things volume i path = if lies_apart path then [] else root_name things volume ∷ reverse (names_up things (2 ^ 32) (below_root things i))

abbrev pub names_to : List Thing → List ℕ → ℕ → List (List ℕ)
names_to things volume i = names_by things volume i (payload_path things i)
