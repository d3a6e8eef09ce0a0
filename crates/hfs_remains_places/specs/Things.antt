-- All things: the items, and the folders that only a thread names.
use Rattle.std.specs.Prelude.{ℕ, Bool, ◌||◌, ◌==◌, if◌then◌else◌, List, [], ◌∷◌, ◌++◌, Option, Some, None}
use Rattle.std.specs.Option.{is_some}
use Rattle.hfs_remains_places.specs.declared.things.Thing.{Thing}
use Rattle.hfs_remains_places.specs.Folders.{place_of}

-- the number has a folder among things already, or it is that of the payload
abbrev pub is_taken : List Thing → ℕ → Bool
is_taken things number = (number == 2) || is_some (place_of things number)

abbrev pub with_numbered : List Thing → Thing → Option ℕ → List Thing
with_numbered things thing None = things
with_numbered things thing (Some number) = if is_taken things number then things else things ++ thing ∷ []

-- a named folder follows the things where there is no folder of its number
abbrev pub with_named : List Thing → Thing → List Thing
with_named things thing = with_numbered things thing thing.folder

abbrev pub named_behind : List Thing → List Thing → List Thing
named_behind things [] = things
named_behind things (t ∷ ts) = named_behind (with_named things t) ts

-- the items, and after them the named folders
abbrev pub things_of : List Thing → List Thing → List Thing
things_of items namings = named_behind items namings

-- the place of the folder of a number: the folder 2 is the payload itself, and has none
abbrev pub folder_of : List Thing → ℕ → Option ℕ
folder_of things number = if number == 2 then None else place_of things number
