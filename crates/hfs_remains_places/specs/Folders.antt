-- The folder of a number among things.
use Rattle.std.specs.Prelude.{◌≡◌, ℕ, Bool, false, ◌==◌, List, [], Option, None, slice_index_or}
use Rattle.std.specs.List.{position_from}
use Rattle.std.specs.Option.{option_map_or, option_or}
use Rattle.hfs_catalog.specs.Indexes.{Numbered, number_of, only_if}
use Rattle.hfs_remains_places.specs.declared.things.Thing.{Thing}

-- a thing by its place
abbrev pub nothing : Thing
nothing = record { parent = 0; name = []; folder = None; old = false; named = false }

abbrev pub thing_at : List Thing → ℕ → Thing
thing_at things i = slice_index_or things i nothing

-- the thing is a folder with this number
abbrev pub is_folder_of : ℕ → Thing → Bool
is_folder_of number thing = option_map_or (λ n. n == number) thing.folder false

-- the place of the first that is, from 0 on
abbrev pub place_of : List Thing → ℕ → Option ℕ
place_of things number = position_from (is_folder_of number) 0 things

-- the places that are kept by numbers are these
abbrev pub KnowsFolders : Numbered → List Thing → Type 0
KnowsFolders folders things = (number : ℕ) → number_of folders number ≡ place_of things number

-- the place of a folder is noted, where its number had none
abbrev pub NotesFolder : Thing → ℕ → Numbered → Numbered → Type 0
NotesFolder thing place old new = (number : ℕ) → number_of new number ≡ option_or (number_of old number) (only_if (is_folder_of number thing) place)
