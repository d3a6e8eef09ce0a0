-- What lies in a folder, by what was asked of the system.
use Rattle.std.specs.Prelude.{ℕ, ◌/◌, List, [], ◌∷◌, true, false, eqb, if◌then◌else◌, Option, Some, None, option_map, unwrap_or}
use Rattle.hfs_bag.specs.Entries.{ShelfEntry, with_folder, with_file, with_piece, with_time}
use Rattle.hfs_bag.specs.SystemSteps.{Asked, SystemStep, made_folder, opened, wrote, timed, closed, moved, removed_file, found_folder, removed_folder, looked, listed, named, done, failed}

-- the code of a slash
abbrev pub slash : ℕ
slash = 47

-- what follows a folder's path and a slash, where a path begins so
abbrev pub path_in : List ℕ → List ℕ → Option (List ℕ)
path_in [] [] = None
path_in [] (c ∷ path) = if eqb c slash then Some path else None
path_in (c ∷ folder) [] = None
path_in (c ∷ folder) (d ∷ path) = if eqb c d then path_in folder path else None

-- so many seconds are so many nanoseconds
unfoldable pub seconds_in : ℕ → ℕ
seconds_in nanos = nanos / 1_000_000_000

-- what was asked in vain changes nothing but the time that a file is to have, which it may not get
abbrev pub asked_in_vain : List ShelfEntry → Asked → List ShelfEntry
asked_in_vain given (made_folder path) = given
asked_in_vain given (opened new path) = given
asked_in_vain given (wrote bytes) = given
asked_in_vain given (timed time) = with_time given (seconds_in time)
asked_in_vain given closed = given
asked_in_vain given (moved from to) = given
asked_in_vain given (removed_file path) = given
asked_in_vain given (found_folder path) = given
asked_in_vain given (removed_folder path) = given
asked_in_vain given (looked path there) = given
asked_in_vain given (listed path) = given
asked_in_vain given (named bytes) = given

-- what was made in a folder, with the times and the bytes of its files, since anything else was made, opened, moved or removed, as the folder itself was
-- made: then nothing was made in it
abbrev pub made_in : List ℕ → List SystemStep → List ShelfEntry
made_in folder [] = []
made_in folder (failed asked ∷ before) = asked_in_vain (made_in folder before) asked
made_in folder (done (made_folder path) ∷ before) = unwrap_or (option_map (with_folder (made_in folder before)) (path_in folder path)) []
made_in folder (done (opened true path) ∷ before) = unwrap_or (option_map (λ (path : List ℕ). with_file (made_in folder before) path None) (path_in folder path)) []
made_in folder (done (opened false path) ∷ before) = []
made_in folder (done (wrote bytes) ∷ before) = with_piece (made_in folder before) bytes
made_in folder (done (timed time) ∷ before) = with_time (made_in folder before) (seconds_in time)
made_in folder (done closed ∷ before) = made_in folder before
made_in folder (done (moved from to) ∷ before) = []
made_in folder (done (removed_file path) ∷ before) = []
made_in folder (done (found_folder path) ∷ before) = made_in folder before
made_in folder (done (removed_folder path) ∷ before) = []
made_in folder (done (looked path there) ∷ before) = made_in folder before
made_in folder (done (listed path) ∷ before) = made_in folder before
made_in folder (done (named bytes) ∷ before) = made_in folder before

-- what a shelf was given: what was made in its folder, where the file that was made last gets a time when it is let go of
abbrev pub given_by : List ℕ → Option ℕ → List SystemStep → List ShelfEntry
given_by folder None steps = made_in folder steps
given_by folder (Some time) steps = with_time (made_in folder steps) time
