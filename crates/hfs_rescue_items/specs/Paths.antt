-- The item that a path leads to, which is read as the rows print it.
use Rattle.std.specs.Prelude.{ℕ, zero, suc, ◌+◌, Bool, ◌==◌, if◌then◌else◌, List, [], length, Option, None, Some}
use Rattle.std.specs.Option.{is_some, option_map_or}
use Rattle.std.specs.Str.{bytes_eq}
use Rattle.hfs_texts.specs.MacPaths.{mac_path}
use Rattle.hfs_remains_places.specs.Folders.{thing_at}
use Rattle.hfs_rescue_items.specs.declared.found.Found.{Found}
use Rattle.hfs_rescue_items.specs.Found.{names_at}
use Rattle.hfs_rescue_items.specs.declared.paths.PathEnd.{PathEnd}
use Rattle.hfs_rescue_items.specs.declared.paths.PathEnd.TheVariants as end

-- the names that lead to item i, from the root's down; none where it is old or lost
abbrev pub names_of : Found → ℕ → List (List ℕ)
names_of found i = names_at found.places.now found.mdb.now i

-- its rows print this path
unfoldable pub has_path : Found → List ℕ → ℕ → Bool
has_path found path i = bytes_eq (mac_path (names_of found i)) path

-- the first of so many numbers from i on that passes a test
unfoldable pub first_from : (ℕ → Bool) → ℕ → ℕ → Option ℕ
first_from test i zero = None
first_from test i (suc n) = if test i then Some i else first_from test (i + 1) n

-- the first item that has a path; no text is the path of none
unfoldable pub item_at : Found → List ℕ → Option ℕ
item_at found path = if length path == 0 then None else first_from (has_path found path) 0 (length found.items.now)

-- item k is a folder, or a file
abbrev pub end_at : Found → ℕ → PathEnd
end_at found k = if is_some (thing_at found.places.now k).folder then end.Folder k else end.File k

-- what a path leads to
unfoldable pub path_end : Found → List ℕ → PathEnd
path_end found path = option_map_or (end_at found) (item_at found path) end.Nothing
