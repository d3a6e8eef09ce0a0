-- Paths of what lies in a folder of a host.
use Rattle.std.specs.Prelude.{ℕ, ◌-◌, Bool, ◌&&◌, ◌==◌, nat_le, if◌then◌else◌, List, ◌++◌, codes, length, slice_index, take, drop, Option, Some, None, bytes_eq}

abbrev pub ends_in_slash : List ℕ → Bool
ends_in_slash path = nat_le 1 (length path) && (slice_index path (length path - 1) == 47)

-- of what has a name in a folder, whose path may end in a slash
unfoldable pub entry_path : List ℕ → List ℕ → List ℕ
entry_path folder name = if ends_in_slash folder then folder ++ name else folder ++ (codes "/" ++ name)

-- of what belongs to that by its name
unfoldable pub double_path : List ℕ → List ℕ → List ℕ
double_path folder name = if ends_in_slash folder then folder ++ (codes "._" ++ name) else folder ++ (codes "/._" ++ name)

-- what follows `._` in a name that begins so
abbrev pub behind_mark : List ℕ → Option (List ℕ)
behind_mark name = if bytes_eq (take 2 name) (codes "._") then Some (drop 2 name) else None
