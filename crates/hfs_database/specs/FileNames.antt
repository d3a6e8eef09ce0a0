-- Names that SQLite takes for something else than that of a file.
use Rattle.std.specs.Prelude.{ℕ, Bool, ◌&&◌, ◌||◌, nat_eq, nat_le, List, codes, length, take}
use Rattle.std.specs.Cmp.Lexicographic.{pointwise}

-- the database in memory, and what begins as an address
abbrev pub is_no_file_name : List ℕ → Bool
is_no_file_name path = pointwise nat_eq path (codes ":memory:") || (nat_le 5 (length path) && pointwise nat_eq (take 5 path) (codes "file:"))
