-- Sets of rows of bytes.
use Rattle.std.specs.Prelude.{◌≡◌, ℕ, Bool, ◌||◌, List}
use Rattle.std.specs.List.{list_any}
use Rattle.std.specs.Str.{bytes_eq}
use Rattle.std.proofs.Common.{Vec, Global}

-- the row is one of these
abbrev pub has_row : List (Vec ℕ Global) → Vec ℕ Global → Bool
has_row rows row = list_any (λ other. bytes_eq row.items other.items) rows

-- the row is one of them now, besides the old ones
abbrev pub AddsRow : Vec ℕ Global → List (Vec ℕ Global) → List (Vec ℕ Global) → Type 0
AddsRow row old new = (other : Vec ℕ Global) → has_row new other ≡ (has_row old other || bytes_eq row.items other.items)
