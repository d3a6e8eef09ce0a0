-- Sets of rows of bytes, as they are looked up.
use Rattle.std.proofs.Common.{◌≡◌, ℕ, Bool, true, false, cond, ◌||◌, List, [], ◌∷◌, ◌++◌, Vec, Global, refl, sym, ap, ◌∙◌}
use Rattle.std.specs.List.{list_any}
use Rattle.std.specs.Str.{bytes_eq}
use Rattle.std.specs.Ordering.{is_eq, nat_cmp}
use Rattle.std.specs.Cmp.Lexicographic.{slice_cmp}
use Rattle.std.proofs.lemmas.Map.Text.{is_eq-slice_cmp}
use Rattle.hfs_remains_places.specs.Rows.{has_row, AddsRow}
use Rattle.hfs_fields.proofs.DecisionLemmas.{or_there}

pub row-there : (rows : List (Vec ℕ Global)) (row : Vec ℕ Global) → list_any (λ (other : Vec ℕ Global). is_eq (slice_cmp nat_cmp row.items other.items)) rows ≡ has_row rows row
row-there rows row = λ t. list_any (λ (other : Vec ℕ Global). is_eq-slice_cmp row.items other.items t) rows

pub row-put : (old new : List (Vec ℕ Global)) (row : Vec ℕ Global)
    → ((other : Vec ℕ Global) → list_any (λ (k : Vec ℕ Global). is_eq (slice_cmp nat_cmp other.items k.items)) new
    ≡ cond (is_eq (slice_cmp nat_cmp row.items other.items)) true (list_any (λ (k : Vec ℕ Global). is_eq (slice_cmp nat_cmp other.items k.items)) old))
    → AddsRow row old new
row-put old new row put other =
    sym (row-there new other) ∙ put other
    ∙ (λ t. cond (is_eq-slice_cmp row.items other.items t) true (row-there old other t))
    ∙ or_there (bytes_eq row.items other.items) (has_row old other)
