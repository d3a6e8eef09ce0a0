-- Names of one folder, one after the other.
use Rattle.std.proofs.Common.{◌≡◌, ℕ, ◌+◌, ◌<◌, ◌≤◌, ◌||◌, Bool, List, [], ◌∷◌, ◌++◌, Vec, Global, length, take, drop, get_or, sym, ap, ◌∙◌}
use Rattle.std.specs.List.{list_any}
use Rattle.std.specs.Str.{bytes_eq}
use Rattle.std.proofs.lemmas.List.{append-nil, append_assoc, take_more, at_drop_more, at_drop_all, get_or_default}
use Rattle.std.proofs.lemmas.List.Folds.{list_any_more}
use Rattle.std.proofs.lemmas.Map.Text.{is_eq-slice_cmp}
use Rattle.hfs_fields.specs.Order.{folded}
use Rattle.hfs_put_plan.specs.Seen.{AddsRow, KnowsNames, has_folded, has_row}
use Rattle.hfs_put_plan.specs.Twins.{is_twin, later_twins, name_at, twins_behind}

-- the rows of the names up to one
pub knows-row : (rows later : List (Vec ℕ Global)) (names : List (List ℕ)) (place : ℕ) (row : Vec ℕ Global) → place < length names → row.items ≡ folded (name_at names place)
    → AddsRow row rows later → KnowsNames rows (take place names) → KnowsNames later (take (place + 1) names)
knows-row rows later names place row within is adds known other =
    adds other
    ∙ (λ t. known other t || bytes_eq (is t) other.items)
    ∙ sym (list_any_more (λ name. bytes_eq (folded name) other.items) names place [] within)

twin-folded : (names : List (List ℕ)) (name : List ℕ) → is_twin names name ≡ has_folded names (folded name)
twin-folded names name = λ t. list_any (λ other. is_eq-slice_cmp (folded other) (folded name) t) names

-- the name at a place
pub twin-at : (rows : List (Vec ℕ Global)) (names : List (List ℕ)) (place : ℕ) (row : Vec ℕ Global) → row.items ≡ folded (name_at names place)
    → KnowsNames rows (take place names) → has_row rows row ≡ is_twin (take place names) (name_at names place)
twin-at rows names place row is known =
    known row ∙ ap (has_folded (take place names)) is ∙ sym (twin-folded (take place names) (name_at names place))

pub read-is : (names : List (List ℕ)) (place : ℕ) (name : List ℕ) → place < length names → name ≡ get_or names place name → name ≡ name_at names place
read-is names place name within is = is ∙ get_or_default names place name [] within

-- one more
pub twins-step : (names : List (List ℕ)) (made : List Bool) (twin : Bool) (place : ℕ) → place < length names
    → twin ≡ is_twin (take place names) (name_at names place)
    → made ++ twins_behind (take place names) (drop place names) ≡ twins_behind [] names
    → (made ++ twin ∷ []) ++ twins_behind (take (place + 1) names) (drop (place + 1) names) ≡ twins_behind [] names
twins-step names made twin place within is before =
    (λ t. (made ++ twin ∷ []) ++ twins_behind (take_more names place [] within t) (drop (place + 1) names))
    ∙ append_assoc made (twin ∷ []) (twins_behind (take place names ++ name_at names place ∷ []) (drop (place + 1) names))
    ∙ (λ t. made ++ is t ∷ twins_behind (take place names ++ name_at names place ∷ []) (drop (place + 1) names))
    ∙ ap (λ (l : List Bool). made ++ l) (sym (at_drop_more (twins_behind (take place names)) names place [] within))
    ∙ before

pub twins-done : (names : List (List ℕ)) (made : List Bool) (place : ℕ) → length names ≤ place
    → made ++ twins_behind (take place names) (drop place names) ≡ twins_behind [] names
    → made ≡ later_twins names
unfolding later_twins
twins-done names made place all before =
    sym (append-nil made)
    ∙ ap (λ (l : List Bool). made ++ l) (sym (at_drop_all (twins_behind (take place names)) names place all))
    ∙ before
