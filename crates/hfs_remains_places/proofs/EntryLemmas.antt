-- Entries, one after the other.
use Rattle.std.proofs.Common.{◌≡◌, ℕ, zero, suc, ◌+◌, ◌<◌, ◌≤◌, ◌||◌, Bool, if◌then◌else◌, List, [], ◌∷◌, ◌++◌, Vec, Global, String, length, map, take, drop, get_or, refl, sym, ap, ◌∙◌, arith}
use Rattle.std.specs.Prelude.{string_bytes}
use Rattle.std.specs.Str.{bytes_eq}
use Rattle.std.proofs.lemmas.List.{append-nil, append_assoc, map-append, take_more, at_drop_more, at_drop_all, get_or_default, length-take-le}
use Rattle.std.proofs.lemmas.List.Folds.{list_any_more}
use Rattle.hfs_remains_places.specs.Rows.{has_row, AddsRow}
use Rattle.hfs_remains_places.specs.declared.things.Thing.{Thing}
use Rattle.hfs_remains_places.specs.Folders.{thing_at, nothing}
use Rattle.hfs_texts.specs.HostNames.{host_name}
use Rattle.hfs_remains_places.specs.Entries.{suffix, entry_row, has_entry_row, entry_behind, entries_behind, entries_of, KnowsRows}

-- the rows of the things up to one
pub knows-row : (rows later : List (Vec ℕ Global)) (things : List Thing) (place : ℕ) (row : Vec ℕ Global) → place < length things → row.items ≡ entry_row (thing_at things place)
    → AddsRow row rows later → KnowsRows rows (take place things) → KnowsRows later (take (place + 1) things)
knows-row rows later things place row within is adds known other =
    adds other
    ∙ (λ t. known other t || bytes_eq (is t) other.items)
    ∙ sym (list_any_more (λ thing. bytes_eq (entry_row thing) other.items) things place nothing within)

-- the entry of the thing at a place
pub entry-at : (things : List Thing) (place : ℕ) (thing : Thing) (again : Bool) → place < length things → thing ≡ get_or things place thing
    → again ≡ has_entry_row (take place things) (entry_row thing)
    → (if again then host_name thing.name ++ suffix place thing else host_name thing.name) ≡ entry_behind (take place things) (thing_at things place)
entry-at things place thing again within is told =
    let same : thing ≡ thing_at things place = is ∙ get_or_default things place thing nothing within in
    let number : place ≡ length (take place things) = sym (length-take-le place things (omega (arith, within))) in
    (λ t. if told t then host_name thing.name ++ suffix (number t) thing else host_name thing.name)
    ∙ ap (entry_behind (take place things)) same

pub read-is : (things : List Thing) (place : ℕ) (thing : Thing) → place < length things → thing ≡ get_or things place thing → thing ≡ thing_at things place
read-is things place thing within is = is ∙ get_or_default things place thing nothing within

-- one more entry
pub entries-step : (things : List Thing) (made : List (String Global)) (entry : String Global) (place : ℕ) → place < length things
    → string_bytes entry ≡ entry_behind (take place things) (thing_at things place)
    → map string_bytes made ++ entries_behind (take place things) (drop place things) ≡ entries_behind [] things
    → map string_bytes (made ++ entry ∷ []) ++ entries_behind (take (place + 1) things) (drop (place + 1) things) ≡ entries_behind [] things
entries-step things made entry place within is before =
    (λ t. map-append string_bytes made (entry ∷ []) t ++ entries_behind (take_more things place nothing within t) (drop (place + 1) things))
    ∙ append_assoc (map string_bytes made) (string_bytes entry ∷ []) (entries_behind (take place things ++ thing_at things place ∷ []) (drop (place + 1) things))
    ∙ (λ t. map string_bytes made ++ is t ∷ entries_behind (take place things ++ thing_at things place ∷ []) (drop (place + 1) things))
    ∙ ap (λ (l : List (List ℕ)). map string_bytes made ++ l) (sym (at_drop_more (entries_behind (take place things)) things place nothing within))
    ∙ before

pub entries-done : (things : List Thing) (made : List (String Global)) (place : ℕ) → length things ≤ place
    → map string_bytes made ++ entries_behind (take place things) (drop place things) ≡ entries_behind [] things
    → map string_bytes made ≡ entries_of things
unfolding entries_of
entries-done things made place all before =
    sym (append-nil (map string_bytes made))
    ∙ ap (λ (l : List (List ℕ)). map string_bytes made ++ l) (sym (at_drop_all (entries_behind (take place things)) things place all))
    ∙ before

length-behind : (before things : List Thing) → length (entries_behind before things) ≡ length things
length-behind before [] = refl
length-behind before (t ∷ ts) = ap suc (length-behind (before ++ t ∷ []) ts)

pub length-entries : (things : List Thing) → length (entries_of things) ≡ length things
unfolding entries_of
length-entries things = length-behind [] things
