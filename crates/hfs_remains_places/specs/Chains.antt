-- Chains of parents.
use Rattle.std.specs.Prelude.{◌≡◌, ℕ, zero, suc, ◌^◌, ◌<◌, Bool, List, map, Option, Some, None, slice_index_or, length}
use Rattle.std.specs.List.{range_with_len}
use Rattle.std.specs.Option.{option_and_then, is_some}
use Rattle.hfs_remains_places.specs.declared.things.Thing.{Thing}
use Rattle.hfs_remains_places.specs.Things.{folder_of}

-- the place that is noted for a place
abbrev pub place_at : List (Option ℕ) → ℕ → Option ℕ
place_at places i = slice_index_or places i None

-- for each thing the place of its parent's folder
unfoldable pub ups_of : List Thing → List (Option ℕ)
ups_of things = map (λ thing. folder_of things thing.parent) things

-- where so many steps up lead, each from a place to the one that is noted for it
unfoldable pub steps : List (Option ℕ) → ℕ → ℕ → Option ℕ
steps ups zero i = Some i
steps ups (suc k) i = option_and_then (steps ups k) (place_at ups i)

-- a chain has no end where it is not left after as many steps as there are numbers of folders: it gets to one of its folders a second time
unfoldable pub is_endless : List (Option ℕ) → ℕ → Bool
is_endless ups i = is_some (steps ups (2 ^ 32) i)

-- a chain gets to one of its places again
pub record ComesAgain (ups : List (Option ℕ)) (i : ℕ) : Type 0 where
  pub place : ℕ
  pub first : ℕ
  pub again : ℕ
  pub later : first < again
  pub once : steps ups first i ≡ Some place
  pub twice : steps ups again i ≡ Some place

-- for each place whether its chain has no end
abbrev pub endless_of : List (Option ℕ) → List Bool
endless_of ups = map (is_endless ups) (range_with_len 0 (length ups))

-- ---- places that so many steps lead to

abbrev pub LeadBy : ℕ → List (Option ℕ) → List (Option ℕ) → Type 0
LeadBy k ups jumps = (i : ℕ) → place_at jumps i ≡ steps ups k i

-- where twice as many steps lead
abbrev pub twice : List (Option ℕ) → ℕ → Option ℕ
twice jumps i = option_and_then (place_at jumps) (place_at jumps i)
