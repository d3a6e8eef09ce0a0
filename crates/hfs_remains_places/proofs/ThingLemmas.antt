-- Items keep their places before the named folders.
use Rattle.std.proofs.Common.{◌≡◌, ℕ, ◌<◌, ◌≤◌, Bool, true, false, if◌then◌else◌, List, [], ◌∷◌, ◌++◌, length, Option, Some, None, refl, ◌∙◌, arith}
use Rattle.std.proofs.lemmas.List.{get_or_append_left, length_push}
use Rattle.hfs_remains_places.specs.declared.things.Thing.{Thing}
use Rattle.hfs_remains_places.specs.Folders.{nothing, thing_at}
use Rattle.hfs_remains_places.specs.Things.{is_taken, named_behind, things_of, with_numbered, with_named}

-- the things before are there, each at its place
record StandBefore (before things : List Thing) : Type 0 where
  within : length before ≤ length things
  same : (i : ℕ) → i < length before → thing_at things i ≡ thing_at before i

stand-pushed : (before things : List Thing) (thing : Thing) → StandBefore before things → StandBefore before (things ++ thing ∷ [])
stand-pushed before things thing stand = record {
  within = omega (arith, stand.within, length_push things thing);
  same = λ i below. get_or_append_left things (thing ∷ []) nothing i (omega (arith, below, stand.within)) ∙ stand.same i below;
}

stand-with : (before things : List Thing) (thing : Thing) (number : Option ℕ) → StandBefore before things → StandBefore before (with_numbered things thing number)
stand-with before things thing None stand = stand
stand-with before things thing (Some number) stand = by (is_taken things number)
  where
    by : (b : Bool) → StandBefore before (if b then things else things ++ thing ∷ [])
    by true = stand
    by false = stand-pushed before things thing stand

stand-behind : (before things namings : List Thing) → StandBefore before things → StandBefore before (named_behind things namings)
stand-behind before things [] stand = stand
stand-behind before things (t ∷ ts) stand = stand-behind before (with_named things t) ts (stand-with before things t t.folder stand)

pub item_at : (items namings : List Thing) (i : ℕ) → i < length items → thing_at (things_of items namings) i ≡ thing_at items i
item_at items namings = (stand-behind items items namings (record { within = omega arith; same = λ i below. refl })).same
