-- Where all items of a list have their places, none can't be put.
use Rattle.std.proofs.Common.{◌≡◌, ℕ, ◌+◌, List, [], ◌∷◌, map, Some, None, refl, ap}
use Rattle.hfs_put.specs.declared.decisions.Decision.{Decision}
use Rattle.hfs_put.specs.declared.decisions.Decision.TheVariants as decided
use Rattle.hfs_put.specs.PlacedSources.{item_put, refused_from}
use Rattle.hfs_put_plan.specs.declared.items.PutItem.{PutItem}
use Rattle.hfs_put_sources.specs.Items.{PlannedItem}
use Rattle.hfs_word_put.specs.Placed.{lines_told}

none-refused : (place : ℕ) (ds : List Decision) (items : List PutItem) → map item_put ds ≡ map Some items → refused_from place ds ≡ []
unfolding refused_from
none-refused place [] items e = refl
none-refused place (decided.Put item inside ∷ ds) [] e = cc
none-refused place (decided.Put item inside ∷ ds) (x ∷ items) e = none-refused (place + 1) ds items (cc)
none-refused place (decided.Refused why ∷ ds) [] e = cc
none-refused place (decided.Refused why ∷ ds) (x ∷ items) e = cc
none-refused place (decided.Untold ∷ ds) [] e = cc
none-refused place (decided.Untold ∷ ds) (x ∷ items) e = cc

pub none_told : (sources : List PlannedItem) (ds : List Decision) (items : List PutItem) → map item_put ds ≡ map Some items
    → lines_told sources (refused_from 0 ds) ≡ None
none_told sources ds items e = ap (lines_told sources) (none-refused 0 ds items e)
