-- The items that are to be put, in the order of the walk.
use Rattle.std.specs.Prelude.{◌≡◌, ℕ, ◌+◌, Bool, true, false, not, ◌&&◌, List, [], ◌∷◌, ◌++◌, map, get_or, drop, unwrap_or, is_none, ⊤, Some}
use Rattle.hfs_put_plan.specs.Twins.{later_twins}
use Rattle.hfs_put_plan.specs.Why.{why_not}
use Rattle.hfs_put_sources.specs.declared.plan.ItemPlan.{ItemPlan}
use Rattle.hfs_put_sources.specs.declared.plan.PutOptions.{PutOptions}
use Rattle.hfs_put_sources.specs.Folders.{AreItemsIn}
use Rattle.hfs_put_sources.specs.Items.{PlannedItem, Told}
use Rattle.hfs_put_sources.specs.Plans.{is_folder}
use Rattle.hfs_put_sources.specs.Trees.{Tree}

-- ---- items of one folder that get the same name

-- the name that an item gets; the empty one, which no item gets, where it has none
abbrev pub put_name_of : PlannedItem → List ℕ
put_name_of item = unwrap_or item.plan.name []

-- whether none before it has its name
abbrev pub with_twin : PlannedItem → Bool → PlannedItem
with_twin item twin = record item { plan = record item.plan { found = record item.plan.found { is_first = not twin } } }

unfoldable pub marked : List PlannedItem → List Bool → List PlannedItem
marked [] twins = []
marked (item ∷ items) twins = with_twin item (get_or twins 0 false) ∷ marked items (drop 1 twins)

abbrev pub with_twins : List PlannedItem → List PlannedItem
with_twins items = marked items (later_twins (map put_name_of items))

-- ---- the walk

-- a folder that can be put, as far as that is known
abbrev pub is_entered : ItemPlan → Bool
is_entered plan = is_folder plan.own && is_none (why_not plan.found)

abbrev pub AreInsideBy : Bool → Tree → Told → PutOptions → ℕ → PlannedItem → List PlannedItem → Type 0
AreInsideBy true host told how place item inside = AreItemsIn host told how item.path (Some place) inside
AreInsideBy false host told how place item inside = inside ≡ []

-- what lies in an item that has this place in the list: the items of a folder that can be put
abbrev pub AreInside : Tree → Told → PutOptions → ℕ → PlannedItem → List PlannedItem → Type 0
AreInside host told how place item inside = AreInsideBy (is_entered item.plan) host told how place item inside

-- the list of some items with all that lies in them, of which the first has this place: it, then what lies in it, and then the others
abbrev pub IsWalk : Tree → Told → PutOptions → ℕ → List PlannedItem → List PlannedItem → Type 0
IsWalk host told how place [] [] = ⊤
IsWalk host told how place [] (item ∷ items) = ⊥
IsWalk host told how place (next ∷ rest) [] = ⊥
IsWalk host told how place (next ∷ rest) (item ∷ items) =
    (item ≡ next) × ((inside : List PlannedItem) × AreInside host told how place next inside
    × IsWalk host told how (place + 1) (with_twins inside ++ rest) items)
