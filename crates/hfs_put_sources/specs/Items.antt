-- Items that are to be put.
use Rattle.std.specs.Prelude.{ℕ, List, Option, option_map}
use Rattle.hfs_put_plan.specs.declared.facts.ToldFacts.{ToldFacts}
use Rattle.hfs_put_sources.specs.declared.entry.Look.{Look}
use Rattle.hfs_put_sources.specs.declared.plan.ItemPlan.{ItemPlan}

pub record PlannedItem : Type 0 where
  -- its path on the host
  pub path : List ℕ
  -- the path of what belongs to it by its name, where there is any that counts
  pub double : Option (List ℕ)
  -- the place in the list of items of the folder in which it lies
  pub parent : Option ℕ
  pub plan : ItemPlan

-- an item by its path, and the path of what belongs to it where anything does
abbrev pub planned_item : List ℕ → List ℕ → Option ℕ → ItemPlan → PlannedItem
planned_item path double_path parent plan =
    record { path = path; double = option_map (λ (look : Look). double_path) plan.double; parent = parent; plan = plan }

-- what is said about items by their paths on the host
abbrev pub Told : Type 0
Told = List ℕ → Option ToldFacts
