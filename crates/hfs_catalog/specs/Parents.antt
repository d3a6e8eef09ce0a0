-- Chains of parents.
use Rattle.std.specs.Prelude.{ℕ, zero, suc, Bool, false, ◌||◌, ◌==◌, Option}
use Rattle.std.specs.Option.{option_map, option_map_or}
use Rattle.hfs_model.specs.Chains.{Leads}
use Rattle.hfs_catalog.specs.Records.{Record, Catalog, item_with}

-- the parent of the file or folder with this ID
abbrev pub parent_in : Catalog → ℕ → Option ℕ
parent_in catalog id = option_map (λ (r : Record). r.0.parent) (item_with catalog id)

-- the chain of parents from this ID on reaches the root, however long it is
abbrev pub ReachesRoot : Catalog → ℕ → Type 0
ReachesRoot catalog id = (steps : ℕ) × Leads (parent_in catalog) steps id 2

-- it does so within so many steps
abbrev pub reaches_root : Catalog → ℕ → ℕ → Bool
reaches_root catalog zero id = id == 2
reaches_root catalog (suc steps) id = (id == 2) || option_map_or (reaches_root catalog steps) (parent_in catalog id) false
