-- What the checks of a catalog's records say. Each statement is what a function of src/laws.rt ensures.
use Rattle.std.specs.Prelude.{ℕ, ◌↔◌, IsTrue, length}
use Rattle.hfs_catalog.specs.Records.{Catalog}
use Rattle.hfs_catalog.specs.Parents.{ReachesRoot, reaches_root}

-- ---- chains of parents

-- a chain that reaches the root does so in no more steps than there are records
abbrev pub ReachesSoon : Type 0
ReachesSoon = (catalog : Catalog) (id : ℕ) → IsTrue (reaches_root catalog (length catalog) id) ↔ ReachesRoot catalog id
