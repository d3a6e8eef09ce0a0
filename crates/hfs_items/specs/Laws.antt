-- What holds of the definitions. Each statement is what a function of src/laws.rt ensures.
use Rattle.std.specs.Prelude.{◌≢◌, ◌↔◌, List, map, AllPairs, Contains}
use Rattle.hfs_model.specs.Volume.{Volume, Items, Entry}
use Rattle.hfs_model.specs.Lawful.{Has, IsLawful}
use Rattle.hfs_items.specs.Rows.{Row, table_of}

-- each item is in the rows exactly once, and after its folder
pub record IsInventory (items : Items) (rows : List Row) : Type 0 where
  -- each item of the volume has a row, and nothing else has one
  pub each : (e : Entry) → Contains (map (λ (r : Row). r.entry) rows) e ↔ Has items e.0 e.1
  -- a row that follows another is of another item
  pub once : AllPairs (λ (a b : Row). a.entry.0 ≢ b.entry.0) rows
  -- and not of the folder that holds the other's item
  pub behind : AllPairs (λ (a b : Row). a.entry.1.parent ≢ b.entry.0) rows

abbrev pub TablesAreInventories : Type 0
TablesAreInventories = (v : Volume) → IsLawful v → IsInventory v.items (table_of v)
