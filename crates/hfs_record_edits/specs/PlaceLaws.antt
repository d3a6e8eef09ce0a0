-- What the edits of calls ask of the catalog: that a key is free, and that a folder's record is still there. Each statement is what a
-- function of src/places.rt ensures.
use Rattle.std.specs.Prelude.{◌≡◌}
use Rattle.hfs_fields.specs.Members.{In}
use Rattle.hfs_catalog.specs.Records.{Record, Catalog}

-- both folders', where an item was moved and its thread turned; the second's too, where the first's was set
pub record BothStand (r1 r2 : Record) (middle : Catalog) : Type 0 where
  pub first : In r1 middle
  pub second : In r2 middle
  pub others : r1 ≡ r2 → ⊥
