-- The root folder's record, which is first, and so keys that are above the first.
use Rattle.std.proofs.Common.{◌≡◌}
use Rattle.hfs_fields.specs.Members.{In}
use Rattle.hfs_catalog.specs.Records.{Record, Catalog}

-- the root folder's record is there, under the parent 1
pub record HasRoot (catalog : Catalog) : Type 0 where
  pub root : Record
  pub there : In root catalog
  pub parent : root.0.parent ≡ 1
