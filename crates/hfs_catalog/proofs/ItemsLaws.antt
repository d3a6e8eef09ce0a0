-- The items that a catalog holds.
use Rattle.std.specs.Prelude.{ℕ, List, map, filter}
use Rattle.hfs_model.specs.Volume.{Entry}
use Rattle.hfs_catalog.specs.Records.{Catalog, is_child_of}
use Rattle.hfs_catalog.specs.Items.{Contents, entry_of}

-- the items under a parent, in the catalog's order
abbrev pub children_in : Contents → Catalog → ℕ → List Entry
children_in contents catalog dir = map (entry_of contents catalog) (filter (is_child_of dir) catalog)
