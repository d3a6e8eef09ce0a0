-- The queries of a volume, by the records of its catalog.
use Rattle.std.specs.Prelude.{◌≡◌, ℕ, IsTrue, List, map}
use Rattle.std.specs.Option.{option_map}
use Rattle.hfs_fields.specs.Records.{is_item}
use Rattle.hfs_fields.specs.Each.{Each}
use Rattle.hfs_model.specs.Volume.{Entry}
use Rattle.hfs_model.specs.Children.{entry_at}
use Rattle.hfs_model.specs.Children as model
use Rattle.hfs_model.specs.Replies.{info_of}
use Rattle.hfs_catalog.specs.Records.{Catalog, item_with}
use Rattle.hfs_catalog.specs.Items.{Contents, entry_of}
use Rattle.hfs_catalog.specs.Lookups.{child_named, children_of}
use Rattle.hfs_items.specs.Told.{told}

-- the records of a catalog answer the queries of these entries
pub record AreEntries (contents : Contents) (catalog : Catalog) (es : List Entry) : Type 0 where
  pub by_id : (id : ℕ) → entry_at es id ≡ option_map (entry_of contents catalog) (item_with catalog id)
  pub named : (dir : ℕ) (name : List ℕ) → model.child_named es dir name ≡ option_map (entry_of contents catalog) (child_named catalog dir name)
  pub children : (dir : ℕ) → model.children es dir ≡ map (entry_of contents catalog) (children_of catalog dir)
  -- what is said about an item is said by its record
  pub told : Each (λ r. IsTrue (is_item r.1) → info_of es (entry_of contents catalog r) ≡ told catalog r) catalog
