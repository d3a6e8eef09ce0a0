-- What is left to show of a changed catalog's soundness where the items that it holds are lawful.
use Rattle.std.specs.Prelude.{IsTrue}
use Rattle.hfs_fields.specs.Keys.{cat_cmp}
use Rattle.hfs_fields.specs.Records.{item_id}
use Rattle.hfs_fields.specs.Each.{Each}
use Rattle.hfs_btree.specs.Pairs.{Rises}
use Rattle.hfs_catalog.specs.Records.{Catalog, has_thread}
use Rattle.hfs_catalog.specs.Sound.{EachFolder, EachThread, IsRecord, AreNamesSound, HasItem, HasValence}
use Rattle.hfs_record_edits.specs.Once.{IsOnce}

-- all of it but that IDs are in their range, that there is a root, and that parents lead to it
pub record IsNearlySound (catalog : Catalog) : Type 0 where
  pub records : Each IsRecord catalog
  pub once : IsOnce catalog
  pub names : AreNamesSound catalog
  pub rises : Rises cat_cmp catalog
  pub threaded : EachFolder (λ r. IsTrue (has_thread catalog (item_id r.1))) catalog
  pub threads : EachThread (HasItem catalog) catalog
  pub valences : EachFolder (HasValence catalog) catalog
