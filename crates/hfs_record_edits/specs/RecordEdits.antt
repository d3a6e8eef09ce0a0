-- One record that is added, is removed, or takes the place of another: what an edit of the tree makes of the catalog.
use Rattle.std.proofs.Common.{◌≡◌, [], ◌∷◌, Option, Some, None}
use Rattle.hfs_fields.specs.Keys.{cat_cmp}
use Rattle.hfs_btree.specs.Tree.{Store}
use Rattle.hfs_btree.specs.Header.{depth_of, free_nodes}
use Rattle.hfs_btree_edits.specs.Edits.{with_replaced}
use Rattle.hfs_catalog.specs.Records.{Record}
use Rattle.hfs_catalog.specs.Tree.{catalog_of}
use Rattle.hfs_record_edits.specs.Swaps.{Swaps}
use Rattle.hfs_record_edits.specs.Keeps.{KeepsCatalog}
use Rattle.hfs_record_edits.specs.Rooms.{TakesFewNodes, TakesNoNodes}
use Rattle.hfs_record_edits.specs.Finds.{record_at}

-- a record was added; it takes a few of the free nodes
pub record RecordCame (r : Record) (old new : Store) : Type 0 where
  pub keeps : KeepsCatalog (r.0 ∷ []) old new
  pub swap : Swaps None (Some r) (catalog_of old) (catalog_of new)
  pub took : TakesFewNodes old new

-- a record went, if there was one
pub record RecordWent (went : Option Record) (old new : Store) : Type 0 where
  pub keeps : KeepsCatalog [] old new
  pub swap : Swaps went None (catalog_of old) (catalog_of new)
  pub took : TakesNoNodes old new

-- a record takes the place of the one under its key; no node was added or freed
pub record RecordSet (r : Record) (old new : Store) : Type 0 where
  pub keeps : KeepsCatalog (r.0 ∷ []) old new
  pub swap : Swaps (record_at r.0 (catalog_of old)) (Some r) (catalog_of old) (catalog_of new)
  pub content : catalog_of new ≡ with_replaced cat_cmp r.0 r.1 (catalog_of old)
  pub free : free_nodes new ≡ free_nodes old
  pub depth : depth_of new ≡ depth_of old
