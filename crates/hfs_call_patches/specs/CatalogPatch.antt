-- A patch of a volume's blocks in which its catalog was edited, and then its counts put.
use Rattle.std.specs.Prelude.{◌≡◌, ℕ, List}
use Rattle.std.specs.List.{flat_map}
use Rattle.hfs_fields.specs.declared.key.CatKey.{CatKey}
use Rattle.hfs_fields.specs.declared.mdb.Mdb.{Mdb}
use Rattle.hfs_blocks.specs.declared.run.Run.{Run}
use Rattle.hfs_blocks.specs.Blocks.{run_of}
use Rattle.hfs_blocks.specs.Layers.{Changes, Numbered, changes, over}
use Rattle.hfs_btree.specs.Tree.{Store}
use Rattle.hfs_btree_edits.specs.Files.{beside}
use Rattle.hfs_fields.specs.Each.{Each}
use Rattle.hfs_catalog.specs.Records.{Catalog}
use Rattle.hfs_catalog.specs.Sound.{IsIndexKeyName}
use Rattle.hfs_catalog.specs.Tree.{catalog_of}
use Rattle.hfs_record_edits.specs.Keeps.{KeepsCatalog}
use Rattle.hfs_check.specs.Parts.{Blocks, catalog_in, catalog_nodes}
use Rattle.hfs_record_edits.specs.OnBlocks.{HasTree}
use Rattle.hfs_call_patches.specs.Patches.{patched_nodes, Patches}
use Rattle.hfs_call_patches.specs.Rekeyings.{Rekeys}
use Rattle.hfs_call_patches.specs.declared.rekeying.Rekeying.{Rekeying}

-- a patch over the same blocks, for nodes in the same runs, which shows no other block than those of the nodes anew
abbrev pub StandsOver : {B : Type 0} → (B → Blocks) → B → List Run → B → List Run → Changes → Type 0
StandsOver {B} blocks below runs b qs patch =
    ◌≡◌ {A = B × List Run × Blocks} (b, qs, beside (flat_map run_of qs) (over patch (blocks b))) (below, runs, beside (flat_map run_of runs) (blocks below))

-- edits of the catalog that gave it these keys, whose names an index may have
pub record KeepsNamed (old new : Store) : Type 0 where
  pub given : List CatKey
  pub keeps : KeepsCatalog given old new
  pub named : Each IsIndexKeyName given

-- the volume has these counts, and these records in its catalog
pub record HasCatalog (counts : Mdb) (records : Catalog) (old new : Blocks) : Type 0 where
  pub tree : HasTree counts old new
  pub content : catalog_in new ≡ records

-- ---- of nodes in these runs, over a patch: b and qs are what they lie in, below what a volume's blocks are

-- the patch is over the same blocks
abbrev pub LiesOver : {B : Type 0} → (B → Blocks) → B → List Run → B → List Run → Numbered → Type 0
LiesOver blocks below runs b qs patch = StandsOver blocks below runs b qs (changes patch)

-- they are those of the volume's catalog
abbrev pub AreCatalogNodes : {B : Type 0} → (B → Blocks) → B → B → List Run → Numbered → Type 0
AreCatalogNodes blocks below b qs patch = patched_nodes (blocks b) patch qs ≡ catalog_nodes (blocks below)

-- they keep the volume's catalog, with names that an index may have
abbrev pub KeepsCatalogNames : {B : Type 0} → (B → Blocks) → B → B → List Run → Numbered → Type 0
KeepsCatalogNames blocks below b qs patch = KeepsNamed (catalog_nodes (blocks below)) (patched_nodes (blocks b) patch qs)

-- another patch gives the volume these counts, and their records in its catalog
abbrev pub PutsCatalog : {B : Type 0} → Mdb → (B → Blocks) → B → B → List Run → Numbered → Numbered → Type 0
PutsCatalog counts blocks below b qs patch made =
    Patches (blocks below) (HasCatalog counts (catalog_of (patched_nodes (blocks b) patch qs))) made

-- in them the item was put under its other key
abbrev pub RekeysOver : {B : Type 0} → Rekeying → (B → Blocks) → B → B → List Run → Numbered → Type 0
RekeysOver item blocks below b qs patch = Rekeys item (catalog_nodes (blocks below)) (patched_nodes (blocks b) patch qs)
