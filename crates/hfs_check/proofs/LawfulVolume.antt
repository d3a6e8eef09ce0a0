-- A sound volume has sound trees and a sound catalog, and its image holds a lawful volume.
use Rattle.std.proofs.Common.{ℕ, List}
use Rattle.hfs_blocks.specs.Blocks.{block_at, block_count}
use Rattle.hfs_model.specs.Lawful.{IsLawful}
use Rattle.hfs_space.specs.TreeKeys.{IsExtentsTree}
use Rattle.hfs_catalog.specs.Tree.{IsCatalogTree}
use Rattle.hfs_catalog.specs.Sound.{IsSoundCatalog}
use Rattle.hfs_catalog.proofs.CatalogLawTypes.{SoundIsLawful}
use Rattle.hfs_check.specs.Parts.{Blocks, mdb_in, extents_nodes, catalog_nodes, catalog_in}
use Rattle.hfs_check.specs.Sound.{AreBlocksSound, IsSound}
use Rattle.hfs_check.specs.VolumeOf.{contents_in, volume_in, volume_of}

module _ (total : ℕ) (blocks : Blocks) (h : AreBlocksSound total blocks) where
  pub sound_trees : IsExtentsTree (extents_nodes blocks) × IsCatalogTree (catalog_nodes blocks)
  unfolding catalog_in
  sound_trees = (
    record { structure = h.extents.shape.structure; counts = h.extents.shape.counts; ordered = h.extents.ordered },
    record {
      structure = h.catalog.shape.structure;
      counts = h.catalog.shape.counts;
      ordered = record { rises = h.places.records.rises; keys = h.places.index };
    },
  )

  pub sound_catalog : IsSoundCatalog (mdb_in blocks).next_id (catalog_in blocks)
  sound_catalog = record { records = h.records; ids = h.ids; names = h.names.records; places = h.places.records; valences = h.valences }

pub lawful_volume : SoundIsLawful → (image : List ℕ) → IsSound image → IsLawful (volume_of image)
unfolding volume_of volume_in
lawful_volume lawful image h =
    lawful (contents_in (block_at image)) (mdb_in (block_at image)).next_id (catalog_in (block_at image)) h.blocks.mdb.next_id
    (sound_catalog (block_count image) (block_at image) h.blocks)
