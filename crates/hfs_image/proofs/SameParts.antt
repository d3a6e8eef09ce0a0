-- What is read off the same blocks is the same.
use Rattle.std.proofs.Common.{◌≡◌, ℕ, List, [], ◌∷◌, map, take, refl, ap, ◌∙◌}
use Rattle.hfs_fields.specs.declared.mdb.Mdb.{Mdb}
use Rattle.hfs_fields.specs.Mdb.{mdb_of}
use Rattle.hfs_space.specs.Owners.{catalog_fork, extents_in, owned_blocks}
use Rattle.hfs_space.specs.TreeFiles.{tree_nodes, tree_blocks}
use Rattle.hfs_check.specs.Parts.{Blocks, mdb_in, extents_blocks, extents_nodes, overflow_in, catalog_extents, catalog_blocks, catalog_nodes, catalog_in, owned_in}
use Rattle.hfs_image.specs.Needed.{AgreeOn}
use Rattle.hfs_image.proofs.SameTrees.{nodes-map}

module _ (old new : Blocks) where
  pub mdb-same : new 2 ≡ old 2 → mdb_in new ≡ mdb_in old
  unfolding mdb_in
  mdb-same e = ap (λ (block : List ℕ). mdb_of (take 162 block)) e

  pub map-same : (numbers : List ℕ) → AgreeOn numbers old new → map new numbers ≡ map old numbers
  map-same [] h = refl
  map-same (n ∷ numbers) h = λ i. h.0 i ∷ map-same numbers h.1 i

  pub extents_blocks-same : mdb_in new ≡ mdb_in old → extents_blocks new ≡ extents_blocks old
  unfolding extents_blocks
  extents_blocks-same m = ap (λ (mdb : Mdb). tree_blocks mdb mdb.extents_file mdb.extents_file_size) m

  pub catalog_extents-same : mdb_in new ≡ mdb_in old → overflow_in new ≡ overflow_in old → catalog_extents new ≡ catalog_extents old
  unfolding catalog_extents
  catalog_extents-same m o = λ i. extents_in (o i) (catalog_fork (m i))

  pub catalog_blocks-same : mdb_in new ≡ mdb_in old → catalog_extents new ≡ catalog_extents old → catalog_blocks new ≡ catalog_blocks old
  unfolding catalog_blocks
  catalog_blocks-same m x = λ i. tree_blocks (m i) (x i) (m i).catalog_file_size

  -- the nodes of both trees' files
  module _ (m : mdb_in new ≡ mdb_in old) where
    pub extents-map : extents_nodes new ≡ map new (extents_blocks old)
    unfolding extents_nodes extents_blocks
    extents-map =
        ap (λ (mdb : Mdb). tree_nodes new mdb mdb.extents_file mdb.extents_file_size) m
        ∙ nodes-map new (mdb_in old) (mdb_in old).extents_file (mdb_in old).extents_file_size

    pub catalog-map : catalog_extents new ≡ catalog_extents old → catalog_nodes new ≡ map new (catalog_blocks old)
    unfolding catalog_nodes catalog_blocks
    catalog-map x =
        (λ i. tree_nodes new (m i) (x i) (m i).catalog_file_size) ∙ nodes-map new (mdb_in old) (catalog_extents old) (mdb_in old).catalog_file_size

  pub owned-same : mdb_in new ≡ mdb_in old → overflow_in new ≡ overflow_in old → catalog_in new ≡ catalog_in old → owned_in new ≡ owned_in old
  unfolding owned_in
  owned-same m o c = λ i. owned_blocks (m i) (o i) (c i)
