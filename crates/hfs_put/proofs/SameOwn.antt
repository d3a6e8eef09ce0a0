-- Volumes that have the same blocks but for those of forks, whatever the last block but one is: a fork may have it, too.
use Rattle.std.proofs.Common.{◌≡◌, ℕ, List, [], ◌++◌, map, take, sym, ap, subst, ◌∙◌}
use Rattle.std.specs.Prelude.{slice_index}
use Rattle.hfs_fields.specs.declared.file_record.ForkRecord.{ForkRecord}
use Rattle.hfs_fields.specs.Each.{Each}
use Rattle.hfs_fields.proofs.ElementLemmas.{each-left}
use Rattle.hfs_blocks.specs.Blocks.{nodes_in}
use Rattle.hfs_btree.specs.Sound.{IsOther, KeepsFrame}
use Rattle.hfs_btree.specs.Tree.{Store}
use Rattle.hfs_btree_checks.specs.Shape.{has_counts}
use Rattle.hfs_space.specs.declared.fork_kind.ForkKind.{ForkKind}
use Rattle.hfs_space.specs.Extents.{fork_extents, fork_byte}
use Rattle.hfs_space.specs.Faults.{fork_fault, space_fault}
use Rattle.hfs_space.specs.ForkLaws.{block_numbers}
use Rattle.hfs_space.specs.Forks.{fork_bytes, joined}
use Rattle.hfs_space.specs.TreeKeys.{ext_keys, overflow_of}
use Rattle.hfs_catalog.specs.Tree.{cat_keys}
use Rattle.hfs_catalog.specs.Faults.{record_fault, id_fault, valence_fault, count_fault}
use Rattle.hfs_check.specs.Agree.{KeepsBut, bitmap_blocks}
use Rattle.hfs_check.specs.Faults.{◌or_fault◌, check_fault, mdb_fault, extents_fault, catalog_fault, extents_counts, catalog_counts, trees_fault, catalog_name_fault, catalog_place_fault, records_fault, numbers_fault, blocks_fault}
use Rattle.hfs_check.specs.Parts.{Blocks, mdb_in, extents_blocks, extents_nodes, overflow_in, catalog_extents, catalog_blocks, catalog_nodes, catalog_in, owned_in}
use Rattle.hfs_check.specs.Sound.{AreBlocksSound}
use Rattle.hfs_check.specs.VolumeOf.{bytes_in, contents_in, volume_in}
use Rattle.hfs_check.proofs.LawsProved.{no_blocks_fault}
use Rattle.hfs_image.specs.Laws.{blocks_of_fork, volume_with}
use Rattle.hfs_image.specs.Needed.{AgreeOn}
use Rattle.hfs_image.proofs.SameParts.{map-same, owned-same}
use Rattle.hfs_image.proofs.SameSpace.{space_fault-same}
use Rattle.hfs_copy.specs.Working.{working_blocks}
use Rattle.hfs_copy.proofs.SameWork as work
use Rattle.hfs_put.proofs.FileBlocks.{own_blocks}

module _ (old new : Blocks) (same : AgreeOn (own_blocks old) old new) where
  -- in a volume of four blocks, the last but one is the master directory block
  own : AgreeOn (working_blocks 4 old) old new
  unfolding working_blocks
  own = (same.0, (same.0, same.1))

  pub mdb-is : mdb_in new ≡ mdb_in old
  mdb-is = work.mdb-is 4 old new own

  extents-is : extents_nodes new ≡ extents_nodes old
  extents-is = work.extents-is 4 old new own

  pub overflow-is : overflow_in new ≡ overflow_in old
  unfolding overflow_in
  overflow-is = ap overflow_of extents-is

  file-is : catalog_extents new ≡ catalog_extents old
  file-is = work.file-is 4 old new own

  catalog-is : catalog_nodes new ≡ catalog_nodes old
  catalog-is = work.catalog-is 4 old new own

  pub records-are : catalog_in new ≡ catalog_in old
  records-are = work.records-are 4 old new own

  owned-is : owned_in new ≡ owned_in old
  owned-is = owned-same old new mdb-is overflow-is records-are

  -- ---- the checks

  in-bitmap : AgreeOn (bitmap_blocks (mdb_in old)) old new
  in-bitmap = each-left (λ n. new n ≡ old n) (bitmap_blocks (mdb_in old)) (extents_blocks old ++ catalog_blocks old) same.1

  trees-is : trees_fault (extents_counts new) (catalog_counts new) new ≡ trees_fault (extents_counts old) (catalog_counts old) old
  unfolding trees_fault
  trees-is = λ i.
      check_fault 3 (extents_fault (has_counts ext_keys (extents-is i)) (mdb-is i) (extents-is i))
      or_fault check_fault 4 (catalog_fault (has_counts cat_keys (catalog-is i)) (mdb-is i) (file-is i) (catalog-is i))

  records-is : records_fault new ≡ records_fault old
  unfolding records_fault
  records-is = λ i.
      check_fault 5 (record_fault (records-are i)) or_fault check_fault 6 (id_fault (mdb-is i).next_id (records-are i))
      or_fault check_fault 7 (catalog_name_fault (catalog-is i) (records-are i)) or_fault check_fault 8 (catalog_place_fault (catalog-is i) (records-are i))

  space-is : space_fault new (mdb_in new) (owned_in new) ≡ space_fault old (mdb_in old) (owned_in old)
  space-is = (λ i. space_fault new (mdb-is i) (owned-is i)) ∙ space_fault-same old new (mdb_in old) in-bitmap (owned_in old)

  numbers-is : numbers_fault new ≡ numbers_fault old
  unfolding numbers_fault
  numbers-is = λ i.
      check_fault 9 (valence_fault (records-are i)) or_fault check_fault 10 (count_fault (mdb-is i) (records-are i))
      or_fault check_fault 11 (fork_fault (mdb-is i) (overflow-is i) (records-are i)) or_fault check_fault 12 (space-is i)

  fault-is : (total : ℕ) → blocks_fault total new ≡ blocks_fault total old
  unfolding blocks_fault
  fault-is total = λ i. mdb_fault total (mdb-is i) or_fault trees-is i or_fault records-is i or_fault numbers-is i

  pub sound-is : (total : ℕ) → AreBlocksSound total old → AreBlocksSound total new
  sound-is total sound = (no_blocks_fault total new).0 (fault-is total ∙ (no_blocks_fault total old).1 sound)

  -- ---- what calls leave

  pub keeps-is : (written : List ℕ) → KeepsBut [] old old → ((n : ℕ) → Each (IsOther n) written → new n ≡ old n) → KeepsBut written old new
  keeps-is written itself others = record {
    mdb = λ k beside. ap (λ (block : List ℕ). slice_index block k) same.0;
    bits = λ i spare. work.bit-is 4 old new own i spare.within;
    others = λ n beside. others n (each-left (IsOther n) written _ beside);
    extents = subst (λ (s : Store). KeepsFrame ext_keys (extents_nodes old) s) (sym extents-is) itself.extents;
    catalog = subst (λ (s : Store). KeepsFrame cat_keys (catalog_nodes old) s) (sym catalog-is) itself.catalog;
    catalog_file = file-is;
    stray = λ b lt. work.stray-is 4 old new own b lt;
  }

  -- ---- the volume, and the forks of files

  pub volume-is : volume_in new ≡ volume_with (contents_in new) old
  volume-is = work.volume-is 4 old new own

  pub blocks-are : (file : ℕ) (kind : ForkKind) (fork : ForkRecord) → blocks_of_fork new file kind fork ≡ blocks_of_fork old file kind fork
  unfolding blocks_of_fork
  blocks-are file kind fork = λ i. block_numbers (mdb-is i) (fork_extents (overflow-is i) file (fork_byte kind) fork.extents)

  pub bytes-are : (file : ℕ) (kind : ForkKind) (fork : ForkRecord) → bytes_in new file kind fork ≡ take fork.length (joined (map new (blocks_of_fork old file kind fork)))
  unfolding bytes_in blocks_of_fork fork_bytes nodes_in
  bytes-are file kind fork = λ i. fork_bytes new (mdb-is i) (fork_extents (overflow-is i) file (fork_byte kind) fork.extents) fork.length

  pub bytes-stay : (file : ℕ) (kind : ForkKind) (fork : ForkRecord) → AgreeOn (blocks_of_fork old file kind fork) old new → bytes_in new file kind fork ≡ bytes_in old file kind fork
  unfolding bytes_in blocks_of_fork fork_bytes nodes_in
  bytes-stay file kind fork agree =
      bytes-are file kind fork ∙ ap (λ (blocks : List (List ℕ)). take fork.length (joined blocks)) (map-same old new (blocks_of_fork old file kind fork) agree)
