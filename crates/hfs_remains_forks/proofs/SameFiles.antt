-- What is found of both trees' files is the same where the blocks of these files agree.
use Rattle.std.proofs.Common.{◌≡◌, ℕ, zero, suc, ◌/◌, ◌%◌, ◌≤◌, ◌<◌, Bool, true, false, not, ◌&&◌, if◌then◌else◌, List, [], ◌∷◌, ◌++◌, map, Option, Some, None, slice_index_or, refl, sym, ap, ◌∙◌}
use Rattle.std.specs.List.{range_with_len}
use Rattle.std.proofs.lemmas.Nat.{mod_below}
use Rattle.hfs_fields.specs.declared.mdb.Mdb.{Mdb}
use Rattle.hfs_fields.specs.declared.extent.Extent.{Extent}
use Rattle.hfs_fields.specs.Each.{Each}
use Rattle.hfs_fields.proofs.ElementLemmas.{each-left, each-right}
use Rattle.hfs_catalog.specs.Tree.{catalog_of}
use Rattle.hfs_space.specs.Forks.{blocks_each}
use Rattle.hfs_space.specs.TreeFiles.{node_count}
use Rattle.hfs_space.specs.TreeKeys.{overflow_of}
use Rattle.hfs_check.specs.Parts.{Blocks}
use Rattle.hfs_image.specs.Needed.{AgreeOn}
use Rattle.hfs_source.proofs.Fetched.{range-at}
use Rattle.hfs_remains.specs.Allocation.{start_of}
use Rattle.hfs_remains.specs.CatalogRecords.{catalog_nodes, catalog_records, found_in_leaves, all_stray_records, found_of, is_catalog_right, is_catalog_tree_right, is_lacking, looks_elsewhere, own_records, scattered_records}
use Rattle.hfs_remains.specs.LeafRecords.{all_leaf_records}
use Rattle.hfs_remains.specs.OverflowRecords.{catalog_extents, is_extents_tree_right, overflow_in_leaves, overflow_records}
use Rattle.hfs_remains.specs.Remains.{catalog_file_blocks, catalog_file_extents, extents_file_blocks, remaining_overflow, remaining_records}
use Rattle.hfs_remains.specs.TreeFiles.{FileBlocks, file_blocks, first_nodes, node_at, node_total, piece_of}
use Rattle.hfs_remains_forks.specs.Finds.{is_right_by}
use Rattle.hfs_remains_forks.specs.Needed.{blocks_of_place, is_elsewhere, needed_of_file, needed_of_files}

-- ---- the blocks of a file

-- what holds of each block of a file holds of those at a place
pub each-place : (P : ℕ → Type 0) (mdb : Mdb) (file : FileBlocks) → Each P (needed_of_file mdb file) → (i : ℕ)
    → Each P (blocks_of_place mdb (slice_index_or file i None))
each-place P mdb [] h i = tt
each-place P mdb (place ∷ file) h zero = each-left P (blocks_of_place mdb place) (needed_of_file mdb file) h
each-place P mdb (place ∷ file) h (suc i) = each-place P mdb file (each-right P (blocks_of_place mdb place) (needed_of_file mdb file) h) i

module _ (old new : Blocks) (mdb : Mdb) (some : 1 ≤ blocks_each mdb) (file : FileBlocks) (agree : AgreeOn (needed_of_file mdb file) old new) where
  -- its nodes
  piece-same : (place : Option ℕ) (r : ℕ) → r < blocks_each mdb → Each (λ k. new k ≡ old k) (blocks_of_place mdb place) → piece_of new mdb place r ≡ piece_of old mdb place r
  piece-same None r lt h = refl
  piece-same (Some b) r lt h = range-at (λ k. new k ≡ old k) (start_of mdb b) (blocks_each mdb) h r lt

  node-same : (n : ℕ) → node_at new mdb file n ≡ node_at old mdb file n
  unfolding node_at
  node-same n =
      piece-same (slice_index_or file (n / blocks_each mdb) None) (n % blocks_each mdb) (mod_below n (blocks_each mdb) some)
      (each-place (λ k. new k ≡ old k) mdb file agree (n / blocks_each mdb))

  nodes-same : (count : ℕ) → first_nodes new mdb file count ≡ first_nodes old mdb file count
  nodes-same count = λ i. map (λ n. node-same n i) (range_with_len 0 count)

  -- the records of the extents tree
  pub overflow-same : overflow_records new mdb file ≡ overflow_records old mdb file
  unfolding overflow_records
  overflow-same = λ i.
      if is_extents_tree_right mdb (nodes-same (node_count mdb.extents_file_size) i) then overflow_of (nodes-same (node_count mdb.extents_file_size) i)
      else overflow_in_leaves (all_leaf_records (nodes-same (node_total mdb file) i))

  -- the catalog
  pub right-same : (extents : List Extent) → is_catalog_right mdb extents (catalog_nodes new mdb file) ≡ is_catalog_right mdb extents (catalog_nodes old mdb file)
  right-same extents = ap (is_catalog_right mdb extents) (nodes-same (node_count mdb.catalog_file_size))

  own-same : own_records new mdb file ≡ own_records old mdb file
  own-same = λ i. found_in_leaves (all_leaf_records (nodes-same (node_total mdb file) i))

  pub elsewhere-same : (extents : List Extent) → looks_elsewhere new mdb extents file ≡ looks_elsewhere old mdb extents file
  unfolding looks_elsewhere
  elsewhere-same extents = λ i.
      not (is_catalog_tree_right mdb extents (nodes-same (node_count mdb.catalog_file_size) i)) && is_lacking mdb file (own-same i)

-- where no other blocks are looked at, its records are those of its own nodes
own-alone : (total : ℕ) (blocks : Blocks) (mdb : Mdb) (extents : List Extent) (file : FileBlocks) → looks_elsewhere blocks mdb extents file ≡ false
    → catalog_records total blocks mdb extents file
    ≡ (if is_catalog_tree_right mdb extents (catalog_nodes blocks mdb file) then found_of (catalog_of (catalog_nodes blocks mdb file)) else own_records blocks mdb file)
unfolding catalog_records scattered_records looks_elsewhere
own-alone total blocks mdb extents file none =
    let own = own_records blocks mdb file in
    let tree = found_of (catalog_of (catalog_nodes blocks mdb file)) in
    let all = own ++ found_in_leaves (all_stray_records total blocks mdb file) in
    elim (is_catalog_tree_right mdb extents (catalog_nodes blocks mdb file)) as
    (λ (t : Bool). (not t && is_lacking mdb file own) ≡ false → (if t then tree else (if is_lacking mdb file own then all else own)) ≡ (if t then tree else own)) [
      | true ↦ λ e. refl
      | false ↦ λ e. ap (λ (l : Bool). if l then all else own) e
    ] none

module _ (total : ℕ) (old new : Blocks) (mdb : Mdb) (some : 1 ≤ blocks_each mdb) (file : FileBlocks) (agree : AgreeOn (needed_of_file mdb file) old new) where
  pub records-same : (extents : List Extent) → looks_elsewhere old mdb extents file ≡ false
      → catalog_records total new mdb extents file ≡ catalog_records total old mdb extents file
  records-same extents none =
      let nodes = nodes-same old new mdb some file agree in
      own-alone total new mdb extents file (elsewhere-same old new mdb some file agree extents ∙ none)
      ∙ (λ i.
      if is_catalog_tree_right mdb extents (nodes (node_count mdb.catalog_file_size) i) then found_of (catalog_of (nodes (node_count mdb.catalog_file_size) i))
      else own-same old new mdb some file agree i)
      ∙ sym (own-alone total old mdb extents file none)

-- ---- both files

module _ (total : ℕ) (old new : Blocks) (mdb : Mdb) (some : 1 ≤ blocks_each mdb) where
  -- by the extents file alone
  module _ (agree : AgreeOn (needed_of_file mdb (extents_file_blocks total mdb)) old new) where
    pub remaining-same : remaining_overflow total new mdb ≡ remaining_overflow total old mdb
    remaining-same = overflow-same old new mdb some (extents_file_blocks total mdb) agree

    pub file-extents-same : catalog_file_extents total new mdb ≡ catalog_file_extents total old mdb
    file-extents-same = λ i. catalog_extents (remaining-same i) mdb

    pub file-same : catalog_file_blocks total new mdb ≡ catalog_file_blocks total old mdb
    file-same = λ i. file_blocks total mdb (file-extents-same i)

  module _ (agree : AgreeOn (needed_of_files total old mdb) old new) where
    pub extents-agree : AgreeOn (needed_of_file mdb (extents_file_blocks total mdb)) old new
    extents-agree = each-left (λ k. new k ≡ old k) (needed_of_file mdb (extents_file_blocks total mdb)) (needed_of_file mdb (catalog_file_blocks total old mdb)) agree

    catalog-agree : AgreeOn (needed_of_file mdb (catalog_file_blocks total old mdb)) old new
    catalog-agree = each-right (λ k. new k ≡ old k) (needed_of_file mdb (extents_file_blocks total mdb)) (needed_of_file mdb (catalog_file_blocks total old mdb)) agree

    pub files-same : needed_of_files total new mdb ≡ needed_of_files total old mdb
    files-same = λ i. needed_of_file mdb (extents_file_blocks total mdb) ++ needed_of_file mdb (file-same extents-agree i)

    pub is_elsewhere-same : is_elsewhere total new mdb ≡ is_elsewhere total old mdb
    is_elsewhere-same =
        (λ i. looks_elsewhere new mdb (file-extents-same extents-agree i) (file-same extents-agree i))
        ∙ elsewhere-same old new mdb some (catalog_file_blocks total old mdb) catalog-agree (catalog_file_extents total old mdb)

    pub is_right-same : is_right_by total new mdb ≡ is_right_by total old mdb
    is_right-same =
        (λ i. is_catalog_right mdb (file-extents-same extents-agree i) (catalog_nodes new mdb (file-same extents-agree i)))
        ∙ right-same old new mdb some (catalog_file_blocks total old mdb) catalog-agree (catalog_file_extents total old mdb)

    pub remains-same : is_elsewhere total old mdb ≡ false → remaining_records total new mdb ≡ remaining_records total old mdb
    remains-same none =
        (λ i. catalog_records total new mdb (file-extents-same extents-agree i) (file-same extents-agree i))
        ∙ records-same total old new mdb some (catalog_file_blocks total old mdb) catalog-agree (catalog_file_extents total old mdb) none
