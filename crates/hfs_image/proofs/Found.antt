-- Where the nodes of both trees were found.
use Rattle.std.proofs.Common.{◌≡◌, ℕ, ◌*◌, ◌≤◌, true, false, List, length, Option, Some, None, refl, sym, ap, subst, ◌∙◌, inl, inr}
use Rattle.std.specs.Prelude.{◌%◌}
use Rattle.std.specs.List.{flat_map}
use Rattle.std.specs.Option.{is_none}
use Rattle.std.proofs.lemmas.Option.{none-some}
use Rattle.hfs_fields.specs.declared.mdb.Mdb.{Mdb}
use Rattle.hfs_fields.specs.declared.extent.Extent.{Extent}
use Rattle.hfs_blocks.specs.declared.run.Run.{Run}
use Rattle.hfs_blocks.specs.Blocks.{run_of, nodes_in}
use Rattle.hfs_btree.specs.Tree.{Store}
use Rattle.hfs_btree_checks.specs.Shape.{has_counts, shape_fault}
use Rattle.hfs_space.specs.Extents.{fork_extents}
use Rattle.hfs_space.specs.Faults.{is_tree_file}
use Rattle.hfs_space.proofs.FileLengthLemmas.{length-tree_nodes}
use Rattle.hfs_space.proofs.LawTypes.{NoTreeFileFault}
use Rattle.hfs_space.specs.Owners.{catalog_fork}
use Rattle.hfs_space.specs.TreeFiles.{tree_nodes, tree_blocks}
use Rattle.hfs_space.proofs.TreeFileLemmas.{nodes_in-tree_blocks}
use Rattle.hfs_space.specs.TreeKeys.{ext_keys, IsExtentsTree, overflow_of}
use Rattle.hfs_check.specs.declared.mount_fault.MountFault.{MountFault}
use Rattle.hfs_check.specs.declared.mount_fault.MountFault.TheVariants as fault
use Rattle.hfs_check.specs.Answers.{IsFaultOf, extents_tree_fault, extents_check_fault}
use Rattle.hfs_check.specs.Faults.{check_fault, extents_fault}
use Rattle.hfs_check.proofs.LawTypes.{NoExtentsFault}
use Rattle.hfs_check.specs.Parts.{Blocks, mdb_in, extents_blocks, extents_nodes, overflow_in, catalog_extents, catalog_blocks}
use Rattle.hfs_image.specs.Needed.{has_extents_file, is_extents_tree_right, has_catalog_file}
use Rattle.hfs_fields.proofs.CommonLemmas.{none-true}

-- ---- the extents tree

module _ (blocks : Blocks) (mdb : Mdb) (is : mdb ≡ mdb_in blocks) where
  pub file-is : is_tree_file mdb mdb.extents_file mdb.extents_file_size ≡ has_extents_file blocks
  file-is = ap (λ (m : Mdb). is_tree_file m m.extents_file m.extents_file_size) is

  pub blocks-are : tree_blocks mdb mdb.extents_file mdb.extents_file_size ≡ extents_blocks blocks
  unfolding extents_blocks
  blocks-are = ap (λ (m : Mdb). tree_blocks m m.extents_file m.extents_file_size) is

  module _ (runs : List Run) (numbers : flat_map run_of runs ≡ extents_blocks blocks) where
    pub nodes-are : nodes_in blocks runs ≡ extents_nodes blocks
    unfolding extents_blocks extents_nodes
    nodes-are = nodes_in-tree_blocks blocks (mdb_in blocks) (mdb_in blocks).extents_file (mdb_in blocks).extents_file_size runs numbers

    module _ (file : has_extents_file blocks ≡ true) where
      -- a right file has its bytes in these nodes
      pub has-bytes : NoTreeFileFault → mdb.allocation_block_size % 512 ≡ 0 → mdb.extents_file_size ≤ 512 * length (nodes_in blocks runs)
      has-bytes law whole =
          let same : nodes_in blocks runs ≡ tree_nodes blocks mdb mdb.extents_file mdb.extents_file_size =
          nodes_in-tree_blocks blocks mdb mdb.extents_file mdb.extents_file_size runs (numbers ∙ sym blocks-are) in
          subst (λ (ns : Store). mdb.extents_file_size ≤ 512 * length ns) (sym same)
          (length-tree_nodes blocks mdb mdb.extents_file mdb.extents_file_size whole ((law mdb mdb.extents_file mdb.extents_file_size).0 (file-is ∙ file)))

      tree-place : extents_tree_fault mdb.extents_file_size (nodes_in blocks runs)
          ≡ extents_fault (has_counts ext_keys (nodes_in blocks runs)) mdb (nodes_in blocks runs)
      unfolding extents_fault shape_fault
      tree-place = let e = file-is ∙ file in rw e refl

      pub place-is : check_fault 3 (extents_tree_fault mdb.extents_file_size (nodes_in blocks runs)) ≡ extents_check_fault (mdb_in blocks) blocks
      place-is = ap (check_fault 3) tree-place ∙ (λ i. check_fault 3 (extents_fault (has_counts ext_keys (nodes-are i)) (is i) (nodes-are i)))

      -- what the check of the tree answers
      pub tree-right : check_fault 3 (extents_tree_fault mdb.extents_file_size (nodes_in blocks runs)) ≡ None → true ≡ is_extents_tree_right blocks
      tree-right none = sym (ap is_none (sym place-is ∙ none))

      pub tree-wrong : (why : MountFault) → (why ≡ fault.Memory → ⊥)
          → IsFaultOf (check_fault 3 (extents_tree_fault mdb.extents_file_size (nodes_in blocks runs))) why → false ≡ is_extents_tree_right blocks
      tree-wrong why other (inl memory) = absurd (other memory)
      tree-wrong why other (inr e) = sym (ap is_none (sym place-is ∙ e))

    -- ---- the catalog's file

    module _ (law : NoExtentsFault) (right : is_extents_tree_right blocks ≡ true) where
      no-place : (place : Option ℕ) → check_fault 3 place ≡ None → place ≡ None
      no-place None e = refl
      no-place (Some place) e = absurd (none-some _ (sym e))

      tree-sound : IsExtentsTree (extents_nodes blocks)
      tree-sound =
          let sound = (law (mdb_in blocks) (extents_nodes blocks)).0 (no-place _ (none-true (extents_check_fault (mdb_in blocks) blocks) right)) in
          record { structure = sound.shape.structure; counts = sound.shape.counts; ordered = sound.ordered }

      pub is-extents-tree : IsExtentsTree (nodes_in blocks runs)
      is-extents-tree = subst (λ (ns : Store). IsExtentsTree ns) (sym nodes-are) tree-sound

    pub catalog-extents-are : fork_extents (overflow_of (nodes_in blocks runs)) 4 0 mdb.catalog_file ≡ catalog_extents blocks
    unfolding catalog_extents overflow_in catalog_fork
    catalog-extents-are = λ i. fork_extents (overflow_of (nodes-are i)) 4 0 (is i).catalog_file

  module _ (extents : List Extent) (same : extents ≡ catalog_extents blocks) where
    pub catalog-file-is : is_tree_file mdb extents mdb.catalog_file_size ≡ has_catalog_file blocks
    catalog-file-is = λ i. is_tree_file (is i) (same i) (is i).catalog_file_size

    pub catalog-blocks-are : tree_blocks mdb extents mdb.catalog_file_size ≡ catalog_blocks blocks
    unfolding catalog_blocks
    catalog-blocks-are = λ i. tree_blocks (is i) (same i) (is i).catalog_file_size
