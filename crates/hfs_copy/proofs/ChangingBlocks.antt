-- The blocks that calls change are among the working blocks.
use Rattle.std.proofs.Common.{◌≡◌, ◌⊎◌, inl, inr, ⊎_elim, ℕ, List, [], ◌∷◌, ◌++◌, take, arith}
use Rattle.std.proofs.lemmas.Bool.{cases_eq}
use Rattle.hfs_fields.specs.Each.{Each}
use Rattle.hfs_fields.specs.Members.{In}
use Rattle.hfs_fields.proofs.ElementLemmas.{each-append, each-left, each-right}
use Rattle.hfs_btree.specs.Header.{header_in}
use Rattle.hfs_btree.specs.Sound.{IsOther}
use Rattle.hfs_space.specs.ForkLaws.{block_numbers}
use Rattle.hfs_space.specs.TreeFiles.{node_count, tree_blocks}
use Rattle.hfs_check.specs.Agree.{bitmap_blocks, node_blocks, changing_blocks}
use Rattle.hfs_check.specs.Parts.{Blocks, mdb_in, extents_blocks, extents_nodes, catalog_extents, catalog_blocks, catalog_nodes}
use Rattle.hfs_check.specs.Sound.{AreBlocksSound}
use Rattle.hfs_copy.specs.Working.{working_blocks}
use Rattle.hfs_copy.proofs.Kept.{each-take}

-- what holds of each working block holds of each block that calls change
pub changing-each : (P : ℕ → Type 0) (total : ℕ) (blocks : Blocks) → AreBlocksSound total blocks → Each P (working_blocks total blocks) → Each P (changing_blocks blocks)
unfolding working_blocks changing_blocks extents_blocks catalog_blocks tree_blocks
changing-each P total blocks sound has =
    let mdb = mdb_in blocks in
    let extents = take (node_count mdb.extents_file_size) (block_numbers mdb mdb.extents_file) in
    let catalog = take (node_count mdb.catalog_file_size) (block_numbers mdb (catalog_extents blocks)) in
    let trees = each-right P (bitmap_blocks mdb) (extents ++ catalog) has.1.1 in
    let first = each-take P (header_in (extents_nodes blocks)).nodes (node_count mdb.extents_file_size) (block_numbers mdb mdb.extents_file)
    (omega (arith, sound.extents.shape.within)) (each-left P extents catalog trees) in
    let second = each-take P (header_in (catalog_nodes blocks)).nodes (node_count mdb.catalog_file_size) (block_numbers mdb (catalog_extents blocks))
    (omega (arith, sound.catalog.shape.within)) (each-right P extents catalog trees) in (
      has.0,
      each-append P (bitmap_blocks mdb ++ node_blocks mdb mdb.extents_file (extents_nodes blocks)) (node_blocks mdb (catalog_extents blocks) (catalog_nodes blocks))
          (each-append P (bitmap_blocks mdb) (node_blocks mdb mdb.extents_file (extents_nodes blocks))
          (each-left P (bitmap_blocks mdb) (extents ++ catalog) has.1.1) first) second,
    )

-- a number is among these, or another than each
pub among-or-other : (n : ℕ) (ns : List ℕ) → In n ns ⊎ Each (IsOther n) ns
among-or-other n [] = inr tt
among-or-other n (m ∷ ns) = ⊎_elim
    (λ (same : m ≡ n). inl (inl same))
    (λ (other : m ≡ n → ⊥). ⊎_elim (λ (there : In n ns). inl (inr there)) (λ (others : Each (IsOther n) ns). inr (other, others)) (among-or-other n ns))
    (cases_eq m n)
