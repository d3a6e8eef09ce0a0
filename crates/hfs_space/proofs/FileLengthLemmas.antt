-- How long a tree's file is.
use Rattle.std.proofs.Common.{◌≡◌, ℕ, ◌+◌, ◌*◌, ◌%◌, ◌≤◌, List, [], ◌∷◌, length, refl, ap, ◌∙◌, arith, length-append, length-take}
use Rattle.std.specs.Prelude.{map}
use Rattle.std.specs.List.{flat_map}
use Rattle.std.proofs.Math.Nat.{add-mul}
use Rattle.std.proofs.lemmas.List.{map-append}
use Rattle.std.proofs.lemmas.List.FromFn.{length-map-range_with_len}
use Rattle.std.proofs.lemmas.List.Sums.{sum_by-cons}
use Rattle.hfs_fields.specs.declared.extent.Extent.{Extent}
use Rattle.hfs_fields.specs.declared.mdb.Mdb.{Mdb}
use Rattle.hfs_blocks.specs.Blocks.{run_of, nodes_in}
use Rattle.hfs_space.specs.Extents.{block_total}
use Rattle.hfs_space.specs.Forks.{blocks_each, run_in, file_blocks}
use Rattle.hfs_space.proofs.ForkLengthLemmas.{byte_total}
use Rattle.hfs_space.specs.Sound.{IsTreeFile}
use Rattle.hfs_space.specs.TreeFiles.{node_count, tree_nodes}

-- a file has the logical blocks of its allocation blocks
pub length-file_blocks : (blocks : ℕ → List ℕ) (mdb : Mdb) (extents : List Extent) → length (file_blocks blocks mdb extents) ≡ block_total extents * blocks_each mdb
unfolding nodes_in
length-file_blocks blocks mdb [] = let none : block_total [] ≡ 0 = refl in omega (arith, ap (λ n. n * blocks_each mdb) none)
length-file_blocks blocks mdb (e ∷ es) =
    let own = map blocks (run_of (run_in mdb e)) in
    let behind = file_blocks blocks mdb es in
    let split : length (file_blocks blocks mdb (e ∷ es)) ≡ length own + length behind =
    ap length (map-append blocks (run_of (run_in mdb e)) (flat_map run_of (map (run_in mdb) es))) ∙ length-append own behind in
    let here = length-map-range_with_len blocks (run_in mdb e).first (run_in mdb e).count in
    let total : block_total (e ∷ es) ≡ e.count + block_total es = sum_by-cons (λ x. x.count) e es in
    split ∙ (λ i. here i + length-file_blocks blocks mdb es i) ∙ (let back = add-mul e.count (block_total es) (blocks_each mdb) in omega (arith, back, ap (λ n. n * blocks_each mdb) total))

-- the nodes of a tree's file have its bytes
pub length-tree_nodes : (blocks : ℕ → List ℕ) (mdb : Mdb) (extents : List Extent) (size : ℕ) → mdb.allocation_block_size % 512 ≡ 0 → IsTreeFile mdb extents size
    → size ≤ 512 * length (tree_nodes blocks mdb extents size)
unfolding tree_nodes
length-tree_nodes blocks mdb extents size whole file =
    let room = file.room in
    let bytes = byte_total mdb (block_total extents) whole in
    omega (arith, room, bytes, length-file_blocks blocks mdb extents, length-take (node_count size) (file_blocks blocks mdb extents))
