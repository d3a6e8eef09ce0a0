-- The blocks of a new volume: each has 512 bytes, and is found at its place in the image.
use Rattle.std.proofs.Common.{◌≡◌, ℕ, zero, suc, ◌+◌, ◌-◌, ◌*◌, ◌/◌, ◌^◌, ◌<◌, ◌≤◌, List, [], ◌++◌, length, take, drop, refl, sym, ap, ◌∙◌, arith}
use Rattle.std.specs.Prelude.{◌==◌, nat_lt}
use Rattle.std.specs.List.{flat_map, range_with_len}
use Rattle.std.proofs.lemmas.List.{length-append, length-replicate, drop-drop, drop_at, take_at}
use Rattle.std.proofs.lemmas.Bool.{cond_both, ltb-false}
use Rattle.hfs_fields.specs.declared.key.CatKey.{CatKey}
use Rattle.hfs_fields.specs.KeyForms.{cat_leaf_bytes, length-cat_leaf_bytes}
use Rattle.hfs_fields.specs.Records.{new_dir, new_thread}
use Rattle.hfs_fields.specs.RecordForms.{IsDirRecordValue, dir_record_bytes, IsThreadRecordValue, thread_record_bytes}
use Rattle.hfs_fields.proofs.RecordFormLemmas.{length-dir_record_bytes, length-thread_record_bytes}
use Rattle.hfs_fields.specs.declared.thread_record.ThreadKind.TheVariants.{Folder}
use Rattle.hfs_btree.specs.Node.{size_of}
use Rattle.hfs_blocks.specs.Blocks.{block_at, block_count}
use Rattle.hfs_format.specs.declared.layout.Layout.{Layout}
use Rattle.hfs_btree.specs.declared.header.Header.{Header}
use Rattle.hfs_format.specs.Plan.{used_blocks}
use Rattle.hfs_format.proofs.BitRowLemmas.{length-bit_row}
use Rattle.hfs_format.specs.NewTrees.{map_node_count, header_record, header_node, map_node, IsNewTree, tree_block, root_directory, root_record, root_thread, root_leaf}
use Rattle.hfs_format.specs.Image.{is_mdb_block, extents_start, catalog_start, extents_tree, catalog_tree, new_block, volume_image}
use Rattle.hfs_format.proofs.MapNodes.{few-map_nodes, is_new_tree-empty, is_new_tree-one_leaf, next_map_node-most}
use Rattle.hfs_format.proofs.NewVolumeLemmas.{IsNewVolume, files-within, length-new_mdb_block}
use Rattle.hfs_format.proofs.NodesRead.{IsNodeValue, length-node_bytes}

-- ---- the nodes fit

pub length-header_record : (tree : Header) → length (header_record tree) ≡ 106
unfolding header_record
length-header_record tree = refl

pub header_node-value : (tree : Header) → IsNodeValue (header_node tree)
unfolding header_node size_of
header_node-value tree = record {
  forward = omega (arith, next_map_node-most tree 0);
  backward = omega arith;
  fits = omega (arith, length-header_record tree, length-bit_row (tree.nodes - tree.free_nodes) 0 256, length-replicate {A = ℕ} 128 0);
}

pub map_node-value : (tree : Header) (j : ℕ) → j < 65536 → IsNodeValue (map_node tree j)
unfolding map_node size_of
map_node-value tree j few = record {
  forward = omega (arith, next_map_node-most tree j);
  backward = omega arith;
  fits = omega (arith, length-bit_row (tree.nodes - tree.free_nodes) (256 + 492 * (j - 1)) 492);
}

-- the root's record and its thread as they are written
pub root_directory-value : (moment : ℕ) → moment < 2 ^ 32 → IsDirRecordValue (root_directory moment)
unfolding new_dir
root_directory-value moment small = record {
  flags = omega arith;
  valence = omega arith;
  id = omega arith;
  created = small;
  modified = small;
  backup = small;
  finder_info = refl;
  extended_finder_info = refl;
  reserved_area = refl;
}

pub root_thread-value : (name : List ℕ) → length name ≤ 31 → IsThreadRecordValue (new_thread Folder 1 name)
unfolding new_thread
root_thread-value name short = record { reserved_area = refl; parent = omega arith; name = short }

length-laid : (key : CatKey) (body : List ℕ) → length (cat_leaf_bytes key ++ body) ≡ (length key.name + 8) / 2 * 2 + length body
length-laid key body = omega (arith, length-append (cat_leaf_bytes key) body, length-cat_leaf_bytes key)

length-root_record : (volume : Layout) → IsNewVolume volume → length (root_record volume) ≤ 108
unfolding root_record
length-root_record volume ok =
    let laid = length-laid (record { parent = 1; name = volume.name }) (dir_record_bytes (root_directory volume.moment)) in
    let body = length-dir_record_bytes (root_directory volume.moment) (root_directory-value volume.moment ok.moment) in
    omega (arith, laid, body, ok.name)

length-root_thread : (volume : Layout) → IsNewVolume volume → length (root_thread volume) ≤ 84
unfolding root_thread
length-root_thread volume ok =
    let laid = length-laid (record { parent = 2; name = [] }) (thread_record_bytes (new_thread Folder 1 volume.name)) in
    let body = length-thread_record_bytes (new_thread Folder 1 volume.name) (root_thread-value volume.name (omega (arith, ok.name))) in
    omega (arith, laid, body)

pub root_leaf-value : (volume : Layout) → IsNewVolume volume → IsNodeValue (root_leaf volume)
unfolding root_leaf size_of
root_leaf-value volume ok = record {
  forward = omega arith;
  backward = omega arith;
  fits = omega (arith, length-root_record volume ok, length-root_thread volume ok);
}

-- ---- each block has 512 bytes

abbrev Has512 : List ℕ → Type 0
Has512 bytes = length bytes ≡ 512

length-tree_block : (tree : Header) → IsNewTree tree → (j : ℕ) → Has512 (tree_block tree j)
unfolding tree_block
length-tree_block tree ok j =
    let few = few-map_nodes tree.nodes ok.few in
    cond_both (nat_lt (map_node_count tree.nodes) j) _ _ Has512 (λ e. length-replicate {A = ℕ} 512 0) (λ above.
    let le = ltb-false (map_node_count tree.nodes) j above in
    cond_both (nat_lt 0 j) _ _ Has512 (λ e. length-node_bytes _ (map_node-value tree j (omega arith))) (λ e.
    length-node_bytes _ (header_node-value tree)))

pub extents_tree-new : (volume : Layout) → IsNewVolume volume → IsNewTree (extents_tree volume)
extents_tree-new volume ok =
    let within = files-within volume ok in is_new_tree-empty 7 volume.extents.nodes ok.some_extents (omega (arith, ok.blocks))

pub catalog_tree-new : (volume : Layout) → IsNewVolume volume → IsNewTree (catalog_tree volume)
catalog_tree-new volume ok =
    let within = files-within volume ok in is_new_tree-one_leaf 37 volume.catalog.nodes 2 ok.some_catalog (omega (arith, ok.blocks))

pub length-new_block : (volume : Layout) → IsNewVolume volume → (k : ℕ) → length (new_block volume k) ≡ 512
unfolding new_block
length-new_block volume ok k =
    cond_both (is_mdb_block volume k) _ _ Has512 (λ e. length-new_mdb_block volume ok) (λ e.
    cond_both (nat_lt k 3) _ _ Has512 (λ e. length-replicate {A = ℕ} 512 0) (λ e.
    cond_both (nat_lt k (extents_start volume)) _ _ Has512 (λ e. length-bit_row (used_blocks volume) (512 * (k - 3)) 512) (λ e.
    cond_both (nat_lt k (catalog_start volume)) _ _ Has512 (λ e. length-tree_block (extents_tree volume) (extents_tree-new volume ok) (k - extents_start volume)) (λ e.
    cond_both (k - catalog_start volume == (catalog_tree volume).root) _ _ Has512 (λ e. length-node_bytes _ (root_leaf-value volume ok)) (λ e.
    length-tree_block (catalog_tree volume) (catalog_tree-new volume ok) (k - catalog_start volume))))))

-- ---- blocks one behind the other

blocks-stand : (f : ℕ → List ℕ) → ((k : ℕ) → length (f k) ≡ 512) → (a n k : ℕ) → k < n
    → (rest : List ℕ) × (drop (512 * k) (flat_map f (range_with_len a n)) ≡ f (a + k) ++ rest)
blocks-stand f whole a zero k lt = absurd (omega arith)
blocks-stand f whole a (suc n) zero lt =
    let same : a ≡ a + 0 = omega arith in
    (flat_map f (range_with_len (a + 1) n), ap (λ j. f j ++ flat_map f (range_with_len (a + 1) n)) same)
blocks-stand f whole a (suc n) (suc k) lt =
    let later = blocks-stand f whole (a + 1) n k (omega arith) in
    let place : 512 * suc k ≡ 512 + 512 * k = omega arith in
    let same : a + 1 + k ≡ a + suc k = omega arith in (
      later.0,
      ap (λ m. drop m (f a ++ flat_map f (range_with_len (a + 1) n))) place
          ∙ sym (drop-drop (512 * k) 512 (f a ++ flat_map f (range_with_len (a + 1) n)))
          ∙ ap (drop (512 * k)) (drop_at (f a) (flat_map f (range_with_len (a + 1) n)) 512 (whole a))
          ∙ later.1
          ∙ ap (λ j. f j ++ later.0) same,
    )

pub length-blocks : (f : ℕ → List ℕ) → ((k : ℕ) → length (f k) ≡ 512) → (a n : ℕ) → length (flat_map f (range_with_len a n)) ≡ 512 * n
length-blocks f whole a zero = refl
length-blocks f whole a (suc n) =
    omega (arith, length-append (f a) (flat_map f (range_with_len (a + 1) n)), whole a, length-blocks f whole (a + 1) n)

-- ---- the image

pub length-volume_image : (volume : Layout) → IsNewVolume volume → length (volume_image volume) ≡ 512 * volume.blocks
unfolding volume_image
length-volume_image volume ok = length-blocks (new_block volume) (length-new_block volume ok) 0 volume.blocks

pub block_count-volume_image : (volume : Layout) → IsNewVolume volume → block_count (volume_image volume) ≡ volume.blocks
block_count-volume_image volume ok = omega (arith, length-volume_image volume ok)

pub block_at-volume_image : (volume : Layout) → IsNewVolume volume → (k : ℕ) → k < volume.blocks → block_at (volume_image volume) k ≡ new_block volume k
unfolding volume_image
block_at-volume_image volume ok k within =
    let stands = blocks-stand (new_block volume) (length-new_block volume ok) 0 volume.blocks k within in
    let same : 0 + k ≡ k = omega arith in
    ap (take 512) stands.1
    ∙ take_at (new_block volume (0 + k)) stands.0 512 (length-new_block volume ok (0 + k))
    ∙ ap (new_block volume) same
