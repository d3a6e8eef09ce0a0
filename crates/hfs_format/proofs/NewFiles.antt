-- The two files of a new volume: their nodes, and what the trees in them hold.
use Rattle.std.proofs.Common.{◌≡◌, ℕ, ◌+◌, ◌-◌, ◌*◌, ◌/◌, ◌<◌, ◌≤◌, true, false, List, [], ◌∷◌, ◌++◌, Ok, length, map, get_or, refl, sym, ap, subst, ◌∙◌, arith}
use Rattle.std.specs.List.{range_with_len}
use Rattle.std.specs.Prelude.{nat_lt}
use Rattle.std.proofs.lemmas.List.{append-nil}
use Rattle.std.proofs.lemmas.List.{take_all}
use Rattle.std.proofs.lemmas.List.FromFn.{get_or-map-range_with_len, length-map-range_with_len}
use Rattle.std.proofs.lemmas.Bool.{or_from, ne_eqb, eq-eqb, le-ltb, lt-ltb, cond-true, cond-false}
use Rattle.hfs_fields.specs.KeyForms.{IsCatKeyValue, cat_leaf_bytes}
use Rattle.hfs_fields.proofs.KeyFormLemmas.{is_cat_leaf-leaf, cat_key_of-leaf, cat_body_of-leaf}
use Rattle.hfs_fields.specs.Keys.{is_cat_leaf, is_cat_body_len}
use Rattle.hfs_fields.specs.Records.{new_thread}
use Rattle.hfs_fields.specs.RecordForms.{dir_record_bytes, thread_record_bytes}
use Rattle.hfs_fields.proofs.RecordFormLemmas.{length-dir_record_bytes, length-thread_record_bytes}
use Rattle.hfs_fields.specs.declared.key.CatKey.{CatKey}
use Rattle.hfs_fields.specs.declared.thread_record.ThreadKind.TheVariants.{Folder}
use Rattle.hfs_btree.specs.declared.node.Node.{Node}
use Rattle.hfs_btree.specs.Node.{node_of}
use Rattle.hfs_blocks.specs.Blocks.{block_at, nodes_in}
use Rattle.hfs_btree.specs.Pairs.{Rises}
use Rattle.hfs_btree.specs.Tree.{Store, node_in, pair_of}
use Rattle.hfs_btree.specs.Sound.{IsShaped, IsOrdered}
use Rattle.hfs_space.specs.Forks.{file_blocks}
use Rattle.hfs_space.specs.TreeFiles.{node_count, tree_nodes}
use Rattle.hfs_space.specs.TreeKeys.{ext_keys, overflow_of}
use Rattle.hfs_catalog.specs.Records.{Record, Catalog}
use Rattle.hfs_catalog.specs.Tree.{cat_keys, catalog_of}
use Rattle.hfs_format.specs.declared.layout.Layout.{Layout}
use Rattle.hfs_format.specs.Plan.{used_blocks}
use Rattle.hfs_format.specs.BitRow.{bit_row}
use Rattle.hfs_format.specs.NewMdb.{one_run, new_mdb, new_mdb_block}
use Rattle.hfs_btree.specs.declared.header.Header.{Header}
use Rattle.hfs_format.specs.NewTrees.{map_node_count, empty_tree, one_leaf_tree, header_node, map_node, tree_block, root_directory, root_record, root_thread, root_leaf, node_bytes}
use Rattle.hfs_format.specs.Image.{is_mdb_block, catalog_start, extents_tree, catalog_tree, catalog_block, new_block, volume_image}
use Rattle.hfs_format.proofs.MapNodes.{room-map_nodes, room-no_leaf, few-map_nodes}
use Rattle.hfs_format.proofs.NewVolumeLemmas.{IsNewVolume, files-within}
use Rattle.hfs_format.proofs.NodesRead.{IsNodeValue, node_of-node_bytes}
use Rattle.hfs_format.proofs.NewBlocks.{header_node-value, map_node-value, root_directory-value, root_thread-value, root_leaf-value, block_at-volume_image}
use Rattle.hfs_format.proofs.SmallTrees.{HoldsNoLeaf, no_leaf-content, no_leaf-shaped, no_leaf-ordered, HoldsOneLeaf, one_leaf-content, one_leaf-shaped, one_leaf-ordered}

-- the blocks of the new volume's image, by their numbers
abbrev pub image_block : Layout → ℕ → List ℕ
image_block volume = block_at (volume_image volume)

-- the nodes of the extents file, and of the catalog file
abbrev pub new_extents_nodes : Layout → Store
new_extents_nodes volume = file_blocks (image_block volume) (new_mdb volume) (new_mdb volume).extents_file

abbrev pub new_catalog_nodes : Layout → Store
new_catalog_nodes volume = file_blocks (image_block volume) (new_mdb volume) (new_mdb volume).catalog_file

-- ---- where the files lie

not-mdb : (volume : Layout) (k : ℕ) → 3 ≤ k → k + 3 ≤ volume.blocks → is_mdb_block volume k ≡ false
not-mdb volume k low high = or_from _ _ (ne_eqb k 2 (λ e. omega arith)) (ne_eqb (k + 2) volume.blocks (λ e. omega arith))

pub new_block-mdb : (volume : Layout) → new_block volume 2 ≡ new_mdb_block volume
unfolding new_block
new_block-mdb volume = refl

pub new_block-bitmap : (volume : Layout) → IsNewVolume volume → (k : ℕ) → 3 ≤ k → k < volume.start → new_block volume k ≡ bit_row (used_blocks volume) (512 * (k - 3)) 512
unfolding new_block
new_block-bitmap volume ok k low high =
    let within = files-within volume ok in
    cond-false (is_mdb_block volume k) _ _ (not-mdb volume k low (omega (arith, ok.some_extents)))
    ∙ cond-false (nat_lt k 3) _ _ (le-ltb k 3 low)
    ∙ cond-true (nat_lt k volume.start) _ _ (lt-ltb k volume.start high)

-- node j of the extents file, and of the catalog file
new_block-extents : (volume : Layout) → IsNewVolume volume → (k j : ℕ) → k ≡ volume.start + j → j < volume.extents.nodes
    → new_block volume k ≡ tree_block (extents_tree volume) j
unfolding new_block
new_block-extents volume ok k j e lt =
    let within = files-within volume ok in
    let place : k - volume.start ≡ j = omega arith in
    cond-false (is_mdb_block volume k) _ _ (not-mdb volume k (omega (arith, ok.behind_bitmap)) (omega (arith, ok.some_catalog)))
    ∙ cond-false (nat_lt k 3) _ _ (le-ltb k 3 (omega (arith, ok.behind_bitmap)))
    ∙ cond-false (nat_lt k volume.start) _ _ (le-ltb k volume.start (omega arith))
    ∙ cond-true (nat_lt k (catalog_start volume)) _ _ (lt-ltb k (catalog_start volume) (omega arith))
    ∙ ap (tree_block (extents_tree volume)) place

new_block-catalog : (volume : Layout) → IsNewVolume volume → (k j : ℕ) → k ≡ volume.start + volume.extents.nodes + j → j < volume.catalog.nodes
    → new_block volume k ≡ catalog_block volume j
unfolding new_block
new_block-catalog volume ok k j e lt =
    let within = files-within volume ok in
    let place : k - catalog_start volume ≡ j = omega arith in
    cond-false (is_mdb_block volume k) _ _ (not-mdb volume k (omega (arith, ok.behind_bitmap)) (omega arith))
    ∙ cond-false (nat_lt k 3) _ _ (le-ltb k 3 (omega (arith, ok.behind_bitmap)))
    ∙ cond-false (nat_lt k volume.start) _ _ (le-ltb k volume.start (omega arith))
    ∙ cond-false (nat_lt k (catalog_start volume)) _ _ (le-ltb k (catalog_start volume) (omega arith))
    ∙ ap (catalog_block volume) place

-- ---- the nodes of a new tree

tree_block-header : (tree : Header) → tree_block tree 0 ≡ node_bytes (header_node tree)
unfolding tree_block
tree_block-header tree = cond-false _ _ _ (le-ltb (map_node_count tree.nodes) 0 (omega arith))

tree_block-map : (tree : Header) (j : ℕ) → 1 ≤ j → j ≤ map_node_count tree.nodes → tree_block tree j ≡ node_bytes (map_node tree j)
unfolding tree_block
tree_block-map tree j some few = cond-false _ _ _ (le-ltb (map_node_count tree.nodes) j few) ∙ cond-true _ _ _ (lt-ltb 0 j some)

catalog_block-leaf : (volume : Layout) (j : ℕ) → j ≡ 1 + map_node_count volume.catalog.nodes → catalog_block volume j ≡ node_bytes (root_leaf volume)
unfolding one_leaf_tree
catalog_block-leaf volume j e = cond-true _ _ _ (eq-eqb j (catalog_tree volume).root e)

catalog_block-before : (volume : Layout) (j : ℕ) → j ≤ map_node_count volume.catalog.nodes → catalog_block volume j ≡ tree_block (catalog_tree volume) j
unfolding one_leaf_tree
catalog_block-before volume j few = cond-false _ _ _ (ne_eqb j (catalog_tree volume).root (λ e. omega arith))

-- ---- a file of one run

one_run-nodes : (blocks : ℕ → List ℕ) (volume : Layout) (first count : ℕ)
    → file_blocks blocks (new_mdb volume) (one_run first count) ≡ map blocks (range_with_len (volume.start + first * volume.factor) (count * volume.factor))
unfolding nodes_in new_mdb
one_run-nodes blocks volume first count =
    let each : 512 * volume.factor / 512 ≡ volume.factor = omega arith in
    let none : 0 * (512 * volume.factor / 512) ≡ 0 = omega arith in
    let at : ℕ = volume.start + 0 * (512 * volume.factor / 512) in
    ap (map blocks) (
    (λ i. range_with_len (volume.start + first * each i) (count * each i) ++ (range_with_len at (none i) ++ (range_with_len at (none i) ++ [])))
    ∙ append-nil (range_with_len (volume.start + first * volume.factor) (count * volume.factor)))

-- such a file has as many blocks as its size has nodes
pub tree_nodes-one_run : (blocks : ℕ → List ℕ) (volume : Layout) (first count nodes : ℕ) → nodes ≡ count * volume.factor
    → tree_nodes blocks (new_mdb volume) (one_run first count) (512 * nodes) ≡ file_blocks blocks (new_mdb volume) (one_run first count)
unfolding tree_nodes
tree_nodes-one_run blocks volume first count nodes e =
    let len = ap length (one_run-nodes blocks volume first count) ∙ length-map-range_with_len blocks (volume.start + first * volume.factor) (count * volume.factor) in
    take_all (node_count (512 * nodes)) (file_blocks blocks (new_mdb volume) (one_run first count)) (omega (arith, len, e))

-- node k of such a file is the block that the new volume has there
node_in-one_run : (volume : Layout) → IsNewVolume volume → (first count k : ℕ) (node : Node) → k < count * volume.factor → volume.start + first * volume.factor + k < volume.blocks
    → IsNodeValue node → new_block volume (volume.start + first * volume.factor + k) ≡ node_bytes node
    → node_in (file_blocks (image_block volume) (new_mdb volume) (one_run first count)) k ≡ Ok node
unfolding node_in
node_in-one_run volume ok first count k node lt within value is =
    let a : ℕ = volume.start + first * volume.factor in
    ap (λ nodes. node_of (get_or nodes k [])) (one_run-nodes (image_block volume) volume first count)
    ∙ ap node_of (get_or-map-range_with_len (image_block volume) a (count * volume.factor) k (a + k) [] lt refl
    ∙ block_at-volume_image volume ok (a + k) within
    ∙ is)
    ∙ node_of-node_bytes node value

-- ---- the extents file

pub extents-holds : (volume : Layout) → IsNewVolume volume → HoldsNoLeaf ext_keys volume.extents.nodes (new_extents_nodes volume)
unfolding new_mdb empty_tree
extents-holds volume ok =
    let within = files-within volume ok in
    let all = ok.extents in
    let tree : Header = extents_tree volume in
    let is : (j : ℕ) → j < volume.extents.nodes → new_block volume (volume.start + 0 * volume.factor + j) ≡ tree_block tree j =
    λ j lt. new_block-extents volume ok _ j (omega arith) lt in
    let room = room-no_leaf volume.extents.nodes ok.some_extents in
    let few = few-map_nodes volume.extents.nodes (omega (arith, ok.blocks)) in
    record {
      some = ok.some_extents;
      few = omega (arith, ok.blocks);
      key_len = omega arith;
      map = record {
        header = node_in-one_run volume ok 0 volume.extents.blocks 0 (header_node tree) (omega (arith, ok.some_extents)) (omega (arith, ok.some_catalog))
            (header_node-value tree) (is 0 ok.some_extents ∙ tree_block-header tree);
        maps = λ j some last. node_in-one_run volume ok 0 volume.extents.blocks j (map_node tree j) (omega arith) (omega arith)
            (map_node-value tree j (omega arith)) (is j (omega arith) ∙ tree_block-map tree j some last);
      };
    }

-- ---- the catalog file

abbrev pub root_key : Layout → CatKey
root_key volume = record { parent = 1; name = volume.name }

abbrev pub root_thread_key : CatKey
root_thread_key = record { parent = 2; name = [] }

-- the root's record, and its thread
abbrev pub root_pair : Layout → Record
root_pair volume = (root_key volume, dir_record_bytes (root_directory volume.moment))

abbrev pub root_thread_pair : Layout → Record
root_thread_pair volume = (root_thread_key, thread_record_bytes (new_thread Folder 1 volume.name))

abbrev pub new_catalog : Layout → Catalog
new_catalog volume = root_pair volume ∷ root_thread_pair volume ∷ []

root_key-value : (volume : Layout) → IsNewVolume volume → IsCatKeyValue (root_key volume)
root_key-value volume ok = record { parent = omega arith; name = omega (arith, ok.name) }

root_thread_key-value : IsCatKeyValue root_thread_key
root_thread_key-value = record { parent = omega arith; name = omega arith }

abbrev pub root_records : Layout → List (List ℕ)
root_records volume = root_record volume ∷ root_thread volume ∷ []

pair-read : (key : CatKey) (body : List ℕ) → IsCatKeyValue key → pair_of cat_keys (cat_leaf_bytes key ++ body) ≡ (key, body)
pair-read key body ok = λ i. (cat_key_of-leaf key body ok i, cat_body_of-leaf key body i)

root_pairs : (volume : Layout) → IsNewVolume volume → map (pair_of cat_keys) (root_records volume) ≡ new_catalog volume
unfolding root_record root_thread
root_pairs volume ok =
    let first = pair-read (root_key volume) (dir_record_bytes (root_directory volume.moment)) (root_key-value volume ok) in
    let second = pair-read root_thread_key (thread_record_bytes (new_thread Folder 1 volume.name)) root_thread_key-value in
    λ i. first i ∷ second i ∷ []

pub new_catalog-rises : (volume : Layout) → Rises cat_keys.compare (new_catalog volume)
new_catalog-rises volume = ((refl, tt), (tt, tt))

root_record-leaf : (volume : Layout) → IsNewVolume volume → is_cat_leaf (root_record volume) ≡ true
unfolding root_record
root_record-leaf volume ok =
    is_cat_leaf-leaf (root_key volume) (dir_record_bytes (root_directory volume.moment)) (root_key-value volume ok)
    ∙ ap is_cat_body_len (length-dir_record_bytes (root_directory volume.moment) (root_directory-value volume.moment ok.moment))

root_thread-leaf : (volume : Layout) → IsNewVolume volume → is_cat_leaf (root_thread volume) ≡ true
unfolding root_thread
root_thread-leaf volume ok =
    is_cat_leaf-leaf root_thread_key (thread_record_bytes (new_thread Folder 1 volume.name)) root_thread_key-value
    ∙ ap is_cat_body_len (length-thread_record_bytes (new_thread Folder 1 volume.name) (root_thread-value volume.name (omega (arith, ok.name))))

pub catalog-holds : (volume : Layout) → IsNewVolume volume → HoldsOneLeaf cat_keys volume.catalog.nodes (root_records volume) (new_catalog_nodes volume)
unfolding new_mdb root_leaf one_leaf_tree
catalog-holds volume ok =
    let within = files-within volume ok in
    let all = ok.catalog in
    let before = ok.extents in
    let tree : Header = catalog_tree volume in
    let leaf : ℕ = 1 + map_node_count volume.catalog.nodes in
    let is : (j : ℕ) → j < volume.catalog.nodes → new_block volume (volume.start + volume.extents.blocks * volume.factor + j) ≡ catalog_block volume j =
    λ j lt. new_block-catalog volume ok _ j (omega arith) lt in
    let room = room-map_nodes volume.catalog.nodes ok.some_catalog in
    let few = few-map_nodes volume.catalog.nodes (omega (arith, ok.blocks)) in
    record {
      two = ok.some_catalog;
      few = omega (arith, ok.blocks);
      key_len = omega arith;
      some = omega arith;
      short = omega arith;
      whole = (root_record-leaf volume ok, (root_thread-leaf volume ok, tt));
      rises = subst (Rises cat_keys.compare) (sym (root_pairs volume ok)) (new_catalog-rises volume);
      map = record {
        header = node_in-one_run volume ok volume.extents.blocks volume.catalog.blocks 0 (header_node tree) (omega arith) (omega arith)
            (header_node-value tree) (is 0 (omega arith) ∙ catalog_block-before volume 0 (omega arith) ∙ tree_block-header tree);
        maps = λ j some last. node_in-one_run volume ok volume.extents.blocks volume.catalog.blocks j (map_node tree j) (omega arith) (omega arith)
            (map_node-value tree j (omega arith)) (is j (omega arith) ∙ catalog_block-before volume j last ∙ tree_block-map tree j some last);
      };
      leaf = node_in-one_run volume ok volume.extents.blocks volume.catalog.blocks leaf (root_leaf volume) (omega arith) (omega arith)
          (root_leaf-value volume ok) (is leaf (omega arith) ∙ catalog_block-leaf volume leaf refl);
    }

-- ---- what the files hold

pub overflow_of-new : (volume : Layout) → IsNewVolume volume → overflow_of (new_extents_nodes volume) ≡ []
overflow_of-new volume ok = no_leaf-content ext_keys volume.extents.nodes (new_extents_nodes volume) (extents-holds volume ok)

pub extents-shaped : (volume : Layout) → IsNewVolume volume → IsShaped ext_keys (512 * volume.extents.nodes) (new_extents_nodes volume)
extents-shaped volume ok = no_leaf-shaped ext_keys volume.extents.nodes (new_extents_nodes volume) (extents-holds volume ok)

pub extents-ordered : (volume : Layout) → IsNewVolume volume → IsOrdered ext_keys (new_extents_nodes volume)
extents-ordered volume ok = no_leaf-ordered ext_keys volume.extents.nodes (new_extents_nodes volume) (extents-holds volume ok)

pub catalog_of-new : (volume : Layout) → IsNewVolume volume → catalog_of (new_catalog_nodes volume) ≡ new_catalog volume
catalog_of-new volume ok =
    one_leaf-content cat_keys volume.catalog.nodes (root_records volume) (new_catalog_nodes volume) (catalog-holds volume ok) ∙ root_pairs volume ok

pub catalog-shaped : (volume : Layout) → IsNewVolume volume → IsShaped cat_keys (512 * volume.catalog.nodes) (new_catalog_nodes volume)
catalog-shaped volume ok = one_leaf-shaped cat_keys volume.catalog.nodes (root_records volume) (new_catalog_nodes volume) (catalog-holds volume ok)

pub catalog-ordered : (volume : Layout) → IsNewVolume volume → IsOrdered cat_keys (new_catalog_nodes volume)
catalog-ordered volume ok = one_leaf-ordered cat_keys volume.catalog.nodes (root_records volume) (new_catalog_nodes volume) (catalog-holds volume ok)
