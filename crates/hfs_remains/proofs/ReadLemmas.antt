-- The records that are found in blocks of bytes.
use Rattle.std.proofs.Common.{◌≡◌, ℕ, zero, suc, ◌-◌, ◌/◌, ◌%◌, Bool, true, false, if◌then◌else◌, List, [], ◌∷◌, ◌++◌, length, map, Option, Some, None, slice_index_or, refl}
use Rattle.std.specs.Bool.{beq}
use Rattle.std.specs.List.{flat_map, list_all, range_with_len}
use Rattle.std.proofs.lemmas.Bool.{and_parts}
use Rattle.hfs_fields.specs.declared.mdb.Mdb.{Mdb}
use Rattle.hfs_fields.specs.declared.extent.Extent.{Extent}
use Rattle.hfs_fields.specs.Keys.{is_cat_leaf}
use Rattle.hfs_fields.specs.Each.{Each}
use Rattle.hfs_fields.proofs.ElementLemmas.{each-append, each-map, each-mono}
use Rattle.hfs_fields.proofs.PartLemmas.{flat-each}
use Rattle.hfs_btree.specs.Node.{node_of}
use Rattle.hfs_btree.specs.Header.{depth_of, leaves, root_level}
use Rattle.hfs_btree.specs.Sound.{HasStructure, IsRight}
use Rattle.hfs_btree.specs.Tree.{Store, first_of, node_in, pair_of, pairs, records_in, spots}
use Rattle.hfs_btree.proofs.DescentLemmas.{leaf-entries, leaves-right}
use Rattle.hfs_catalog.specs.Records.{Record, Catalog}
use Rattle.hfs_catalog.specs.Tree.{cat_keys, catalog_of}
use Rattle.hfs_space.specs.Forks.{blocks_each}
use Rattle.hfs_check.specs.Parts.{Blocks}
use Rattle.hfs_check.proofs.LawsProved.{no_catalog_fault}
use Rattle.hfs_remains.specs.InUse.{is_in_use}
use Rattle.hfs_remains.specs.TreeFiles.{FileBlocks, first_nodes, node_at, nodes_of, piece_of}
use Rattle.hfs_remains.specs.LeafRecords.{all_leaf_records, leaf_records, records_at, records_of_age, with_age}
use Rattle.hfs_remains.specs.CatalogRecords.{all_stray_records, catalog_nodes, catalog_records, found, found_in, found_in_leaves, found_in_tree, found_of, is_catalog_body, is_catalog_record, is_catalog_tree_right, is_lacking, is_node_block, scattered_records, stray_records, stray_records_at}
use Rattle.hfs_remains.specs.Remains.{catalog_file_blocks, catalog_file_extents}
use Rattle.hfs_remains.specs.Items.{is_next_item, items_behind, with_next}
use Rattle.hfs_remains.specs.declared.catalog.FoundRecord.{FoundRecord}
use Rattle.hfs_remains.specs.declared.leaf_records.LeafRecord.{LeafRecord}
use Rattle.hfs_remains.specs.Laws.{AreBytes, IsReadRecord, RecordsAreRead}
use Rattle.hfs_remains.proofs.RightLemmas.{catalog-shaped}
use Rattle.hfs_remains.proofs.ByteLemmas.{each-any, leaf-bytes, no-bytes, node-bytes, record-read, zero-bytes}

-- what is there or isn't
if-each : {X : Type 0} (P : X → Type 0) (b : Bool) (xs : List X) → Each P xs → Each P (if b then [] else xs)
if-each P true xs all = tt
if-each P false xs all = all

-- ---- nodes

module _ (blocks : Blocks) (are : (n : ℕ) → AreBytes (blocks n)) where
  piece-bytes : (mdb : Mdb) (place : Option ℕ) (i : ℕ) → AreBytes (piece_of blocks mdb place i)
  piece-bytes mdb None i = zero-bytes 512
  piece-bytes mdb (Some b) i = are _

  abbrev HasBytes : Store → Type 0
  HasBytes nodes = (n : ℕ) → AreBytes (slice_index_or nodes n [])

  map-bytes : (f : ℕ → List ℕ) (ns : List ℕ) → ((n : ℕ) → AreBytes (f n)) → HasBytes (map f ns)
  map-bytes f [] all n = no-bytes
  map-bytes f (m ∷ ns) all zero = all m
  map-bytes f (m ∷ ns) all (suc n) = map-bytes f ns all n

  pub nodes-bytes : (mdb : Mdb) (file : FileBlocks) (count : ℕ) → HasBytes (first_nodes blocks mdb file count)
  unfolding node_at
  nodes-bytes mdb file count = map-bytes (node_at blocks mdb file) (range_with_len 0 count) (λ n. piece-bytes mdb (slice_index_or file (n / blocks_each mdb) None) (n % blocks_each mdb))

  pub store-bytes : (nodes : Store) (n : ℕ) → HasBytes nodes → Each AreBytes (records_in nodes n)
  unfolding node_in
  store-bytes nodes n all = node-bytes (slice_index_or nodes n []) (node_in nodes n) (all n) refl

  -- ---- leaves

  abbrev IsReadLeaf : LeafRecord → Type 0
  IsReadLeaf r = AreBytes r.bytes

  aged : (old : Bool) (records : List (List ℕ)) → Each AreBytes records → Each IsReadLeaf (with_age old records)
  aged old records all = each-map IsReadLeaf (λ bytes. record { old = old; bytes = bytes }) records all

  leaves-at : (nodes : Store) (old : Bool) (n : ℕ) → HasBytes nodes → Each IsReadLeaf (records_at nodes old n)
  unfolding node_in
  leaves-at nodes old n all =
      if-each IsReadLeaf (beq old (is_in_use nodes n)) (with_age old (leaf_records (node_in nodes n)))
      (aged old (leaf_records (node_in nodes n)) (leaf-bytes (slice_index_or nodes n []) (node_in nodes n) (all n) refl))

  leaves-aged : (nodes : Store) (old : Bool) → HasBytes nodes → Each IsReadLeaf (records_of_age nodes old)
  unfolding records_of_age
  leaves-aged nodes old all =
      flat-each IsReadLeaf (records_at nodes old) (range_with_len 0 (length nodes)) (each-any _ (range_with_len 0 (length nodes)) (λ n. leaves-at nodes old n all))

  leaves-all : (nodes : Store) → HasBytes nodes → Each IsReadLeaf (all_leaf_records nodes)
  unfolding all_leaf_records
  leaves-all nodes all = each-append IsReadLeaf (records_of_age nodes false) (records_of_age nodes true) (leaves-aged nodes false all) (leaves-aged nodes true all)

  stray-bytes : (bytes : List ℕ) → AreBytes bytes → Each IsReadLeaf (stray_records bytes)
  stray-bytes bytes all = by (list_all is_catalog_record (leaf_records (node_of bytes))) (aged true (leaf_records (node_of bytes)) (leaf-bytes bytes (node_of bytes) all refl))
    where
      by : (b : Bool) → Each IsReadLeaf (with_age true (leaf_records (node_of bytes))) → Each IsReadLeaf (if b then with_age true (leaf_records (node_of bytes)) else [])
      by true each = each
      by false each = tt

  strays-all : (total : ℕ) (mdb : Mdb) (file : FileBlocks) → Each IsReadLeaf (all_stray_records total blocks mdb file)
  unfolding all_stray_records
  strays-all total mdb file =
      flat-each IsReadLeaf (stray_records_at blocks mdb file) (range_with_len 3 (total - 3))
      (each-any _ (range_with_len 3 (total - 3)) (λ k. if-each IsReadLeaf (is_node_block mdb file k) (stray_records (blocks k)) (stray-bytes (blocks k) (are k))))

  -- ---- records, wherever they are found

  in-leaf : (r : LeafRecord) → AreBytes r.bytes → Each IsReadRecord (found_in r)
  in-leaf r all = by (is_catalog_record r.bytes) refl
    where
      by : (b : Bool) → is_catalog_record r.bytes ≡ b → Each IsReadRecord (if b then found r.old (pair_of cat_keys r.bytes) ∷ [] else [])
      by true is = (record-read r.old r.bytes all (and_parts (is_cat_leaf r.bytes) _ is).0, tt)
      by false is = tt

  in-leaves : (leaves : List LeafRecord) → Each IsReadLeaf leaves → Each IsReadRecord (found_in_leaves leaves)
  in-leaves leaves all = flat-each IsReadRecord found_in leaves (each-mono IsReadLeaf (λ r. Each IsReadRecord (found_in r)) leaves in-leaf all)

  module _ (total : ℕ) (mdb : Mdb) (file : FileBlocks) where
    abbrev own-records : List FoundRecord
    own-records = found_in_leaves (all_leaf_records (nodes_of blocks mdb file))

    abbrev strays : List FoundRecord
    strays = found_in_leaves (all_stray_records total blocks mdb file)

    own-read : Each IsReadRecord own-records
    own-read = in-leaves (all_leaf_records (nodes_of blocks mdb file)) (leaves-all (nodes_of blocks mdb file) (nodes-bytes mdb file _))

    scattered-read : Each IsReadRecord (scattered_records total blocks mdb file)
    unfolding scattered_records
    scattered-read = by (is_lacking mdb file own-records)
      where
        by : (b : Bool) → Each IsReadRecord (if b then own-records ++ strays else own-records)
        by true = each-append IsReadRecord own-records strays own-read (in-leaves (all_stray_records total blocks mdb file) (strays-all total mdb file))
        by false = own-read

-- ---- the records of a tree

abbrev IsReadPair : Record → Type 0
IsReadPair r = IsReadRecord (found false r)

module _ (nodes : Store) (all : (n : ℕ) → AreBytes (slice_index_or nodes n [])) where
  entries-read : (entries : List (List ℕ)) → Each AreBytes entries → Each (λ e. is_cat_leaf e ≡ true) entries → Each IsReadPair (map (pair_of cat_keys) entries)
  entries-read [] bytes leaf = tt
  entries-read (e ∷ entries) bytes leaf = (record-read false e bytes.0 leaf.0, entries-read entries bytes.1 leaf.1)

  leaves-read : (left : ℕ) (ns : List ℕ) → Each (IsRight cat_keys nodes) (spots 0 left ns) → Each IsReadPair (flat_map (pairs cat_keys nodes) ns)
  unfolding node_in
  leaves-read left [] right = tt
  leaves-read left (n ∷ ns) right =
      each-append IsReadPair (pairs cat_keys nodes n) (flat_map (pairs cat_keys nodes) ns)
      (entries-read (records_in nodes n) (node-bytes (slice_index_or nodes n []) (node_in nodes n) (all n) refl) (leaf-entries cat_keys nodes left n (first_of ns) right.0))
      (leaves-read n ns right.1)

  pub tree-read : HasStructure cat_keys nodes → Each IsReadPair (catalog_of nodes)
  tree-read structure = leaves-read 0 (leaves cat_keys nodes) (leaves-right cat_keys nodes (depth_of nodes) (root_level nodes) structure.levels.each)

pairs-found : (records : Catalog) → Each IsReadPair records → Each IsReadRecord (found_of records)
pairs-found records all = flat-each IsReadRecord found_in_tree records (each-mono IsReadPair (λ r. Each IsReadRecord (found_in_tree r)) records one all)
  where
    one : (r : Record) → IsReadPair r → Each IsReadRecord (found_in_tree r)
    one r read = by (is_catalog_body r.1)
      where
        by : (b : Bool) → Each IsReadRecord (if b then found false r ∷ [] else [])
        by true = (read, tt)
        by false = tt

by-records : (total : ℕ) (blocks : Blocks) (mdb : Mdb) (extents : List Extent) (file : FileBlocks) → ((n : ℕ) → AreBytes (blocks n)) → Each IsReadRecord (catalog_records total blocks mdb extents file)
unfolding catalog_records
by-records total blocks mdb extents file are = by (is_catalog_tree_right mdb extents (catalog_nodes blocks mdb file)) refl
  where
    by : (b : Bool) → is_catalog_tree_right mdb extents (catalog_nodes blocks mdb file) ≡ b
        → Each IsReadRecord (if b then found_of (catalog_of (catalog_nodes blocks mdb file)) else scattered_records total blocks mdb file)
    by true right =
        let nodes : Store = catalog_nodes blocks mdb file in
        pairs-found (catalog_of nodes) (tree-read nodes (nodes-bytes blocks are mdb file _) (catalog-shaped mdb nodes extents no_catalog_fault right).structure)
    by false wrong = scattered-read blocks are total mdb file

pub records-read : RecordsAreRead
records-read total blocks mdb are = by-records total blocks mdb (catalog_file_extents total blocks mdb) (catalog_file_blocks total blocks mdb) are

-- ---- the items among them

pub items-each : (P : FoundRecord → Type 0) (items records : List FoundRecord) → Each P items → Each P records → Each P (items_behind items records)
items-each P items [] old new = old
items-each P items (r ∷ records) old new = items-each P (with_next items r) records (by (is_next_item items r)) new.1
  where
    by : (b : Bool) → Each P (if b then items ++ r ∷ [] else items)
    by true = each-append P items (r ∷ []) old (new.0, tt)
    by false = old
