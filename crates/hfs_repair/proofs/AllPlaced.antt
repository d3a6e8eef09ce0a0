-- All wrong numbers, added one behind the other.
use Rattle.std.proofs.Common.{◌≡◌, ℕ, ◌+◌, ◌*◌, ◌<◌, List, [], ◌∷◌, ◌++◌, length, take, get_or, filter, refl, sym, ap, subst, ◌∙◌, arith, append_assoc, length-take}
use Rattle.std.specs.List.{flat_map}
use Rattle.std.proofs.lemmas.List.{get_or-take, length-map}
use Rattle.std.proofs.lemmas.List.Elements.{filter-append}
use Rattle.hfs_btree.specs.Node.{offset_of}
use Rattle.hfs_fields.specs.declared.extent.Extent.{Extent}
use Rattle.hfs_fields.specs.declared.mdb.Mdb.{Mdb}
use Rattle.hfs_blocks.specs.Blocks.{nodes_in, run_of}
use Rattle.hfs_btree.specs.declared.key.Key.{Ghosts}
use Rattle.hfs_fields.specs.Each.{Each}
use Rattle.hfs_btree.specs.Tree.{Store, records_in}
use Rattle.hfs_btree.specs.Header.{header_in, free_nodes, leaves, tree_content}
use Rattle.hfs_btree.specs.Sound.{HasStructure}
use Rattle.hfs_btree.proofs.DecodedLemmas.{decoded-within}
use Rattle.hfs_btree.proofs.DescentLemmas.{leaf-node}
use Rattle.hfs_space.specs.ForkLaws.{block_numbers}
use Rattle.hfs_space.specs.TreeFiles.{node_count, tree_nodes, tree_blocks}
use Rattle.hfs_space.specs.TreeKeys.{ext_keys}
use Rattle.hfs_catalog.specs.Records.{valence_of}
use Rattle.hfs_catalog.specs.Tree.{cat_keys}
use Rattle.hfs_check.specs.Parts.{Blocks}
use Rattle.hfs_repair.specs.declared.fixed.FixPlace.{FixPlace}
use Rattle.hfs_repair.specs.declared.fixed.FixPlace.TheVariants.{ExtentsRecords, ExtentsFree, CatalogRecords, CatalogFree}
use Rattle.hfs_repair.specs.declared.tree_file.TreeFile.{TreeFile}
use Rattle.hfs_repair.specs.Fields.{PlacedNumber}
use Rattle.hfs_repair.specs.Opened.{IsTreeIn, extents_of, catalog_file_of, catalog_nodes_of, catalog_in_of}
use Rattle.hfs_repair.specs.Placed.{is_wrong, four_bytes, record_start, placed_in_mdb, placed_in_header, placed_from, placed_in_leaf, placed_valences}
use Rattle.hfs_repair.specs.Wrong.{placed_of}
use Rattle.hfs_repair.proofs.Openings.{some-node}
use Rattle.hfs_repair.proofs.Pushed.{chained}

-- the block of a node, by the numbers of the file's blocks or by those of its nodes
taken : (m : ℕ) (numbers : List ℕ) (n : ℕ) → n < length (take m numbers) → get_or (take m numbers) n 0 ≡ get_or numbers n 0
taken m numbers n lt = get_or-take m numbers n 0 (let short = length-take m numbers in omega arith)

module _ (m : ℕ) (numbers : List ℕ) (nodes : Store) where
  start-same : (n k : ℕ) → n < length (take m numbers) → record_start (take m numbers) nodes n k ≡ record_start numbers nodes n k
  start-same n k lt = ap (λ (b : ℕ). 512 * b + offset_of (get_or nodes n []) k) (taken m numbers n lt)

  pub header-places : {K : Type 0} (g : Ghosts K) (records free : FixPlace) → 0 < length (take m numbers) → placed_in_header g records free (take m numbers) nodes ≡ placed_in_header g records free numbers nodes
  unfolding placed_in_header
  header-places g records free some =
      ap (λ (s : ℕ). four_bytes records (header_in nodes).records (length (tree_content g nodes)) (s + 6) ∷ four_bytes free (header_in nodes).free_nodes (free_nodes nodes) (s + 26) ∷ [])
      (start-same 0 0 some)

  leaf-places : (children : ℕ → ℕ) (n : ℕ) → n < length (take m numbers) → placed_in_leaf children (take m numbers) nodes n ≡ placed_in_leaf children numbers nodes n
  leaf-places children n lt =
      ap (λ (b : ℕ). placed_from children (λ k. 512 * b + offset_of (get_or nodes n []) k) 0 (records_in nodes n)) (taken m numbers n lt)

  leaves-places : (children : ℕ → ℕ) (ns : List ℕ) → Each (λ n. n < length (take m numbers)) ns → flat_map (placed_in_leaf children (take m numbers) nodes) ns ≡ flat_map (placed_in_leaf children numbers nodes) ns
  leaves-places children [] h = refl
  leaves-places children (n ∷ ns) h = λ i. leaf-places children n h.0 i ++ leaves-places children ns h.1 i

  pub valence-places : (children : ℕ → ℕ) → Each (λ n. n < length (take m numbers)) (leaves cat_keys nodes) → placed_valences children (take m numbers) nodes ≡ placed_valences children numbers nodes
  unfolding placed_valences
  valence-places children h = leaves-places children (leaves cat_keys nodes) h

-- each leaf is one of the file's nodes
leaves-within : (nodes : Store) → HasStructure cat_keys nodes → (done rest : List ℕ) → leaves cat_keys nodes ≡ done ++ rest → Each (λ n. n < length nodes) rest
leaves-within nodes structure done [] split = tt
leaves-within nodes structure done (n ∷ rest) split =
    let node = leaf-node cat_keys nodes structure done n rest split in
    (decoded-within nodes n node.1.value node.1.decodes, leaves-within nodes structure (done ++ n ∷ []) rest (split ∙ sym (append_assoc done (n ∷ []) rest)))

each-as : (a b : ℕ) (ns : List ℕ) → a ≡ b → Each (λ n. n < a) ns → Each (λ n. n < b) ns
each-as a b ns e h = subst (λ (m : ℕ). Each (λ n. n < m) ns) e h

module _ {K : Type 0} (g : Ghosts K) (total : ℕ) (blocks : Blocks) (mdb : Mdb) (file : List Extent) (size : ℕ) (tree : TreeFile) (h : IsTreeIn g total blocks mdb file size tree) where
  abbrev nodes : Store
  nodes = tree_nodes blocks mdb file size

  abbrev numbers : List ℕ
  numbers = take (node_count size) (block_numbers mdb file)

  pub numbers-are : flat_map run_of tree.runs.items ≡ numbers
  unfolding tree_blocks
  numbers-are = h.runs.numbers

  as-many : length nodes ≡ length numbers
  unfolding nodes_in
  as-many = sym (ap (λ (s : Store). length s) h.runs.same) ∙ length-map (flat_map run_of tree.runs.items) blocks ∙ ap (λ (ns : List ℕ). length ns) numbers-are

  pub header-in-file : (records free : FixPlace) → placed_in_header g records free (flat_map run_of tree.runs.items) (nodes_in blocks tree.runs.items) ≡ placed_in_header g records free (block_numbers mdb file) nodes
  header-in-file records free =
      (λ i. placed_in_header g records free (numbers-are i) (h.runs.same i))
      ∙ header-places (node_count size) (block_numbers mdb file) nodes g records free (let some = some-node g size nodes tree.counts h.counts in let same = as-many in omega arith)

module _ (total : ℕ) (blocks : Blocks) (mdb : Mdb) (file : List Extent) (size : ℕ) (tree : TreeFile) (h : IsTreeIn cat_keys total blocks mdb file size tree) where
  pub valences-in-file : (children : ℕ → ℕ) → placed_valences children (flat_map run_of tree.runs.items) (nodes_in blocks tree.runs.items) ≡ placed_valences children (block_numbers mdb file) (tree_nodes blocks mdb file size)
  valences-in-file children =
      (λ i. placed_valences children (numbers-are cat_keys total blocks mdb file size tree h i) (h.runs.same i))
      ∙ valence-places (node_count size) (block_numbers mdb file) (tree_nodes blocks mdb file size) children
      (each-as _ _ (leaves cat_keys (tree_nodes blocks mdb file size)) (as-many cat_keys total blocks mdb file size tree h)
      (leaves-within (tree_nodes blocks mdb file size) h.counts.structure [] (leaves cat_keys (tree_nodes blocks mdb file size)) refl))

four : (a b c d : List PlacedNumber) → filter is_wrong (a ++ (b ++ (c ++ d))) ≡ filter is_wrong a ++ (filter is_wrong b ++ (filter is_wrong c ++ filter is_wrong d))
four a b c d =
    filter-append is_wrong a (b ++ (c ++ d))
    ∙ ap (λ (xs : List PlacedNumber). filter is_wrong a ++ xs) (filter-append is_wrong b (c ++ d) ∙ ap (λ (xs : List PlacedNumber). filter is_wrong b ++ xs) (filter-append is_wrong c d))

pushed-four : (w0 w1 w2 w3 w4 a b c d : List PlacedNumber) → w1 ≡ w0 ++ a → w2 ≡ w1 ++ b → w3 ≡ w2 ++ c → w4 ≡ w3 ++ d → w4 ≡ w0 ++ (a ++ (b ++ (c ++ d)))
pushed-four w0 w1 w2 w3 w4 a b c d p q r s =
    chained w0 w1 w4 a (b ++ (c ++ d)) (a ++ (b ++ (c ++ d))) (chained w1 w2 w4 b (c ++ d) (b ++ (c ++ d)) (chained w2 w3 w4 c d (c ++ d) s r refl) q refl) p refl

module _ (total : ℕ) (blocks : Blocks) (mdb : Mdb) (extents catalog : TreeFile) (first : IsTreeIn ext_keys total blocks mdb mdb.extents_file mdb.extents_file_size extents)
    (second : IsTreeIn cat_keys total blocks mdb (catalog_file_of blocks mdb) mdb.catalog_file_size catalog) (children : ℕ → ℕ)
    (counted : (id : ℕ) → children id ≡ valence_of (catalog_in_of blocks mdb) id) (records : Rattle.hfs_catalog.specs.Records.Catalog) (are : records ≡ catalog_in_of blocks mdb) where
  pub all-pushed : (w0 w1 w2 w3 w4 : List PlacedNumber)
      → w1 ≡ w0 ++ filter is_wrong (placed_in_mdb blocks mdb records)
      → w2 ≡ w1 ++ filter is_wrong (placed_in_header ext_keys ExtentsRecords ExtentsFree (flat_map run_of extents.runs.items) (nodes_in blocks extents.runs.items))
      → w3 ≡ w2 ++ filter is_wrong (placed_in_header cat_keys CatalogRecords CatalogFree (flat_map run_of catalog.runs.items) (nodes_in blocks catalog.runs.items))
      → w4 ≡ w3 ++ filter is_wrong (placed_valences children (flat_map run_of catalog.runs.items) (nodes_in blocks catalog.runs.items))
      → w4 ≡ w0 ++ filter is_wrong (placed_of blocks mdb)
  unfolding placed_of
  all-pushed w0 w1 w2 w3 w4 p q r s =
      pushed-four w0 w1 w2 w3 w4 _ _ _ _ p q r s
      ∙ ap (λ (xs : List PlacedNumber). w0 ++ xs) (
      (λ i. filter is_wrong (placed_in_mdb blocks mdb (are i))
      ++ (filter is_wrong (header-in-file ext_keys total blocks mdb mdb.extents_file mdb.extents_file_size extents first ExtentsRecords ExtentsFree i)
      ++ (filter is_wrong (header-in-file cat_keys total blocks mdb (catalog_file_of blocks mdb) mdb.catalog_file_size catalog second CatalogRecords CatalogFree i)
      ++ filter is_wrong ((valences-in-file total blocks mdb (catalog_file_of blocks mdb) mdb.catalog_file_size catalog second children
      ∙ (λ j. placed_valences (λ id. counted id j) (block_numbers mdb (catalog_file_of blocks mdb)) (catalog_nodes_of blocks mdb))) i))))
      ∙ sym (four (placed_in_mdb blocks mdb (catalog_in_of blocks mdb))
      (placed_in_header ext_keys ExtentsRecords ExtentsFree (block_numbers mdb mdb.extents_file) (extents_of blocks mdb))
      (placed_in_header cat_keys CatalogRecords CatalogFree (block_numbers mdb (catalog_file_of blocks mdb)) (catalog_nodes_of blocks mdb))
      (placed_valences (valence_of (catalog_in_of blocks mdb)) (block_numbers mdb (catalog_file_of blocks mdb)) (catalog_nodes_of blocks mdb)))
      )
