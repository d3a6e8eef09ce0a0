-- The bytes of the counted numbers lie in whole blocks of the volume.
use Rattle.std.proofs.Common.{◌≡◌, ℕ, zero, suc, ◌+◌, ◌*◌, ◌<◌, ◌≤◌, Bool, true, false, cond, List, [], ◌∷◌, ◌++◌, length, map, filter, get_or, drop, ⊎_elim, refl, sym, ap, subst, ◌∙◌, arith, append_assoc, length-take, length-drop}
use Rattle.std.specs.Prelude.{◌-◌, Ok}
use Rattle.std.specs.Option.{is_none}
use Rattle.std.specs.List.{range_with_len}
use Rattle.std.proofs.lemmas.Bool.{and_parts, cases_lt}
use Rattle.std.proofs.lemmas.Bool.Decides.{nat_tests}
use Rattle.byteorder.specs.Endian.{big_bytes}
use Rattle.byteorder.specs.Numbers.{length-bytes_high_first}
use Rattle.hfs_fields.proofs.CommonLemmas.{none-true}
use Rattle.hfs_fields.specs.declared.extent.Extent.{Extent}
use Rattle.hfs_fields.specs.declared.mdb.Mdb.{Mdb}
use Rattle.hfs_fields.specs.Keys.{is_cat_leaf, is_cat_body_len, cat_body_start, cat_body_of}
use Rattle.hfs_fields.specs.Records.{is_dir}
use Rattle.hfs_btree.specs.declared.node.Node.{Node}
use Rattle.hfs_btree.specs.Node.{node_of, offset_of, count_of, record_of}
use Rattle.hfs_btree.proofs.DecodingLemmas.{node_of-is, length-records, get_or-records, offset-inside, offset-rising}
use Rattle.hfs_blocks.specs.Blocks.{run_of}
use Rattle.hfs_fields.specs.Each.{Each}
use Rattle.hfs_fields.proofs.ElementLemmas.{each-append, each-map, each-mono}
use Rattle.hfs_fields.proofs.PartLemmas.{flat-each}
use Rattle.hfs_btree.specs.declared.key.Key.{Ghosts}
use Rattle.hfs_btree.specs.Keys.{cat_allowed}
use Rattle.hfs_btree.specs.Tree.{Store, node_in, records_in, records_of}
use Rattle.hfs_btree.specs.Header.{leaves}
use Rattle.hfs_btree.specs.Sound.{HasStructure}
use Rattle.hfs_btree.proofs.DescentLemmas.{leaf-node, leaf-entries}
use Rattle.hfs_btree_checks.specs.Shape.{structure_fault}
use Rattle.hfs_btree_checks.proofs.ShapeLawLemmas.{structure-law}
use Rattle.hfs_space.specs.Extents.{IsExtentWithin, AreExtentsWithin}
use Rattle.hfs_space.specs.Faults.{is_tree_file}
use Rattle.hfs_space.specs.ForkLaws.{block_numbers}
use Rattle.hfs_space.specs.Forks.{HasArea, blocks_each, run_in}
use Rattle.hfs_space.specs.TreeFiles.{tree_nodes}
use Rattle.hfs_space.specs.TreeKeys.{ext_keys}
use Rattle.hfs_space.proofs.Decided.{each_from_all}
use Rattle.hfs_space.proofs.ForkLengthLemmas.{extent-end}
use Rattle.hfs_space.proofs.OwnedOnce.{each-range}
use Rattle.hfs_catalog.specs.Records.{valence_of}
use Rattle.hfs_catalog.specs.Tree.{cat_keys}
use Rattle.hfs_check.specs.Faults.{mdb_fault}
use Rattle.hfs_check.specs.Parts.{Blocks, mdb_in}
use Rattle.hfs_check.specs.Sound.{IsMdbSound}
use Rattle.hfs_check.proofs.LawsProved.{no_mdb_fault}
use Rattle.hfs_repair.specs.declared.byte_put.BytePut.{BytePut}
use Rattle.hfs_repair.specs.declared.fixed.FixPlace.{FixPlace}
use Rattle.hfs_repair.specs.declared.fixed.FixPlace.TheVariants.{ExtentsRecords, ExtentsFree, CatalogRecords, CatalogFree}
use Rattle.hfs_repair.specs.Fields.{PlacedNumber}
use Rattle.hfs_repair.specs.Opened.{is_tree_right, is_extents_right, is_catalog_right, extents_of, catalog_file_of, catalog_nodes_of, catalog_in_of, are_records_right, are_extents_in_order}
use Rattle.hfs_repair.specs.Placed.{is_wrong, placed_in_mdb, placed_in_header, placed_valence, placed_from, placed_in_leaf, placed_valences}
use Rattle.hfs_repair.specs.Puts.{puts_from, number_puts, puts_of, AreInBlocks}
use Rattle.hfs_repair.specs.Wrong.{wrong_in_blocks, placed_of}
use Rattle.hfs_repair.proofs.Mendable.{mdb-wrong, extents-wrong, catalog-wrong, trees-right}
use Rattle.hfs_repair.proofs.Openings.{extents_within}
use Rattle.hfs_repair.proofs.Repaired.{filtered, filtered-by}

-- a number's bytes lie in so many blocks
abbrev pub LiesIn : ℕ → PlacedNumber → Type 0
LiesIn total n = n.1.at + n.1.width ≤ 512 * total

abbrev IsBlock : ℕ → ℕ → Type 0
IsBlock total b = b < total

-- ---- the blocks of a file

module _ (mdb : Mdb) (total : ℕ) (area : HasArea mdb total) where
  run-lies : (e : Extent) → IsExtentWithin mdb.allocation_blocks e → Each (IsBlock total) (run_of (run_in mdb e))
  run-lies e within = ⊎_elim
      (λ (some : 0 < e.count).
      let end = extent-end mdb total e area within some in
      each-range (IsBlock total) (mdb.allocation_start + e.first * blocks_each mdb) (e.count * blocks_each mdb) (λ b le lt. omega (arith, end, le, lt)))
      (λ (none : e.count ≤ 0).
      let zero_count : e.count ≡ 0 = omega (arith, none) in
      let nothing : e.count * blocks_each mdb ≡ 0 = ap (λ (n : ℕ). n * blocks_each mdb) zero_count ∙ omega arith in
      subst (λ (n : ℕ). Each (IsBlock total) (range_with_len (mdb.allocation_start + e.first * blocks_each mdb) n)) (sym nothing) tt)
      (cases_lt 0 e.count)

  file-lies : (extents : List Extent) → AreExtentsWithin mdb.allocation_blocks extents → Each (IsBlock total) (block_numbers mdb extents)
  file-lies extents within =
      flat-each (IsBlock total) run_of (map (run_in mdb) extents)
      (each-map (λ run. Each (IsBlock total) (run_of run)) (run_in mdb) extents
      (each-mono (IsExtentWithin mdb.allocation_blocks) (λ e. Each (IsBlock total) (run_of (run_in mdb e))) extents run-lies
      (each_from_all (IsExtentWithin mdb.allocation_blocks) extents within)))

-- one of them, and 0 behind their end
number-lies : (total : ℕ) → 0 < total → (numbers : List ℕ) → Each (IsBlock total) numbers → (n : ℕ) → get_or numbers n 0 < total
number-lies total some [] h n = some
number-lies total some (b ∷ numbers) h zero = h.0
number-lies total some (b ∷ numbers) h (suc n) = number-lies total some numbers h.1 n

-- ---- records in their node

module _ (bytes : List ℕ) (v : Node) (decodes : node_of bytes ≡ Ok v) where
  record-end : (k : ℕ) → k < length v.records → offset_of bytes k + length (get_or v.records k []) ≤ 512
  unfolding record_of
  record-end k lt =
      let is = node_of-is bytes v decodes in
      let count : length v.records ≡ count_of bytes = ap (λ (x : Node). length x.records) is.1 ∙ length-records v.kind bytes in
      let within : k < count_of bytes = omega (arith, lt, count) in
      let own : get_or v.records k [] ≡ record_of bytes k = ap (λ (x : Node). get_or x.records k []) is.1 ∙ get_or-records v.kind bytes k within in
      let rise = offset-rising bytes k is.0.rising within in
      let inside = offset-inside bytes (k + 1) is.0.inside (omega (arith, within)) in
      let long = length-take (offset_of bytes (k + 1) - offset_of bytes k) (drop (offset_of bytes k) bytes) in
      let same : length (get_or v.records k []) ≡ length (record_of bytes k) = ap (λ (r : List ℕ). length r) own in
      omega (arith, rise, inside.1, long, same)

body-least : (n : ℕ) → is_cat_body_len n ≡ true → 46 ≤ n
body-least n h = grind (arith, nat_tests)

leaf-least : (entry : List ℕ) → is_cat_leaf entry ≡ true → cat_body_start entry + 46 ≤ length entry
leaf-least entry h = omega (arith, body-least (length (cat_body_of entry)) (cat_allowed entry h), length-drop (cat_body_start entry) entry)

-- ---- the numbers in one block

module _ (total b : ℕ) (lies : b < total) (bytes : List ℕ) (children : ℕ → ℕ) where
  -- each of these records, of which the first is record k, ends in the node
  abbrev End : ℕ → List (List ℕ) → Type 0
  End k entries = (i : ℕ) → i < length entries → offset_of bytes (k + i) + length (get_or entries i []) ≤ 512

  next-end : (k : ℕ) (entry : List ℕ) (entries : List (List ℕ)) → End k (entry ∷ entries) → End (suc k) entries
  next-end k entry entries ends i lt =
      let same : k + suc i ≡ suc k + i = omega arith in
      subst (λ (j : ℕ). offset_of bytes j + length (get_or entries i []) ≤ 512) same (ends (suc i) (omega (arith, lt)))

  valence-lies : (k : ℕ) (entry : List ℕ) → is_cat_leaf entry ≡ true → offset_of bytes k + length entry ≤ 512
      → LiesIn total (placed_valence children (512 * b + offset_of bytes k) entry)
  valence-lies k entry leaf end = omega (arith, lies, end, leaf-least entry leaf)

  leaf-lies : (k : ℕ) (entries : List (List ℕ)) → End k entries → Each (λ e. is_cat_leaf e ≡ true) entries
      → Each (LiesIn total) (placed_from children (λ j. 512 * b + offset_of bytes j) k entries)
  leaf-lies k [] ends leaf = tt
  leaf-lies k (entry ∷ entries) ends leaf =
      let same : k + 0 ≡ k = omega arith in
      filtered-by (LiesIn total) (is_dir (cat_body_of entry)) (placed_valence children (512 * b + offset_of bytes k) entry)
      (placed_from children (λ j. 512 * b + offset_of bytes j) (suc k) entries)
      (valence-lies k entry leaf.0 (subst (λ (j : ℕ). offset_of bytes j + length entry ≤ 512) same (ends 0 (omega arith))))
      (leaf-lies (suc k) entries (next-end k entry entries ends) leaf.1)

-- ---- the numbers of a tree

module _ (total : ℕ) (some : 0 < total) (numbers : List ℕ) (lie : Each (IsBlock total) numbers) (nodes : Store) where
  header-lies : {K : Type 0} (g : Ghosts K) (records free : FixPlace) → HasStructure g nodes → Each (LiesIn total) (placed_in_header g records free numbers nodes)
  unfolding placed_in_header node_in
  header-lies g records free structure =
      let head = structure.header in
      let block = number-lies total some numbers lie 0 in
      let end = record-end (get_or nodes 0 []) head.value head.decodes 0 (omega (arith, head.three)) in
      let same : get_or (records_in nodes 0) 0 [] ≡ get_or head.value.records 0 [] = ap (λ r. get_or (records_of r) 0 []) head.decodes in
      let long : 106 ≤ length (get_or head.value.records 0 []) = subst (λ (r : List ℕ). 106 ≤ length r) same head.long in
      (omega (arith, block, end, long), (omega (arith, block, end, long), tt))

  leaf-of : (children : ℕ → ℕ) → HasStructure cat_keys nodes → (done : List ℕ) (n : ℕ) (rest : List ℕ) → leaves cat_keys nodes ≡ done ++ n ∷ rest
      → Each (LiesIn total) (placed_in_leaf children numbers nodes n)
  unfolding node_in
  leaf-of children structure done n rest split =
      let node = leaf-node cat_keys nodes structure done n rest split in
      let bytes = get_or nodes n [] in
      let is : records_in nodes n ≡ node.1.value.records = ap records_of node.1.decodes in
      leaf-lies total (get_or numbers n 0) (number-lies total some numbers lie n) bytes children 0 (records_in nodes n)
      (λ i lt. subst (λ (es : List (List ℕ)). offset_of bytes (0 + i) + length (get_or es i []) ≤ 512) (sym is)
      (let same : i ≡ 0 + i = omega arith in
      subst (λ (j : ℕ). offset_of bytes j + length (get_or node.1.value.records i []) ≤ 512) same
      (record-end bytes node.1.value node.1.decodes i (omega (arith, lt, ap (λ (es : List (List ℕ)). length es) is)))))
      (leaf-entries cat_keys nodes node.0 n _ node.1)

  leaves-lie : (children : ℕ → ℕ) → HasStructure cat_keys nodes → (done rest : List ℕ) → leaves cat_keys nodes ≡ done ++ rest
      → Each (λ n. Each (LiesIn total) (placed_in_leaf children numbers nodes n)) rest
  leaves-lie children structure done [] split = tt
  leaves-lie children structure done (n ∷ rest) split = (
    leaf-of children structure done n rest split,
    leaves-lie children structure (done ++ n ∷ []) rest (split ∙ sym (append_assoc done (n ∷ []) rest)),
  )

  valences-lie : (children : ℕ → ℕ) → HasStructure cat_keys nodes → Each (LiesIn total) (placed_valences children numbers nodes)
  unfolding placed_valences
  valences-lie children structure =
      flat-each (LiesIn total) (placed_in_leaf children numbers nodes) (leaves cat_keys nodes) (leaves-lie children structure [] (leaves cat_keys nodes) refl)

-- ---- the numbers of a volume

module _ (total : ℕ) (blocks : Blocks) (some : 3 ≤ total) (sound : IsMdbSound total (mdb_in blocks)) where
  abbrev mdb : Mdb
  mdb = mdb_in blocks

  tree-file : {K : Type 0} (g : Ghosts K) (file : List Extent) (size : ℕ) → is_tree_right g blocks mdb file size ≡ true
      → Each (IsBlock total) (block_numbers mdb file) × HasStructure g (tree_nodes blocks mdb file size)
  tree-file g file size right =
      let both = and_parts (is_tree_file mdb file size) (is_none (structure_fault g size (tree_nodes blocks mdb file size))) right in (
        file-lies mdb total sound.area file (extents_within mdb file size both.0),
        ((structure-law g size (tree_nodes blocks mdb file size)).0 (none-true _ both.1)).0,
      )

  mdb-lies : Each (LiesIn total) (placed_in_mdb blocks mdb (catalog_in_of blocks mdb))
  unfolding placed_in_mdb
  mdb-lies = (omega (arith, some), (omega (arith, some), (omega (arith, some), (omega (arith, some), (omega (arith, some), tt)))))

  extents-lie : is_extents_right blocks mdb ≡ true
      → Each (LiesIn total) (placed_in_header ext_keys ExtentsRecords ExtentsFree (block_numbers mdb mdb.extents_file) (extents_of blocks mdb))
  unfolding is_extents_right
  extents-lie right =
      let tree = tree-file ext_keys mdb.extents_file mdb.extents_file_size
      (and_parts (is_tree_right ext_keys blocks mdb mdb.extents_file mdb.extents_file_size) (are_extents_in_order (extents_of blocks mdb)) right).0 in
      header-lies total (omega (arith, some)) (block_numbers mdb mdb.extents_file) tree.0 (extents_of blocks mdb) ext_keys ExtentsRecords ExtentsFree tree.1

  catalog-lies : is_catalog_right blocks mdb ≡ true
      → Each (LiesIn total) (placed_in_header cat_keys CatalogRecords CatalogFree (block_numbers mdb (catalog_file_of blocks mdb)) (catalog_nodes_of blocks mdb)
      ++ placed_valences (valence_of (catalog_in_of blocks mdb)) (block_numbers mdb (catalog_file_of blocks mdb)) (catalog_nodes_of blocks mdb))
  unfolding is_catalog_right
  catalog-lies right =
      let file = catalog_file_of blocks mdb in
      let nodes = catalog_nodes_of blocks mdb in
      let tree = tree-file cat_keys file mdb.catalog_file_size right in
      each-append (LiesIn total) (placed_in_header cat_keys CatalogRecords CatalogFree (block_numbers mdb file) nodes)
      (placed_valences (valence_of (catalog_in_of blocks mdb)) (block_numbers mdb file) nodes)
      (header-lies total (omega (arith, some)) (block_numbers mdb file) tree.0 nodes cat_keys CatalogRecords CatalogFree tree.1)
      (valences-lie total (omega (arith, some)) (block_numbers mdb file) tree.0 nodes (valence_of (catalog_in_of blocks mdb)) tree.1)

  placed-lie : is_extents_right blocks mdb ≡ true → is_catalog_right blocks mdb ≡ true → Each (LiesIn total) (placed_of blocks mdb)
  unfolding placed_of
  placed-lie extents catalog =
      each-append (LiesIn total) (placed_in_mdb blocks mdb (catalog_in_of blocks mdb)) _ mdb-lies
      (each-append (LiesIn total) (placed_in_header ext_keys ExtentsRecords ExtentsFree (block_numbers mdb mdb.extents_file) (extents_of blocks mdb)) _
      (extents-lie extents) (catalog-lies catalog))

chosen : {X : Type 0} (P : X → Type 0) (b : Bool) (xs : List X) → Each P xs → Each P (cond b xs [])
chosen P true xs h = h
chosen P false xs h = tt

-- the wrong numbers, by what of the volume is right
module _ (total : ℕ) (blocks : Blocks) (some : 3 ≤ total) where
  none-lie : [] ≡ wrong_in_blocks total blocks → Each (LiesIn total) (wrong_in_blocks total blocks)
  none-lie none = subst (λ (ns : List PlacedNumber). Each (LiesIn total) ns) none tt

  by-parts : (m e c : Bool) → is_none (mdb_fault total (mdb_in blocks)) ≡ m → is_extents_right blocks (mdb_in blocks) ≡ e → is_catalog_right blocks (mdb_in blocks) ≡ c
      → Each (LiesIn total) (wrong_in_blocks total blocks)
  by-parts false e c is-m is-e is-c = none-lie (mdb-wrong blocks total is-m)
  by-parts true false c is-m is-e is-c = none-lie (extents-wrong blocks total is-m is-e)
  by-parts true true false is-m is-e is-c = none-lie (catalog-wrong blocks total is-m is-e is-c)
  by-parts true true true is-m is-e is-c =
      subst (λ (ns : List PlacedNumber). Each (LiesIn total) ns) (trees-right blocks total is-m is-e is-c)
      (chosen (LiesIn total) (are_records_right blocks (mdb_in blocks)) (filter is_wrong (placed_of blocks (mdb_in blocks)))
      (filtered (LiesIn total) is_wrong (placed_of blocks (mdb_in blocks))
      (placed-lie total blocks some ((no_mdb_fault total (mdb_in blocks)).0 (none-true _ is-m)) is-e is-c)))

  pub wrong-lie : Each (LiesIn total) (wrong_in_blocks total blocks)
  wrong-lie = by-parts _ _ _ refl refl refl

-- ---- their bytes

puts-from : (total at : ℕ) (bytes : List ℕ) → at + length bytes ≤ 512 * total → Each (λ p. p.at < 512 * total) (puts_from at bytes)
puts-from total at [] h = tt
puts-from total at (b ∷ bytes) h = (omega (arith, h), puts-from total (suc at) bytes (omega (arith, h)))

pub puts-lie : (total : ℕ) (numbers : List PlacedNumber) → Each (LiesIn total) numbers → AreInBlocks total (puts_of numbers)
unfolding puts_of
puts-lie total numbers h =
    flat-each (λ (p : BytePut). p.at < 512 * total) (λ n. number_puts n.1) numbers
    (each-mono (LiesIn total) (λ n. Each (λ (p : BytePut). p.at < 512 * total) (number_puts n.1)) numbers
    (λ n lies. puts-from total n.1.at (big_bytes n.1.width n.1.now)
    (omega (arith, lies, length-bytes_high_first n.1.width n.1.now))) h)
