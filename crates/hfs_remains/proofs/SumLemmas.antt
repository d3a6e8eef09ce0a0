-- How many items there are for all blocks.
use Rattle.std.proofs.Common.{◌≡◌, ℕ, zero, suc, ◌+◌, ◌-◌, ◌*◌, ◌/◌, ◌<◌, ◌≤◌, Bool, true, false, cond, not, if◌then◌else◌, List, [], ◌++◌, length, take, Option, Some, None, slice_index_or, refl, sym, ap, subst, ◌∙◌, arith}
use Rattle.std.specs.Prelude.{count_by}
use Rattle.std.specs.Bool.{beq}
use Rattle.std.specs.List.{flat_map, list_all, range_with_len, sum_by}
use Rattle.std.specs.Option.{is_some}
use Rattle.std.proofs.Math.Nat.{add-mul}
use Rattle.std.proofs.lemmas.Grind.{flat_map-append}
use Rattle.std.proofs.lemmas.List.{take_all}
use Rattle.std.proofs.lemmas.List.Sums.{sum_by-append, sum_by-cons, count_by_more_yes, count_by_more_no}
use Rattle.hfs_fields.specs.declared.mdb.Mdb.{Mdb}
use Rattle.hfs_btree.specs.Node.{node_of}
use Rattle.hfs_btree.specs.Tree.{node_in}
use Rattle.hfs_space.specs.Forks.{blocks_each}
use Rattle.hfs_space.proofs.ForkLawLemmas.{range-add}
use Rattle.hfs_check.specs.Parts.{Blocks}
use Rattle.hfs_remains.specs.TreeFiles.{FileBlocks, node_at, nodes_of}
use Rattle.hfs_remains.specs.InUse.{is_in_use}
use Rattle.hfs_remains.specs.LeafRecords.{leaf_records, with_age, records_at, records_of_age, all_leaf_records}
use Rattle.hfs_remains.specs.CatalogRecords.{is_catalog_record, found_in, found_in_leaves, is_node_block, stray_records_at, all_stray_records, nodes_there, is_lacking, scattered_records}
use Rattle.hfs_remains.specs.Items.{items_of}
use Rattle.hfs_remains.specs.declared.leaf_records.LeafRecord.{LeafRecord}
use Rattle.hfs_remains.specs.declared.catalog.FoundRecord.{FoundRecord}
use Rattle.hfs_remains.specs.Laws.{items_among, others, ItemsAreFew}
use Rattle.hfs_remains.proofs.FewLemmas.{among-append, blocks-few, items-few}
use Rattle.hfs_remains.proofs.LeafLemmas.{place-of}
use Rattle.hfs_remains.proofs.NodeLemmas.{length-nodes, node_in-missing, node_of-node_at}

-- ---- sums over numbers

sum-more : (g : ℕ → ℕ) (a n : ℕ) → sum_by g (range_with_len a (suc n)) ≡ g a + sum_by g (range_with_len (a + 1) n)
sum-more g a n = sum_by-cons g a (range_with_len (a + 1) n)

-- the items of leaves number by number
gather : (f : ℕ → List LeafRecord) (a n : ℕ) → items_among (found_in_leaves (flat_map f (range_with_len a n))) ≡ sum_by (λ k. items_among (found_in_leaves (f k))) (range_with_len a n)
gather f a zero = refl
gather f a (suc n) =
    ap items_among (flat_map-append found_in (f a) (flat_map f (range_with_len (a + 1) n)))
    ∙ among-append (found_in_leaves (f a)) (found_in_leaves (flat_map f (range_with_len (a + 1) n)))
    ∙ ap (λ (s : ℕ). items_among (found_in_leaves (f a)) + s) (gather f (a + 1) n)
    ∙ sym (sum_by-cons (λ k. items_among (found_in_leaves (f k))) a (range_with_len (a + 1) n))

both-sums : (g h w : ℕ → ℕ) → ((k : ℕ) → g k + h k ≤ w k) → (a n : ℕ) → sum_by g (range_with_len a n) + sum_by h (range_with_len a n) ≤ sum_by w (range_with_len a n)
both-sums g h w each a zero = omega arith
both-sums g h w each a (suc n) = omega (arith, each a, sum-more g a n, sum-more h a n, sum-more w a n, both-sums g h w each (a + 1) n)

sum-same : (w : ℕ → ℕ) (b : Bool) (a n : ℕ) → ((k : ℕ) → k < n → w (a + k) ≡ (if b then 6 else 0)) → sum_by w (range_with_len a n) ≡ (if b then 6 * n else 0)
sum-same w true a zero each = refl
sum-same w false a zero each = refl
sum-same w true a (suc n) each =
    let first : w a ≡ 6 = ap w (omega arith) ∙ each 0 (omega arith) in
    let more : sum_by w (range_with_len (a + 1) n) ≡ 6 * n = sum-same w true (a + 1) n (λ k lt. ap w (omega arith) ∙ each (suc k) (omega (arith, lt))) in
    omega (arith, first, more, sum-more w a n)
sum-same w false a (suc n) each =
    let first : w a ≡ 0 = ap w (omega arith) ∙ each 0 (omega arith) in
    let more : sum_by w (range_with_len (a + 1) n) ≡ 0 = sum-same w false (a + 1) n (λ k lt. ap w (omega arith) ∙ each (suc k) (omega (arith, lt))) in
    omega (arith, first, more, sum-more w a n)

none-or : (b : Bool) (records : List LeafRecord) → items_among (found_in_leaves (if b then [] else records)) ≡ (if b then 0 else items_among (found_in_leaves records))
none-or true records = refl
none-or false records = refl

-- ---- the nodes of a file

-- six for a node that is there
abbrev weight : Mdb → FileBlocks → ℕ → ℕ
weight mdb file n = if is_some (slice_index_or file (n / blocks_each mdb) None) then 6 else 0

module _ (mdb : Mdb) (file : FileBlocks) where
  places-few : (m : ℕ) → m ≤ length file → sum_by (weight mdb file) (range_with_len 0 (m * blocks_each mdb)) ≡ 6 * (count_by is_some (take m file) * blocks_each mdb)
  places-few zero within =
      let none : 0 * blocks_each mdb ≡ 0 = omega arith in
      let zero-is : 0 ≡ 6 * (0 * blocks_each mdb) = omega arith in
      ap (λ (k : ℕ). sum_by (weight mdb file) (range_with_len 0 k)) none ∙ zero-is
  places-few (suc m) within =
      let each = blocks_each mdb in
      let before : m < length file = omega (arith, within) in
      let next : suc m ≡ m + 1 = omega arith in
      let longer : (m + 1) * each ≡ m * each + each = add-mul m 1 each ∙ omega arith in
      let parted : sum_by (weight mdb file) (range_with_len 0 (m * each + each)) ≡ sum_by (weight mdb file) (range_with_len 0 (m * each)) + sum_by (weight mdb file) (range_with_len (m * each) each) =
      ap (sum_by (weight mdb file)) (range-add 0 (m * each) each ∙ ap (λ (j : ℕ). range_with_len 0 (m * each) ++ range_with_len j each) (omega arith))
      ∙ sum_by-append (weight mdb file) (range_with_len 0 (m * each)) (range_with_len (m * each) each) in
      let here : (k : ℕ) → k < each → weight mdb file (m * each + k) ≡ (if is_some (slice_index_or file m None) then 6 else 0) =
      λ k lt. ap (λ (p : ℕ). if is_some (slice_index_or file p None) then 6 else 0) (place-of each m k lt) in
      ap (λ (j : ℕ). sum_by (weight mdb file) (range_with_len 0 (j * each))) next
      ∙ ap (λ (j : ℕ). sum_by (weight mdb file) (range_with_len 0 j)) longer
      ∙ parted
      ∙ by each before (is_some (slice_index_or file m None)) refl (places-few m (omega (arith, within))) (sum-same (weight mdb file) (is_some (slice_index_or file m None)) (m * each) each here)
      ∙ ap (λ (j : ℕ). 6 * (count_by is_some (take j file) * each)) (sym next)
    where
      by : (each : ℕ) → m < length file → (b : Bool) → is_some (slice_index_or file m None) ≡ b
          → sum_by (weight mdb file) (range_with_len 0 (m * each)) ≡ 6 * (count_by is_some (take m file) * each)
          → sum_by (weight mdb file) (range_with_len (m * each) each) ≡ (if b then 6 * each else 0)
          → sum_by (weight mdb file) (range_with_len 0 (m * each)) + sum_by (weight mdb file) (range_with_len (m * each) each) ≡ 6 * (count_by is_some (take (m + 1) file) * each)
      by each before true is first second =
          let more : count_by is_some (take (m + 1) file) ≡ count_by is_some (take m file) + 1 = count_by_more_yes is_some file m None before is in
          let product : count_by is_some (take (m + 1) file) * each ≡ count_by is_some (take m file) * each + each =
          ap (λ (j : ℕ). j * each) more ∙ add-mul (count_by is_some (take m file)) 1 each ∙ omega arith in
          omega (arith, first, second, product)
      by each before false is first second =
          let same : count_by is_some (take (m + 1) file) ≡ count_by is_some (take m file) = count_by_more_no is_some file m None before is in
          let product : count_by is_some (take (m + 1) file) * each ≡ count_by is_some (take m file) * each = ap (λ (j : ℕ). j * each) same in
          omega (arith, first, second, product)

  module _ (blocks : Blocks) (some : 1 ≤ blocks_each mdb) where
    abbrev of-age : Bool → ℕ → ℕ
    of-age old n = items_among (found_in_leaves (records_at (nodes_of blocks mdb file) old n))

    -- a node's records are old or aren't
    one-age : (used : Bool) (n : ℕ) → is_in_use (nodes_of blocks mdb file) n ≡ used
        → of-age false n + of-age true n ≤ (if is_some (slice_index_or file (n / blocks_each mdb) None) then 6 else 0)
    one-age used n is = by used (slice_index_or file (n / blocks_each mdb) None) refl is
      where
        decoded : node_in (nodes_of blocks mdb file) n ≡ node_of (node_at blocks mdb file n)
        decoded = sym (node_of-node_at blocks mdb file n some)

        few : (old : Bool) → items_among (found_in_leaves (with_age old (leaf_records (node_in (nodes_of blocks mdb file) n)))) ≤ 6
        few old = subst (λ r. items_among (found_in_leaves (with_age old (leaf_records r))) ≤ 6) (sym decoded) (blocks-few old (node_at blocks mdb file n))

        none : (old : Bool) → slice_index_or file (n / blocks_each mdb) None ≡ None → items_among (found_in_leaves (with_age old (leaf_records (node_in (nodes_of blocks mdb file) n)))) ≡ 0
        none old missing = ap (λ r. items_among (found_in_leaves (with_age old (leaf_records r)))) (node_in-missing blocks mdb file n some missing)

        pick : (old used : Bool) → is_in_use (nodes_of blocks mdb file) n ≡ used
            → items_among (found_in_leaves (records_at (nodes_of blocks mdb file) old n)) ≡ (if beq old used then 0 else items_among (found_in_leaves (with_age old (leaf_records (node_in (nodes_of blocks mdb file) n)))))
        pick old used is =
            ap (λ (u : Bool). items_among (found_in_leaves (if beq old u then [] else with_age old (leaf_records (node_in (nodes_of blocks mdb file) n))))) is
            ∙ none-or (beq old used) (with_age old (leaf_records (node_in (nodes_of blocks mdb file) n)))

        by : (used : Bool) (o : Option ℕ) → slice_index_or file (n / blocks_each mdb) None ≡ o → is_in_use (nodes_of blocks mdb file) n ≡ used
            → items_among (found_in_leaves (records_at (nodes_of blocks mdb file) false n)) + items_among (found_in_leaves (records_at (nodes_of blocks mdb file) true n)) ≤ (if is_some o then 6 else 0)
        by true None at is = omega (arith, pick false true is, pick true true is, none false at)
        by true (Some b) at is = omega (arith, pick false true is, pick true true is, few false)
        by false None at is = omega (arith, pick false false is, pick true false is, none true at)
        by false (Some b) at is = omega (arith, pick false false is, pick true false is, few true)

    nodes-few : items_among (found_in_leaves (all_leaf_records (nodes_of blocks mdb file))) ≤ 6 * nodes_there mdb file
    unfolding all_leaf_records records_of_age
    nodes-few =
        let count : ℕ = length (nodes_of blocks mdb file) in
        let young : List LeafRecord = flat_map (records_at (nodes_of blocks mdb file) false) (range_with_len 0 count) in
        let old : List LeafRecord = flat_map (records_at (nodes_of blocks mdb file) true) (range_with_len 0 count) in
        let parted : items_among (found_in_leaves (young ++ old)) ≡ items_among (found_in_leaves young) + items_among (found_in_leaves old) =
        ap items_among (flat_map-append found_in young old) ∙ among-append (found_in_leaves young) (found_in_leaves old) in
        let sums : sum_by (of-age false) (range_with_len 0 count) + sum_by (of-age true) (range_with_len 0 count) ≤ sum_by (weight mdb file) (range_with_len 0 count) =
        both-sums (of-age false) (of-age true) (weight mdb file) (λ n. one-age (is_in_use (nodes_of blocks mdb file) n) n refl) 0 count in
        let whole : take (length file) file ≡ file = take_all (length file) file (omega arith) in
        let all : sum_by (weight mdb file) (range_with_len 0 count) ≡ 6 * nodes_there mdb file =
        ap (λ (j : ℕ). sum_by (weight mdb file) (range_with_len 0 j)) (length-nodes blocks mdb file)
        ∙ places-few (length file) (omega arith)
        ∙ ap (λ (l : FileBlocks). 6 * (count_by is_some l * blocks_each mdb)) whole in
        omega (arith, parted, gather (records_at (nodes_of blocks mdb file) false) 0 count, gather (records_at (nodes_of blocks mdb file) true) 0 count, sums, all)

  -- ---- other blocks

  stray-few : (blocks : Blocks) (k : ℕ) → items_among (found_in_leaves (stray_records_at blocks mdb file k)) ≤ 6 * cond (not (is_node_block mdb file k)) 1 0
  stray-few blocks k = by (is_node_block mdb file k) (list_all is_catalog_record (leaf_records (node_of (blocks k))))
    where
      by : (node all : Bool) → items_among (found_in_leaves (if node then [] else if all then with_age true (leaf_records (node_of (blocks k))) else [])) ≤ 6 * cond (not node) 1 0
      by true all = omega arith
      by false true = omega (arith, blocks-few true (blocks k))
      by false false = omega arith

  strays-from : (blocks : Blocks) (a n : ℕ) → items_among (found_in_leaves (flat_map (stray_records_at blocks mdb file) (range_with_len a n))) ≤ 6 * count_by (λ k. not (is_node_block mdb file k)) (range_with_len a n)
  strays-from blocks a n = omega (arith, gather (stray_records_at blocks mdb file) a n, by a n)
    where
      by : (a n : ℕ) → sum_by (λ k. items_among (found_in_leaves (stray_records_at blocks mdb file k))) (range_with_len a n) ≤ 6 * sum_by (λ k. cond (not (is_node_block mdb file k)) 1 0) (range_with_len a n)
      by a zero = omega arith
      by a (suc n) =
          omega (arith, stray-few blocks a, by (a + 1) n, sum-more (λ k. items_among (found_in_leaves (stray_records_at blocks mdb file k))) a n, sum-more (λ k. cond (not (is_node_block mdb file k)) 1 0) a n)

  strays-few : (total : ℕ) (blocks : Blocks) → items_among (found_in_leaves (all_stray_records total blocks mdb file)) ≤ 6 * others total mdb file
  unfolding all_stray_records
  strays-few total blocks = strays-from blocks 3 (total - 3)

-- ---- all of them

abbrev own-of : Blocks → Mdb → FileBlocks → List FoundRecord
own-of blocks mdb file = found_in_leaves (all_leaf_records (nodes_of blocks mdb file))

abbrev strays-of : ℕ → Blocks → Mdb → FileBlocks → List FoundRecord
strays-of total blocks mdb file = found_in_leaves (all_stray_records total blocks mdb file)

pub scattered-few : ItemsAreFew
unfolding scattered_records
scattered-few total blocks mdb file some = by (is_lacking mdb file (own-of blocks mdb file))
  where
    by : (lacking : Bool) → length (items_of (if lacking then own-of blocks mdb file ++ strays-of total blocks mdb file else own-of blocks mdb file)) ≤ 6 * (nodes_there mdb file + others total mdb file)
    by true = omega (
      arith,
      items-few (own-of blocks mdb file ++ strays-of total blocks mdb file),
      among-append (own-of blocks mdb file) (strays-of total blocks mdb file),
      nodes-few mdb file blocks some,
      strays-few mdb file total blocks,
    )
    by false = omega (arith, items-few (own-of blocks mdb file), nodes-few mdb file blocks some)
