-- How many items remain in blocks of bytes.
use Rattle.std.proofs.Common.{◌≡◌, ℕ, zero, suc, ◌+◌, ◌-◌, ◌*◌, ◌^◌, ◌<◌, ◌≤◌, Bool, true, false, cond, ◌&&◌, ◌==◌, not, if◌then◌else◌, List, [], ◌∷◌, take, length, length-append, Option, Some, None, slice_index_or, refl, ap, ◌∙◌, arith, inl, inr}
use Rattle.std.specs.Prelude.{count_by, find, nat_le, nat_lt}
use Rattle.std.specs.List.{range_with_len}
use Rattle.std.specs.Option.{is_none, is_some, option_or}
use Rattle.std.proofs.Math.Nat.{mul-le-mul_right}
use Rattle.std.proofs.lemmas.Bool.{and_parts, cases_eq, eq-eqb, leb-true, ltb-true}
use Rattle.std.proofs.lemmas.List.FromFn.{length-range_with_len}
use Rattle.std.proofs.lemmas.List.Sums.{count_by-le-length, sum_by-cons}
use Rattle.hfs_fields.specs.declared.mdb.Mdb.{Mdb}
use Rattle.hfs_fields.specs.declared.extent.Extent.{Extent}
use Rattle.hfs_fields.proofs.CommonLemmas.{none-true}
use Rattle.hfs_fields.specs.Each.{Each}
use Rattle.hfs_fields.proofs.MemberLemmas.{found_in}
use Rattle.hfs_blocks.specs.Blocks.{block_at, block_count, few-block_count}
use Rattle.hfs_btree.specs.Header.{header_of, record_in}
use Rattle.hfs_btree.specs.Sound.{HasCounts}
use Rattle.hfs_btree.specs.Tree.{Store, records_in}
use Rattle.hfs_catalog.specs.Records.{Catalog}
use Rattle.hfs_catalog.specs.Tree.{cat_keys, catalog_of}
use Rattle.hfs_space.specs.Extents.{extent_blocks}
use Rattle.hfs_space.specs.Forks.{blocks_each}
use Rattle.hfs_space.specs.TreeFiles.{node_count}
use Rattle.hfs_check.specs.Faults.{is_block_size, length_fault}
use Rattle.hfs_check.specs.Parts.{Blocks}
use Rattle.hfs_check.proofs.LawsProved.{no_catalog_fault, no_length_fault}
use Rattle.hfs_remains.specs.Allocation.{is_there, start_of}
use Rattle.hfs_remains.specs.Directory.{all_places, directory_in, directory_of, has_beginning, mdb_at, serves, usual_places, will_do}
use Rattle.hfs_remains.specs.declared.directory.Beginning.{Beginning}
use Rattle.hfs_remains.specs.declared.directory.Beginning.TheVariants.{Both, Catalog as CatalogAlone, Neither}
use Rattle.hfs_remains.specs.TreeFiles.{FileBlocks, file_blocks, first_there}
use Rattle.hfs_remains.specs.CatalogRecords.{catalog_nodes, catalog_records, found, found_in_tree, found_of, is_catalog_body, is_catalog_tree_right, is_node_block, scattered_records}
use Rattle.hfs_remains.specs.Remains.{catalog_file_extents}
use Rattle.hfs_remains.specs.Items.{is_named_item, items_of}
use Rattle.hfs_remains.specs.Laws.{AreBytes, DirectoriesAreRead, IsReadDirectory, ItemsAreCounted, others}
use Rattle.hfs_remains.proofs.ByteLemmas.{block-bytes, no-bytes, number-small, take-bytes}
use Rattle.hfs_remains.proofs.FewLemmas.{items-few}
use Rattle.hfs_remains.proofs.ReadLemmas.{nodes-bytes, store-bytes}
use Rattle.hfs_remains.proofs.RightLemmas.{catalog-shaped}
use Rattle.hfs_remains.proofs.SumLemmas.{scattered-few}

-- ---- numbers that pass a test

abbrev pub one : Bool → ℕ
one b = cond b 1 0

pub count-cons : (p : ℕ → Bool) (a n : ℕ) → count_by p (range_with_len a (suc n)) ≡ one (p a) + count_by p (range_with_len (a + 1) n)
count-cons p a n = sum_by-cons (λ k. one (p k)) a (range_with_len (a + 1) n)

abbrev pub without : (ℕ → Bool) → ℕ → ℕ → Bool
without p b k = p k && not (k == b)

fewer-one : (x y : Bool) → one (x && y) ≤ one x
fewer-one true true = omega arith
fewer-one true false = omega arith
fewer-one false y = omega arith

fewer : (p : ℕ → Bool) (b a n : ℕ) → count_by (without p b) (range_with_len a n) ≤ count_by p (range_with_len a n)
fewer p b a zero = omega arith
fewer p b a (suc n) = omega (arith, count-cons (without p b) a n, count-cons p a n, fewer-one (p a) (not (a == b)), fewer p b (a + 1) n)

-- with one of them left out, there is one fewer
pub less-one : (p : ℕ → Bool) (b a n : ℕ) → a ≤ b → b < a + n → p b ≡ true → count_by (without p b) (range_with_len a n) + 1 ≤ count_by p (range_with_len a n)
less-one p b a zero from below is = absurd (omega (arith, from, below))
less-one p b a (suc n) from below is =
    elim (cases_eq a b) [
      | inl same ↦
          let here : one (p a) ≡ 1 = ap one (ap p same ∙ is) in
          let gone : one (without p b a) ≡ 0 = ap one ((λ t. (ap p same ∙ is) t && not (eq-eqb a b same t))) in
          omega (arith, count-cons (without p b) a n, count-cons p a n, here, gone, fewer p b (a + 1) n)
      | inr other ↦
          let later : a + 1 ≤ b = omega (arith, from, λ (same : a ≡ b). other same) in
          let inside : b < a + 1 + n = omega (arith, below) in
          omega (arith, count-cons (without p b) a n, count-cons p a n, fewer-one (p a) (not (a == b)), less-one p b (a + 1) n later inside is)
    ]

-- ---- the blocks of a file that are there are different ones

some-cons : (o : Option ℕ) (file : FileBlocks) → count_by is_some (o ∷ file) ≡ one (is_some o) + count_by is_some file
some-cons o file = sum_by-cons (λ (x : Option ℕ). one (is_some x)) o file

there-few : (n : ℕ) (there : ℕ → Bool) (bs : List ℕ) → ((k : ℕ) → there k ≡ true → k < n) → count_by is_some (first_there there bs) ≤ count_by there (range_with_len 0 n)
there-few n there [] inside = omega arith
there-few n there (b ∷ bs) inside =
    by (there b) refl (there-few n (without there b) bs (λ k so. inside k (and_parts (there k) (not (k == b)) so).0)) (there-few n there bs inside)
  where
    by : (t : Bool) → there b ≡ t → count_by is_some (first_there (without there b) bs) ≤ count_by (without there b) (range_with_len 0 n)
        → count_by is_some (first_there there bs) ≤ count_by there (range_with_len 0 n)
        → count_by is_some (if t then Some b ∷ first_there (λ k. there k && not (k == b)) bs else None ∷ first_there there bs) ≤ count_by there (range_with_len 0 n)
    by true is left all = omega (arith, some-cons (Some b) (first_there (without there b) bs), left, less-one there b 0 n (omega arith) (omega (arith, inside b is)) is)
    by false is left all = omega (arith, some-cons None (first_there there bs), all)

file-few : (total : ℕ) (mdb : Mdb) (extents : List Extent) → count_by is_some (file_blocks total mdb extents) ≤ mdb.allocation_blocks
unfolding file_blocks is_there
file-few total mdb extents =
    omega (
      arith,
      there-few mdb.allocation_blocks (is_there total mdb) (extent_blocks extents) (λ k so. ltb-true k mdb.allocation_blocks (and_parts (nat_lt k mdb.allocation_blocks) (nat_le (start_of mdb (k + 1)) total) so).0),
      count_by-le-length (is_there total mdb) (range_with_len 0 mdb.allocation_blocks),
      length-range_with_len 0 mdb.allocation_blocks,
    )

-- ---- the items

others-few : (total : ℕ) (mdb : Mdb) (file : FileBlocks) → others total mdb file ≤ total
others-few total mdb file =
    omega (arith, count_by-le-length (λ k. not (is_node_block mdb file k)) (range_with_len 3 (total - 3)), length-range_with_len 3 (total - 3))

scattered-counted : (total : ℕ) (blocks : Blocks) (mdb : Mdb) (extents : List Extent) → total < 2 ^ 32 → IsReadDirectory mdb
    → length (items_of (scattered_records total blocks mdb (file_blocks total mdb extents))) < 2 ^ 48
scattered-counted total blocks mdb extents most is =
    let file : FileBlocks = file_blocks total mdb extents in
    let product : count_by is_some file * blocks_each mdb ≤ 65536 * blocks_each mdb = mul-le-mul_right (blocks_each mdb) (omega (arith, file-few total mdb extents, is.few)) in
    omega (arith, most, is.size, product, others-few total mdb file, scattered-few total blocks mdb file is.some)

found-few : (records : Catalog) → length (found_of records) ≤ length records
found-few [] = omega arith
found-few (r ∷ records) = omega (arith, length-append (found_in_tree r) (found_of records), found-few records, by (is_catalog_body r.1))
  where
    by : (b : Bool) → length (if b then found false r ∷ [] else []) ≤ 1
    by true = omega arith
    by false = omega arith

bytes-at : (records : List (List ℕ)) (i : ℕ) → Each AreBytes records → AreBytes (slice_index_or records i [])
bytes-at [] i all = no-bytes
bytes-at (r ∷ records) zero all = all.0
bytes-at (r ∷ records) (suc i) all = bytes-at records i all.1

-- the header of a tree counts its records
tree-counted : (nodes : Store) → AreBytes (record_in nodes 0 0) → HasCounts cat_keys nodes → length (catalog_of nodes) < 2 ^ 32
unfolding header_of
tree-counted nodes are counts = omega (arith, counts.records, number-small 6 4 (record_in nodes 0 0) are)

records-counted : (total : ℕ) (blocks : Blocks) (mdb : Mdb) (extents : List Extent) → ((n : ℕ) → AreBytes (blocks n)) → total < 2 ^ 32 → IsReadDirectory mdb
    → length (items_of (catalog_records total blocks mdb extents (file_blocks total mdb extents))) < 2 ^ 48
unfolding catalog_records
records-counted total blocks mdb extents are most is = by (is_catalog_tree_right mdb extents (catalog_nodes blocks mdb (file_blocks total mdb extents))) refl
  where
    by : (b : Bool) → is_catalog_tree_right mdb extents (catalog_nodes blocks mdb (file_blocks total mdb extents)) ≡ b
        → length (items_of (if b then found_of (catalog_of (catalog_nodes blocks mdb (file_blocks total mdb extents))) else scattered_records total blocks mdb (file_blocks total mdb extents))) < 2 ^ 48
    by true right =
        let file : FileBlocks = file_blocks total mdb extents in
        let nodes : Store = catalog_nodes blocks mdb file in
        let shaped = catalog-shaped mdb nodes extents no_catalog_fault right in
        omega (
          arith,
          items-few (found_of (catalog_of nodes)),
          count_by-le-length is_named_item (found_of (catalog_of nodes)),
          found-few (catalog_of nodes),
          tree-counted nodes (bytes-at (records_in nodes 0) 0 (store-bytes blocks are nodes 0 (nodes-bytes blocks are mdb file (node_count mdb.catalog_file_size)))) shaped.counts,
        )
    by false wrong = scattered-counted total blocks mdb extents most is

pub items-counted : ItemsAreCounted
items-counted total blocks mdb are most is = records-counted total blocks mdb (catalog_file_extents total blocks mdb) are most is

-- ---- directories

either : (one other : Option ℕ) (n : ℕ) (P : ℕ → Type 0) → (one ≡ Some n → P n) → (other ≡ Some n → P n) → option_or one other ≡ Some n → P n
either None other n P first second is = second is
either (Some m) other n P first second is = first is

does : (total : ℕ) (blocks : Blocks) (beginning : Beginning) (places : List ℕ) (n : ℕ) → find (serves total blocks beginning) places ≡ Some n → will_do (mdb_at blocks n) ≡ true
unfolding serves
does total blocks beginning places n is =
    (and_parts (will_do (mdb_at blocks n)) (has_beginning total blocks (mdb_at blocks n) beginning) (found_in (serves total blocks beginning) places n is).1).0

found-does : (total : ℕ) (blocks : Blocks) (n : ℕ) → directory_in total blocks ≡ Some n → will_do (mdb_at blocks n) ≡ true
unfolding directory_in
found-does total blocks n =
    either (find (serves total blocks Both) (usual_places total)) _ n (λ m. will_do (mdb_at blocks m) ≡ true) (does total blocks Both (usual_places total) n)
    (either (find (serves total blocks CatalogAlone) (all_places total)) _ n (λ m. will_do (mdb_at blocks m) ≡ true)
    (does total blocks CatalogAlone (all_places total) n) (does total blocks Neither (all_places total) n))

some-each : (mdb : Mdb) → will_do mdb ≡ true → 1 ≤ blocks_each mdb
some-each mdb does =
    let size = (and_parts _ (is_block_size mdb) does).1 in
    let least : 512 ≤ mdb.allocation_block_size = leb-true 512 mdb.allocation_block_size (and_parts (nat_le 512 mdb.allocation_block_size) _ size).0 in
    omega (arith, least)

pub directories-read : DirectoriesAreRead
unfolding directory_of
directories-read image n are is = by (is_none (length_fault (length image))) refl is
  where
    block : AreBytes (take 162 (block_at image n))
    block = take-bytes 162 (block_at image n) (block-bytes image are n)

    by : (b : Bool) → is_none (length_fault (length image)) ≡ b → (if b then directory_in (block_count image) (block_at image) else None) ≡ Some n
        → IsReadDirectory (mdb_at (block_at image) n) × (block_count image < 2 ^ 32)
    by true right there = (
      record {
        few = omega (arith, number-small 18 2 (take 162 (block_at image n)) block);
        size = omega (arith, number-small 20 4 (take 162 (block_at image n)) block);
        some = some-each (mdb_at (block_at image) n) (found-does (block_count image) (block_at image) n there);
      },
      few-block_count image (omega (arith, ((no_length_fault (length image)).0 (none-true _ right)).most)),
    )
    by false wrong there = cc
