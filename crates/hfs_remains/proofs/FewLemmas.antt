-- How many items there are for a block.
use Rattle.std.proofs.Common.{◌≡◌, ℕ, ◌+◌, ◌*◌, ◌≤◌, Bool, true, false, cond, ◌&&◌, ◌==◌, if◌then◌else◌, List, [], ◌∷◌, ◌++◌, length, refl, arith, inl, inr}
use Rattle.std.specs.Prelude.{nat_le, Result, Ok, Err}
use Rattle.std.proofs.lemmas.Bool.{and_parts, or_cases, eqb-true, leb-true}
use Rattle.std.proofs.lemmas.List.{length-drop, length_push}
use Rattle.std.proofs.lemmas.List.Sums.{sum_by-append, sum_by-cons}
use Rattle.hfs_fields.specs.Keys.{is_cat_key, is_cat_leaf, cat_body_start, cat_body_of, key_len, name_len}
use Rattle.hfs_fields.specs.Records.{is_item, is_dir, is_file}
use Rattle.hfs_btree.specs.declared.fault.NodeFault.{NodeFault}
use Rattle.hfs_btree.specs.declared.node.Node.{Node}
use Rattle.hfs_btree.specs.Node.{node_of, size_of}
use Rattle.hfs_btree.proofs.DecodingLemmas.{node_of-fits}
use Rattle.hfs_btree.specs.Tree.{pair_of}
use Rattle.hfs_catalog.specs.Tree.{cat_keys}
use Rattle.hfs_remains.specs.LeafRecords.{is_leaf, leaf_records, with_age}
use Rattle.hfs_remains.specs.CatalogRecords.{is_catalog_record, is_catalog_body, found, found_in, found_in_leaves}
use Rattle.hfs_remains.specs.Items.{is_named_item, is_next_item, with_next, items_behind, items_of}
use Rattle.hfs_remains.specs.declared.leaf_records.LeafRecord.{LeafRecord}
use Rattle.hfs_remains.specs.declared.catalog.FoundRecord.{FoundRecord}
use Rattle.hfs_remains.specs.Laws.{items_among, BlocksHaveFewItems}

pub among-append : (first second : List FoundRecord) → items_among (first ++ second) ≡ items_among first + items_among second
among-append first second = sum_by-append (λ r. cond (is_named_item r) 1 0) first second

pub among-cons : (r : FoundRecord) (records : List FoundRecord) → items_among (r ∷ records) ≡ cond (is_named_item r) 1 0 + items_among records
among-cons r records = sum_by-cons (λ r. cond (is_named_item r) 1 0) r records

-- ---- one record

one-found : (r : FoundRecord) (n : ℕ) → 80 * cond (is_named_item r) 1 0 ≤ n → 80 * items_among (r ∷ []) ≤ n
one-found r n few = let one : items_among (r ∷ []) ≡ cond (is_named_item r) 1 0 + 0 = among-cons r [] in omega (arith, one, few)

-- an item's record has 78 bytes at least
dir-long : (bytes : List ℕ) → is_item (cat_body_of bytes) ≡ true → 70 ≤ length (cat_body_of bytes)
dir-long bytes is =
    elim (or_cases (is_dir (cat_body_of bytes)) (is_file (cat_body_of bytes)) is) [
      | inl dir ↦ let len : length (cat_body_of bytes) ≡ 70 = eqb-true (length (cat_body_of bytes)) 70 (and_parts _ (length (cat_body_of bytes) == 70) dir).1 in omega (arith, len)
      | inr file ↦ let len : length (cat_body_of bytes) ≡ 102 = eqb-true (length (cat_body_of bytes)) 102 (and_parts _ (length (cat_body_of bytes) == 102) file).1 in omega (arith, len)
    ]

start-late : (bytes : List ℕ) → is_cat_leaf bytes ≡ true → 8 ≤ cat_body_start bytes
unfolding is_cat_leaf is_cat_key cat_body_start
start-late bytes leaf =
    let key = (and_parts _ _ (and_parts _ _ leaf).0).0 in
    let parts = and_parts _ (nat_le (key_len bytes + 1) (length bytes)) key in
    let more = and_parts _ (nat_le (key_len bytes) 37) parts.0 in
    let room = and_parts _ (nat_le (6 + name_len 6 bytes) (key_len bytes)) more.0 in
    let least : 6 + name_len 6 bytes ≤ key_len bytes = leb-true (6 + name_len 6 bytes) (key_len bytes) room.1 in
    omega (arith, least)

start-inside : (bytes : List ℕ) → is_cat_leaf bytes ≡ true → cat_body_start bytes ≤ length bytes
unfolding is_cat_leaf
start-inside bytes leaf = leb-true (cat_body_start bytes) (length bytes) (and_parts _ (nat_le (cat_body_start bytes) (length bytes)) (and_parts _ _ leaf).0).1

item-long : (bytes : List ℕ) → is_cat_leaf bytes ≡ true → is_item (cat_body_of bytes) ≡ true → 78 ≤ length bytes
item-long bytes leaf is =
    omega (arith, start-late bytes leaf, start-inside bytes leaf, dir-long bytes is, length-drop (cat_body_start bytes) bytes)

one-few : (r : LeafRecord) → 80 * items_among (found_in r) ≤ length r.bytes + 2
one-few r = by (is_catalog_record r.bytes) refl
  where
    item : (b : Bool) → is_catalog_record r.bytes ≡ true → is_named_item (found r.old (pair_of cat_keys r.bytes)) ≡ b → 80 * cond b 1 0 ≤ length r.bytes + 2
    item true right named =
        let leaf = (and_parts (is_cat_leaf r.bytes) (is_catalog_body (cat_body_of r.bytes)) right).0 in
        let is = (and_parts (is_item (cat_body_of r.bytes)) _ named).0 in
        omega (arith, item-long r.bytes leaf is)
    item false right named = omega arith

    by : (b : Bool) → is_catalog_record r.bytes ≡ b → 80 * items_among (if b then found r.old (pair_of cat_keys r.bytes) ∷ [] else []) ≤ length r.bytes + 2
    by true right = one-found (found r.old (pair_of cat_keys r.bytes)) (length r.bytes + 2) (item (is_named_item (found r.old (pair_of cat_keys r.bytes))) right refl)
    by false right = omega arith

-- ---- the records of a leaf

records-few : (old : Bool) (records : List (List ℕ)) → 80 * items_among (found_in_leaves (with_age old records)) ≤ size_of records
unfolding size_of
records-few old [] = omega arith
records-few old (bytes ∷ records) =
    let first : LeafRecord = record { old = old; bytes = bytes } in
    let both : items_among (found_in_leaves (with_age old (bytes ∷ records))) ≡ items_among (found_in first) + items_among (found_in_leaves (with_age old records)) =
    among-append (found_in first) (found_in_leaves (with_age old records)) in
    let size : size_of (bytes ∷ records) ≡ length bytes + 2 + size_of records = sum_by-cons (λ (r : List ℕ). length r + 2) bytes records in
    omega (arith, both, size, one-few first, records-few old records)

leaf-few : (old : Bool) (bytes : List ℕ) (node : Result Node NodeFault) → node_of bytes ≡ node → items_among (found_in_leaves (with_age old (leaf_records node))) ≤ 6
leaf-few old bytes (Err fault) is = omega arith
leaf-few old bytes (Ok node) is = by (is_leaf node)
  where
    by : (b : Bool) → items_among (found_in_leaves (with_age old (if b then node.records else []))) ≤ 6
    by true = let fits : size_of node.records ≤ 496 = node_of-fits bytes node is in omega (arith, fits, records-few old node.records)
    by false = omega arith

pub blocks-few : BlocksHaveFewItems
blocks-few old bytes = leaf-few old bytes (node_of bytes) refl

-- ---- items among records

next-few : (items : List FoundRecord) (r : FoundRecord) → length (with_next items r) ≤ length items + cond (is_named_item r) 1 0
unfolding is_next_item
next-few items r = by (is_named_item r) _
  where
    by : (a b : Bool) → length (if a && b then items ++ r ∷ [] else items) ≤ length items + cond a 1 0
    by true true = omega (arith, length_push items r)
    by true false = omega arith
    by false b = omega arith

behind-few : (items records : List FoundRecord) → length (items_behind items records) ≤ length items + items_among records
behind-few items [] = omega arith
behind-few items (r ∷ rs) =
    let rest : length (items_behind items (r ∷ rs)) ≤ length (with_next items r) + items_among rs = behind-few (with_next items r) rs in
    omega (arith, rest, next-few items r, among-cons r rs)

pub items-few : (records : List FoundRecord) → length (items_of records) ≤ items_among records
items-few records = let all : length (items_of records) ≤ 0 + items_among records = behind-few [] records in omega (arith, all)
