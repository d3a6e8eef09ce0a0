-- Lists of bytes, and what is read of them.
use Rattle.std.proofs.Common.{◌≡◌, ℕ, zero, suc, ◌+◌, ◌-◌, ◌*◌, ◌^◌, ◌<◌, ◌≤◌, Bool, true, false, if◌then◌else◌, List, [], ◌∷◌, drop, take, length, length-take, replicate, refl, sym, subst, arith}
use Rattle.std.specs.Prelude.{nat_le, nat_lt, Result, Ok, Err}
use Rattle.std.specs.List.{list_all, range_with_len}
use Rattle.std.proofs.lemmas.Bool.{and_from, and_parts, leb-true, lt-ltb, ltb-true}
use Rattle.std.proofs.lemmas.List.{get_or-drop}
use Rattle.byteorder.specs.Numbers.{big_from-lt}
use Rattle.hfs_fields.specs.Keys.{cat_key_of, cat_body_start, is_cat_key, is_cat_leaf, key_len, name_at, name_len}
use Rattle.hfs_fields.specs.Numbers.{number_at}
use Rattle.hfs_fields.specs.Each.{Each}
use Rattle.hfs_fields.proofs.ElementLemmas.{each-map}
use Rattle.hfs_blocks.specs.Blocks.{block_at}
use Rattle.hfs_btree.specs.declared.fault.NodeFault.{NodeFault}
use Rattle.hfs_btree.specs.declared.kind.NodeKind.{NodeKind}
use Rattle.hfs_btree.specs.declared.node.Node.{Node}
use Rattle.hfs_btree.specs.Node.{count_of, node_of, node_with, offset_of, record_of}
use Rattle.hfs_btree.proofs.DecodingLemmas.{node_of-is}
use Rattle.hfs_btree.specs.Tree.{pair_of, records_of}
use Rattle.hfs_catalog.specs.Tree.{cat_keys}
use Rattle.hfs_remains.specs.CatalogRecords.{found}
use Rattle.hfs_remains.specs.LeafRecords.{is_leaf, leaf_records}
use Rattle.hfs_remains.specs.Laws.{AreBytes, IsReadRecord}

-- what holds of anything holds of each element
pub each-any : {X : Type 0} (P : X → Type 0) (xs : List X) → ((x : X) → P x) → Each P xs
each-any P [] all = tt
each-any P (x ∷ xs) all = (all x, each-any P xs all)

-- ---- parts of bytes

pub no-bytes : AreBytes []
no-bytes k = omega arith

pub cons-bytes : (x : ℕ) (xs : List ℕ) → x < 256 → AreBytes xs → AreBytes (x ∷ xs)
cons-bytes x xs first are zero = first
cons-bytes x xs first are (suc k) = are k

-- bytes, one by one, pass a test of each, and the other way round
pub bytes-pass : (xs : List ℕ) → AreBytes xs → list_all (λ x. nat_lt x 256) xs ≡ true
bytes-pass [] are = refl
bytes-pass (x ∷ xs) are = and_from (nat_lt x 256) (list_all (λ x. nat_lt x 256) xs) (lt-ltb x 256 (are 0)) (bytes-pass xs (λ k. are (suc k)))

pub pass-bytes : (xs : List ℕ) → list_all (λ x. nat_lt x 256) xs ≡ true → AreBytes xs
pass-bytes [] is = no-bytes
pass-bytes (x ∷ xs) is =
    let parts = and_parts (nat_lt x 256) (list_all (λ x. nat_lt x 256) xs) is in
    cons-bytes x xs (ltb-true x 256 parts.0) (pass-bytes xs parts.1)

pub take-bytes : (n : ℕ) (xs : List ℕ) → AreBytes xs → AreBytes (take n xs)
take-bytes zero xs are = no-bytes
take-bytes (suc n) [] are = no-bytes
take-bytes (suc n) (x ∷ xs) are = cons-bytes x (take n xs) (are 0) (take-bytes n xs (λ j. are (suc j)))

pub drop-bytes : (n : ℕ) (xs : List ℕ) → AreBytes xs → AreBytes (drop n xs)
drop-bytes n xs are k = subst (λ (x : ℕ). x < 256) (sym (get_or-drop n xs k 0)) (are (n + k))

pub zero-bytes : (n : ℕ) → AreBytes (replicate n 0)
zero-bytes zero = no-bytes
zero-bytes (suc n) = cons-bytes 0 (replicate n 0) (omega arith) (zero-bytes n)

pub range-bytes : (a b : ℕ) (xs : List ℕ) → AreBytes xs → AreBytes (take (b - a) (drop a xs))
range-bytes a b xs are = take-bytes (b - a) (drop a xs) (drop-bytes a xs are)

pub block-bytes : (image : List ℕ) → AreBytes image → (n : ℕ) → AreBytes (block_at image n)
block-bytes image are n = take-bytes 512 (drop (512 * n) image) (drop-bytes (512 * n) image are)

-- ---- numbers and names

pub number-small : (i n : ℕ) (xs : List ℕ) → AreBytes xs → number_at i n xs < 256 ^ n
unfolding number_at
number-small i n xs are = big_from-lt 0 n (drop i xs) (drop-bytes i xs are)

pub name-bytes : (i : ℕ) (xs : List ℕ) → AreBytes xs → AreBytes (name_at i xs)
name-bytes i xs are = take-bytes (name_len i xs) (drop (i + 1) xs) (drop-bytes (i + 1) xs are)

pub name-short : (i : ℕ) (xs : List ℕ) → name_len i xs ≤ 31 → length (name_at i xs) ≤ 31
name-short i xs few = omega (arith, few, length-take (name_len i xs) (drop (i + 1) xs))

key-short : (bytes : List ℕ) → is_cat_leaf bytes ≡ true → name_len 6 bytes ≤ 31
unfolding is_cat_leaf is_cat_key
key-short bytes leaf =
    let key = (and_parts _ _ (and_parts _ _ leaf).0).0 in
    let parts = and_parts _ (nat_le (key_len bytes + 1) (length bytes)) key in
    let more = and_parts _ (nat_le (key_len bytes) 37) parts.0 in
    let room = and_parts _ (nat_le (6 + name_len 6 bytes) (key_len bytes)) more.0 in
    leb-true (name_len 6 bytes) 31 (and_parts _ (nat_le (name_len 6 bytes) 31) room.0).1

-- a record of a leaf
pub record-read : (old : Bool) (bytes : List ℕ) → AreBytes bytes → is_cat_leaf bytes ≡ true → IsReadRecord (found old (pair_of cat_keys bytes))
unfolding cat_key_of
record-read old bytes are leaf =
    record {
      name = name-bytes 6 bytes are;
      short = name-short 6 bytes (key-short bytes leaf);
      parent = omega (arith, number-small 2 4 bytes are);
      body = drop-bytes (cat_body_start bytes) bytes are;
    }

-- ---- the records of a node

with-bytes : (kind : NodeKind) (bytes : List ℕ) → AreBytes bytes → Each AreBytes (node_with kind bytes).records
unfolding node_with record_of
with-bytes kind bytes are =
    each-map AreBytes (record_of bytes) (range_with_len 0 (count_of bytes))
    (each-any (λ (i : ℕ). AreBytes (record_of bytes i)) (range_with_len 0 (count_of bytes)) (λ i. range-bytes (offset_of bytes i) (offset_of bytes (i + 1)) bytes are))

pub node-bytes : (bytes : List ℕ) (node : Result Node NodeFault) → AreBytes bytes → node_of bytes ≡ node → Each AreBytes (records_of node)
node-bytes bytes (Err fault) are is = tt
node-bytes bytes (Ok node) are is = subst (λ (n : Node). Each AreBytes n.records) (sym (node_of-is bytes node is).1) (with-bytes node.kind bytes are)

pub leaf-bytes : (bytes : List ℕ) (node : Result Node NodeFault) → AreBytes bytes → node_of bytes ≡ node → Each AreBytes (leaf_records node)
leaf-bytes bytes (Err fault) are is = tt
leaf-bytes bytes (Ok node) are is = by (is_leaf node) (node-bytes bytes (Ok node) are is)
  where
    by : (b : Bool) → Each AreBytes node.records → Each AreBytes (if b then node.records else [])
    by true all = all
    by false all = tt
