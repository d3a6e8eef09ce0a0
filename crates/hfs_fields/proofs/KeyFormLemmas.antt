-- Lemmas about the definitions of specs/KeyForms.antt.
use Rattle.std.proofs.Common.{◌≡◌, ℕ, ◌+◌, ◌-◌, ◌*◌, ◌/◌, ◌%◌, ◌^◌, ◌<◌, ◌≤◌, Bool, true, ◌&&◌, List, [], ◌∷◌, ◌++◌, length, take, replicate, refl, sym, ap, ◌∙◌, arith}
use Rattle.std.specs.Prelude.{◌==◌, slice_index}
use Rattle.std.proofs.lemmas.List.{append_assoc, append-nil, take_at, drop_at, length-append, length-replicate}
use Rattle.std.proofs.lemmas.Bool.{le-leb, eq-eqb}
use Rattle.byteorder.specs.Endian.{big_bytes, big_number}
use Rattle.byteorder.specs.Numbers.{big_number-reads_back}
use Rattle.hfs_fields.specs.Numbers.{number_at}
use Rattle.hfs_fields.specs.Keys.{is_cat_key, cat_key_of, cat_body_start, cat_body_of, is_cat_body_len, is_cat_leaf, is_cat_index, cat_child_of, is_ext_key, ext_key_of, is_ext_leaf, is_ext_index, ext_child_of}
use Rattle.hfs_fields.proofs.KeyLemmas.{ext_body_of}
use Rattle.hfs_fields.specs.declared.key.CatKey.{CatKey}
use Rattle.hfs_fields.specs.declared.key.ExtKey.{ExtKey}
use Rattle.hfs_fields.specs.KeyForms.{IsCatKeyValue, cat_leaf_bytes, cat_index_bytes, cat_index_record, length-cat_leaf_bytes, IsExtKeyValue, ext_key_bytes, ext_index_record, length-ext_key_bytes}

rebuilt : (key : CatKey) (parent : ℕ) (name : List ℕ) → parent ≡ key.parent → name ≡ key.name → record key { parent = parent; name = name } ≡ key
rebuilt key parent name e f = λ i. record { parent = e i; name = f i }

parent-read : (a b x : ℕ) (rest : List ℕ) → x < 2 ^ 32 → number_at 2 4 (a ∷ b ∷ [] ++ big_bytes 4 x ++ rest) ≡ x
unfolding number_at
parent-read a b x rest small = big_number-reads_back 4 x rest (omega (arith, small))

name-read : (name filler rest : List ℕ) → take (length name) ((name ++ filler) ++ rest) ≡ name
name-read name filler rest = ap (take (length name)) (append_assoc name filler rest) ∙ take_at name (filler ++ rest) (length name) refl

-- the bytes of a leaf's record begin with a key, and the key is the one that was written
all-true : (a b c d e : Bool) → a ≡ true → b ≡ true → c ≡ true → d ≡ true → e ≡ true → (a && b && c && d && e) ≡ true
all-true a b c d e p q r s t = λ i. p i && q i && r i && s i && t i

leaf-tests : (key : CatKey) (rest : List ℕ) → length key.name ≤ 31 → 7 ≤ length (cat_leaf_bytes key ++ rest) → 6 + length key.name + 1 ≤ length (cat_leaf_bytes key ++ rest)
    → is_cat_key (cat_leaf_bytes key ++ rest) ≡ true
unfolding is_cat_key cat_leaf_bytes
leaf-tests key rest short head all =
    all-true _ _ _ _ _ (le-leb 7 _ head) (le-leb (length key.name) 31 short) (le-leb (6 + length key.name) (6 + length key.name) (omega arith))
    (le-leb (6 + length key.name) 37 (omega (arith, short))) (le-leb (6 + length key.name + 1) _ all)

pub is_cat_key-leaf : (key : CatKey) (rest : List ℕ) → IsCatKeyValue key → is_cat_key (cat_leaf_bytes key ++ rest) ≡ true
is_cat_key-leaf key rest ok =
    let len = length-append (cat_leaf_bytes key) rest in
    let own = length-cat_leaf_bytes key in
    let short = ok.name in
    leaf-tests key rest short (omega (arith, len, own)) (omega (arith, len, own, short))

pub cat_key_of-leaf : (key : CatKey) (rest : List ℕ) → IsCatKeyValue key → cat_key_of (cat_leaf_bytes key ++ rest) ≡ key
unfolding cat_key_of cat_leaf_bytes
cat_key_of-leaf key rest ok =
    let filler = replicate {A = ℕ} (1 - length key.name % 2) 0 in
    rebuilt key _ _ (parent-read _ 0 key.parent (length key.name ∷ ((key.name ++ filler) ++ rest)) ok.parent) (name-read key.name filler rest)

even-place : (key : CatKey) (rest : List ℕ) → cat_body_start (cat_leaf_bytes key ++ rest) ≡ (length key.name + 8) / 2 * 2
unfolding cat_body_start cat_leaf_bytes
even-place key rest = omega arith

-- the body begins behind the key and its filler
pub cat_body_start-leaf : (key : CatKey) (rest : List ℕ) → cat_body_start (cat_leaf_bytes key ++ rest) ≡ length (cat_leaf_bytes key)
cat_body_start-leaf key rest = even-place key rest ∙ sym (length-cat_leaf_bytes key)

pub cat_body_of-leaf : (key : CatKey) (body : List ℕ) → cat_body_of (cat_leaf_bytes key ++ body) ≡ body
cat_body_of-leaf key body = drop_at (cat_leaf_bytes key) body _ (sym (cat_body_start-leaf key body))

-- a key in leaf form and a body of one of the three lengths are a record of a leaf
pub is_cat_leaf-leaf : (key : CatKey) (body : List ℕ) → IsCatKeyValue key → is_cat_leaf (cat_leaf_bytes key ++ body) ≡ is_cat_body_len (length body)
unfolding is_cat_leaf
is_cat_leaf-leaf key body ok =
    let len = length-append (cat_leaf_bytes key) body in
    let start = cat_body_start-leaf key body in
    let fits = le-leb (cat_body_start (cat_leaf_bytes key ++ body)) (length (cat_leaf_bytes key ++ body)) (omega (arith, len, start)) in
    λ i. is_cat_key-leaf key body ok i && fits i && is_cat_body_len (length (cat_body_of-leaf key body i))

pub length-cat_index_bytes : (key : CatKey) → length key.name ≤ 31 → length (cat_index_bytes key) ≡ 38
unfolding cat_index_bytes
length-cat_index_bytes key short =
    let filler = replicate {A = ℕ} (31 - length key.name) 0 in
    let names = length-append key.name filler in
    let fills = length-replicate {A = ℕ} (31 - length key.name) 0 in
    omega (arith, names, fills, short)

index-tests : (key : CatKey) (rest : List ℕ) → length key.name ≤ 31 → 7 ≤ length (cat_index_bytes key ++ rest) → 38 ≤ length (cat_index_bytes key ++ rest)
    → is_cat_key (cat_index_bytes key ++ rest) ≡ true
unfolding is_cat_key cat_index_bytes
index-tests key rest short head all =
    all-true _ _ _ _ _ (le-leb 7 _ head) (le-leb (length key.name) 31 short) (le-leb (6 + length key.name) 37 (omega (arith, short))) refl (le-leb 38 _ all)

pub is_cat_key-index : (key : CatKey) (rest : List ℕ) → IsCatKeyValue key → is_cat_key (cat_index_bytes key ++ rest) ≡ true
is_cat_key-index key rest ok =
    let len = length-append (cat_index_bytes key) rest in
    let own = length-cat_index_bytes key ok.name in
    index-tests key rest ok.name (omega (arith, len, own)) (omega (arith, len, own))

pub cat_key_of-index : (key : CatKey) (rest : List ℕ) → IsCatKeyValue key → cat_key_of (cat_index_bytes key ++ rest) ≡ key
unfolding cat_key_of cat_index_bytes
cat_key_of-index key rest ok =
    let filler = replicate {A = ℕ} (31 - length key.name) 0 in
    rebuilt key _ _ (parent-read 37 0 key.parent (length key.name ∷ ((key.name ++ filler) ++ rest)) ok.parent) (name-read key.name filler rest)

full-length : (key : CatKey) (rest : List ℕ) → (slice_index (cat_index_bytes key ++ rest) 0 == 37) ≡ true
unfolding cat_index_bytes
full-length key rest = refl

-- a key in index form and a node's number are a record of an index node, and both are read back
pub is_cat_index-record : (key : CatKey) (child : ℕ) → IsCatKeyValue key → is_cat_index (cat_index_record key child) ≡ true
unfolding is_cat_index cat_index_record
is_cat_index-record key child ok =
    let len = length-append (cat_index_bytes key) (big_bytes 4 child) in
    let own = length-cat_index_bytes key ok.name in
    let whole = eq-eqb (length (cat_index_bytes key ++ big_bytes 4 child)) 42 (omega (arith, len, own)) in
    λ i. is_cat_key-index key (big_bytes 4 child) ok i && whole i && full-length key (big_bytes 4 child) i

pub cat_key_of-record : (key : CatKey) (child : ℕ) → IsCatKeyValue key → cat_key_of (cat_index_record key child) ≡ key
unfolding cat_index_record
cat_key_of-record key child ok = cat_key_of-index key (big_bytes 4 child) ok

number-behind : (head : List ℕ) (i n x : ℕ) → length head ≡ i → x < 256 ^ n → number_at i n (head ++ big_bytes n x) ≡ x
unfolding number_at
number-behind head i n x len small =
    ap (λ (bytes : List ℕ). big_number n bytes) (drop_at head (big_bytes n x) i len ∙ sym (append-nil (big_bytes n x))) ∙ big_number-reads_back n x [] small

pub cat_child_of-record : (key : CatKey) (child : ℕ) → length key.name ≤ 31 → child < 2 ^ 32 → cat_child_of (cat_index_record key child) ≡ child
unfolding cat_child_of cat_index_record
cat_child_of-record key child short small = number-behind (cat_index_bytes key) 38 4 child (length-cat_index_bytes key short) (omega (arith, small))

ext-rebuilt : (key : ExtKey) (file block : ℕ) → file ≡ key.file → block ≡ key.block → record key { file = file; block = block } ≡ key
ext-rebuilt key file block e f = λ i. record { fork = key.fork; file = e i; block = f i }

block-read : (a b c d e f x : ℕ) (rest : List ℕ) → x < 2 ^ 16 → number_at 6 2 (a ∷ b ∷ c ∷ d ∷ e ∷ f ∷ [] ++ big_bytes 2 x ++ rest) ≡ x
unfolding number_at
block-read a b c d e f x rest small = big_number-reads_back 2 x rest (omega (arith, small))

pub is_ext_key-written : (key : ExtKey) (rest : List ℕ) → is_ext_key (ext_key_bytes key ++ rest) ≡ true
unfolding is_ext_key ext_key_bytes
is_ext_key-written key rest = λ i. le-leb 8 (length (ext_key_bytes key ++ rest)) (omega arith) i && true

pub ext_key_of-written : (key : ExtKey) (rest : List ℕ) → IsExtKeyValue key → ext_key_of (ext_key_bytes key ++ rest) ≡ key
unfolding ext_key_of ext_key_bytes
ext_key_of-written key rest ok =
    ext-rebuilt key _ _ (parent-read 7 key.fork key.file (big_bytes 2 key.block ++ rest) ok.file) (block-read _ _ _ _ _ _ key.block rest ok.block)

pub ext_body_of-written : (key : ExtKey) (body : List ℕ) → ext_body_of (ext_key_bytes key ++ body) ≡ body
unfolding ext_key_bytes
ext_body_of-written key body = refl

-- a key and 12 bytes are a record of a leaf
pub is_ext_leaf-written : (key : ExtKey) (body : List ℕ) → length body ≡ 12 → is_ext_leaf (ext_key_bytes key ++ body) ≡ true
unfolding is_ext_leaf
is_ext_leaf-written key body whole =
    let len = length-append (ext_key_bytes key) body in
    let own = length-ext_key_bytes key in
    let all = eq-eqb (length (ext_key_bytes key ++ body)) 20 (omega (arith, len, own, whole)) in
    λ i. is_ext_key-written key body i && all i

-- a key and a node's number are a record of an index node, and both are read back
pub is_ext_index-record : (key : ExtKey) (child : ℕ) → is_ext_index (ext_index_record key child) ≡ true
unfolding is_ext_index ext_index_record
is_ext_index-record key child =
    let len = length-append (ext_key_bytes key) (big_bytes 4 child) in
    let own = length-ext_key_bytes key in
    let all = eq-eqb (length (ext_key_bytes key ++ big_bytes 4 child)) 12 (omega (arith, len, own)) in
    λ i. is_ext_key-written key (big_bytes 4 child) i && all i

pub ext_key_of-record : (key : ExtKey) (child : ℕ) → IsExtKeyValue key → ext_key_of (ext_index_record key child) ≡ key
unfolding ext_index_record
ext_key_of-record key child ok = ext_key_of-written key (big_bytes 4 child) ok

pub ext_child_of-record : (key : ExtKey) (child : ℕ) → child < 2 ^ 32 → ext_child_of (ext_index_record key child) ≡ child
unfolding ext_child_of ext_index_record
ext_child_of-record key child small = number-behind (ext_key_bytes key) 8 4 child (length-ext_key_bytes key) (omega (arith, small))
