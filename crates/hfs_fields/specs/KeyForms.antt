-- Keys as they are written, and what is read from the bytes afterwards.
use Rattle.std.proofs.Common.{◌≡◌, ℕ, ◌+◌, ◌-◌, ◌*◌, ◌/◌, ◌%◌, ◌^◌, ◌<◌, ◌≤◌, List, [], ◌∷◌, ◌++◌, length, replicate, refl, arith}
use Rattle.std.proofs.lemmas.List.{length-append, length-replicate}
use Rattle.byteorder.specs.Endian.{big_bytes}
use Rattle.hfs_fields.specs.declared.key.CatKey.{CatKey}
use Rattle.hfs_fields.specs.declared.key.ExtKey.{ExtKey}

-- ---- catalog keys

-- what every catalog key of the program keeps
pub record IsCatKeyValue (key : CatKey) : Type 0 where
  pub parent : key.parent < 2 ^ 32
  pub name : length key.name ≤ 31

-- its fields up to the name's last character, where this is its length
abbrev pub cat_key_fields : ℕ → CatKey → List ℕ
cat_key_fields len key = len ∷ 0 ∷ [] ++ big_bytes 4 key.parent ++ length key.name ∷ [] ++ key.name

-- in a leaf: the length is 6 and the name's length, and a zero byte fills the key up to an even place
unfoldable pub cat_leaf_bytes : CatKey → List ℕ
cat_leaf_bytes key =
    (6 + length key.name) ∷ 0 ∷ [] ++ big_bytes 4 key.parent ++ length key.name ∷ [] ++ key.name ++ replicate (1 - length key.name % 2) 0

-- in an index node: the length is 37, and zero bytes fill the name up to 31 characters
unfoldable pub cat_index_bytes : CatKey → List ℕ
cat_index_bytes key = 37 ∷ 0 ∷ [] ++ big_bytes 4 key.parent ++ length key.name ∷ [] ++ key.name ++ replicate (31 - length key.name) 0

-- a record of an index node
unfoldable pub cat_index_record : CatKey → ℕ → List ℕ
cat_index_record key child = cat_index_bytes key ++ big_bytes 4 child

pub length-cat_leaf_bytes : (key : CatKey) → length (cat_leaf_bytes key) ≡ (length key.name + 8) / 2 * 2
unfolding cat_leaf_bytes
length-cat_leaf_bytes key =
    let filler = replicate {A = ℕ} (1 - length key.name % 2) 0 in
    let names = length-append key.name filler in
    let fills = length-replicate {A = ℕ} (1 - length key.name % 2) 0 in
    omega (arith, names, fills)

-- ---- extents keys

-- what every extents key of the program keeps
pub record IsExtKeyValue (key : ExtKey) : Type 0 where
  pub fork : key.fork < 256
  pub file : key.file < 2 ^ 32
  pub block : key.block < 2 ^ 16

-- the length is 7, in a leaf and in an index node
unfoldable pub ext_key_bytes : ExtKey → List ℕ
ext_key_bytes key = 7 ∷ key.fork ∷ [] ++ big_bytes 4 key.file ++ big_bytes 2 key.block

-- a record of an index node
unfoldable pub ext_index_record : ExtKey → ℕ → List ℕ
ext_index_record key child = ext_key_bytes key ++ big_bytes 4 child

pub length-ext_key_bytes : (key : ExtKey) → length (ext_key_bytes key) ≡ 8
unfolding ext_key_bytes
length-ext_key_bytes key = refl
