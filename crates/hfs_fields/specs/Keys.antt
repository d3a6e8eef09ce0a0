-- The keys of the two trees, as they are at the head of a record.
use Rattle.std.specs.Prelude.{◌≡◌, ℕ, ◌+◌, ◌*◌, ◌/◌, Bool, ◌&&◌, ◌||◌, ◌==◌, nat_le, ◌↔◌, List, length, take, drop, slice_index, ◌≤◌}
use Rattle.std.specs.declared.cmp.Ordering.{Ordering}
use Rattle.std.specs.declared.cmp.Ordering.TheVariants.{Equal}
use Rattle.std.specs.Ordering.{nat_cmp, ordering_then}
use Rattle.std.specs.Cmp.{IsTotalOrder, then_total, on_total, nat_cmp_total}
use Rattle.std.specs.Cmp.Lexicographic.{nat_list_cmp_total}
use Rattle.hfs_fields.specs.Numbers.{number_at}
use Rattle.hfs_fields.specs.Order.{folded, name_cmp}
use Rattle.hfs_fields.specs.declared.key.CatKey.{CatKey}
use Rattle.hfs_fields.specs.declared.key.ExtKey.{ExtKey}

-- how many bytes of a key follow its length byte
abbrev pub key_len : List ℕ → ℕ
key_len bytes = slice_index bytes 0

-- ---- names in a record

-- the length byte of the name at place i
abbrev pub name_len : ℕ → List ℕ → ℕ
name_len i bytes = slice_index bytes i

-- the name at place i: a length byte, and so many characters
abbrev pub name_at : ℕ → List ℕ → List ℕ
name_at i bytes = take (name_len i bytes) (drop (i + 1) bytes)

-- the characters of the name at a place lie in the bytes, where it has at most 31
abbrev pub HoldsName : ℕ → List ℕ → Type 0
HoldsName i bytes = name_len i bytes ≤ 31 → i + 1 + name_len i bytes ≤ length bytes

-- ---- catalog keys: length 1, reserved 1, parent ID 4, name

-- the key's length has room for the name and is at most 37, the name has at most 31 characters, and the bytes have the whole key
unfoldable pub is_cat_key : List ℕ → Bool
is_cat_key bytes =
    nat_le 7 (length bytes) && nat_le (name_len 6 bytes) 31 && nat_le (6 + name_len 6 bytes) (key_len bytes) && nat_le (key_len bytes) 37
    && nat_le (key_len bytes + 1) (length bytes)

unfoldable pub cat_key_of : List ℕ → CatKey
cat_key_of bytes = record { parent = number_at 2 4 bytes; name = name_at 6 bytes }

-- where the body begins: the next even place after the key, counted from the record's beginning
unfoldable pub cat_body_start : List ℕ → ℕ
cat_body_start bytes = (key_len bytes + 2) / 2 * 2

abbrev pub cat_body_of : List ℕ → List ℕ
cat_body_of bytes = drop (cat_body_start bytes) bytes

-- the length of a thread's body, a directory's or a file's
abbrev pub is_cat_body_len : ℕ → Bool
is_cat_body_len n = (n == 46) || (n == 70) || (n == 102)

-- a record of a leaf: a key, and a body of one of the three lengths
unfoldable pub is_cat_leaf : List ℕ → Bool
is_cat_leaf bytes = is_cat_key bytes && nat_le (cat_body_start bytes) (length bytes) && is_cat_body_len (length (cat_body_of bytes))

-- a record of an index node: a key of full length, and a node's number
unfoldable pub is_cat_index : List ℕ → Bool
is_cat_index bytes = is_cat_key bytes && (length bytes == 42) && (key_len bytes == 37)

unfoldable pub cat_child_of : List ℕ → ℕ
cat_child_of bytes = number_at 38 4 bytes

-- the key of a leaf's record, and where its body begins
abbrev pub cat_leaf_of : List ℕ → CatKey × ℕ
cat_leaf_of bytes = (cat_key_of bytes, cat_body_start bytes)

-- the key of an index node's record, and the number of the node below it
abbrev pub cat_index_of : List ℕ → CatKey × ℕ
cat_index_of bytes = (cat_key_of bytes, cat_child_of bytes)

-- by the parent's ID, then by name
abbrev pub cat_cmp : CatKey → CatKey → Ordering
cat_cmp x y = ordering_then (nat_cmp x.parent y.parent) (name_cmp x.name y.name)

pub cat_cmp_total : IsTotalOrder cat_cmp
cat_cmp_total = then_total (on_total (λ k. k.parent) nat_cmp_total) (on_total (λ k. folded k.name) nat_list_cmp_total)

-- ---- extents keys: length 1, fork 1, file number 4, first block within the fork 2

-- the key's length is 7, and the bytes have the whole key
unfoldable pub is_ext_key : List ℕ → Bool
is_ext_key bytes = nat_le 8 (length bytes) && (key_len bytes == 7)

unfoldable pub ext_key_of : List ℕ → ExtKey
ext_key_of bytes = record { fork = slice_index bytes 1; file = number_at 2 4 bytes; block = number_at 6 2 bytes }

-- a record of a leaf: a key, and three extents
unfoldable pub is_ext_leaf : List ℕ → Bool
is_ext_leaf bytes = is_ext_key bytes && (length bytes == 20)

-- a record of an index node: a key, and a node's number
unfoldable pub is_ext_index : List ℕ → Bool
is_ext_index bytes = is_ext_key bytes && (length bytes == 12)

unfoldable pub ext_child_of : List ℕ → ℕ
ext_child_of bytes = number_at 8 4 bytes

-- the key of an index node's record, and the number of the node below it
abbrev pub ext_index_of : List ℕ → ExtKey × ℕ
ext_index_of bytes = (ext_key_of bytes, ext_child_of bytes)

-- by the file's number, then the fork, then the first block
abbrev pub ext_cmp : ExtKey → ExtKey → Ordering
ext_cmp x y = ordering_then (nat_cmp x.file y.file) (ordering_then (nat_cmp x.fork y.fork) (nat_cmp x.block y.block))

pub ext_cmp_total : IsTotalOrder ext_cmp
ext_cmp_total = then_total (on_total (λ k. k.file) nat_cmp_total) (then_total (on_total (λ k. k.fork) nat_cmp_total) (on_total (λ k. k.block) nat_cmp_total))

-- ---- the laws of both orders

-- a total order whose equal keys have the same parent and the same folded name
pub record IsCatKeyOrder (cmp : CatKey → CatKey → Ordering) : Type 0 where
  pub total : IsTotalOrder cmp
  pub equal : (x y : CatKey) → (cmp x y ≡ Equal) ↔ ((x.parent ≡ y.parent) × (folded x.name ≡ folded y.name))

-- a total order whose equal keys are equal
pub record IsExtKeyOrder (cmp : ExtKey → ExtKey → Ordering) : Type 0 where
  pub total : IsTotalOrder cmp
  pub equal : (x y : ExtKey) → (cmp x y ≡ Equal) ↔ (x ≡ y)
