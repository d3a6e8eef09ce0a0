-- A node that was laid in bytes: where its parts are.
use Rattle.std.specs.Prelude.{◌≡◌, ℕ, ◌+◌, ◌*◌, ◌-◌, ◌≤◌, ◌<◌, [], Some, List, length, slice_index, slice_index_or, slice_range}
use Rattle.hfs_fields.specs.Numbers.{number_at}
use Rattle.hfs_btree.specs.Kind.{kind_of}
use Rattle.hfs_btree.specs.Node.{count_of, offset_of, start_of}
use Rattle.hfs_btree.specs.declared.node.Node.{Node}

-- the descriptor says these fields and this number of records
pub record HasHead (n : Node) (bytes : List ℕ) : Type 0 where
  pub forward : number_at 0 4 bytes ≡ n.forward
  pub backward : number_at 4 4 bytes ≡ n.backward
  pub kind : kind_of (slice_index bytes 8) ≡ Some n.kind
  pub height : slice_index bytes 9 ≡ n.height
  pub count : count_of bytes ≡ length n.records

-- the first n records lie one after the other from byte 14 on, and their offsets say so
pub record AreLaid (records : List (List ℕ)) (n : ℕ) (bytes : List ℕ) : Type 0 where
  pub offsets : (k : ℕ) → k < n → offset_of bytes k ≡ start_of records k
  pub bodies : (k : ℕ) → k < n → slice_range bytes (start_of records k) (start_of records (k + 1)) ≡ slice_index_or records k []

-- the descriptor's bytes are the same
abbrev pub SameHead : List ℕ → List ℕ → Type 0
SameHead old new = (k : ℕ) → k < 14 → slice_index new k ≡ slice_index old k

-- the bytes from a to b are zero
abbrev pub IsZeroFrom : ℕ → ℕ → List ℕ → Type 0
IsZeroFrom a b bytes = (k : ℕ) → a ≤ k → k < b → slice_index bytes k ≡ 0

-- the reserved bytes of the descriptor, and those between the records and their offsets, are zero
pub record IsClear (records : List (List ℕ)) (bytes : List ℕ) : Type 0 where
  pub reserved : IsZeroFrom 12 14 bytes
  pub free : IsZeroFrom (start_of records (length records)) (510 - 2 * length records) bytes
