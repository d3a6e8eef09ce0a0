-- A node of 512 bytes, as a list of records.
use Rattle.std.specs.Prelude.{◌≡◌, ℕ, zero, suc, ◌+◌, ◌*◌, ◌-◌, ◌≤◌, Bool, true, ◌&&◌, nat_le, if◌then◌else◌, List, map, length, take, slice_index, slice_range, Option, Some, None, Result, Ok, Err, IsOk, ◌⊎◌}
use Rattle.std.specs.List.{range_with_len, sum_by}
use Rattle.hfs_fields.specs.Numbers.{number_at}
use Rattle.hfs_btree.specs.Kind.{kind_of}
use Rattle.hfs_btree.specs.declared.kind.NodeKind.{NodeKind}
use Rattle.hfs_btree.specs.declared.fault.NodeFault.{NodeFault}
use Rattle.hfs_btree.specs.declared.fault.NodeFault.TheVariants.{Kind, Outside, NotRising, Memory}
use Rattle.hfs_btree.specs.declared.node.Node.{Node}
use Rattle.hfs_btree.specs.declared.node.Descriptor.{Descriptor}

-- how many records the descriptor says
unfoldable pub count_of : List ℕ → ℕ
count_of bytes = number_at 10 2 bytes

-- the place of record i, or after the last the place of the free space
unfoldable pub offset_of : List ℕ → ℕ → ℕ
offset_of bytes i = number_at (510 - 2 * i) 2 bytes

-- a test holds at each number below n
abbrev pub each_below : ℕ → (ℕ → Bool) → Bool
each_below zero test = true
each_below (suc n) test = each_below n test && test n

-- the row of offsets fits, and each offset is between the descriptor and the row
unfoldable pub are_inside : List ℕ → Bool
are_inside bytes =
    nat_le (count_of bytes) 248 && each_below (suc (count_of bytes)) (λ i. nat_le 14 (offset_of bytes i) && nat_le (offset_of bytes i) (510 - 2 * count_of bytes))

-- no offset is below the one before it
unfoldable pub are_rising : List ℕ → Bool
are_rising bytes = each_below (count_of bytes) (λ i. nat_le (offset_of bytes i) (offset_of bytes (i + 1)))

-- record i: the bytes from its offset to the next one
unfoldable pub record_of : List ℕ → ℕ → List ℕ
record_of bytes i = slice_range bytes (offset_of bytes i) (offset_of bytes (i + 1))

-- the fields of a node of this kind
unfoldable pub node_with : NodeKind → List ℕ → Node
node_with kind bytes =
    record {
      forward = number_at 0 4 bytes;
      backward = number_at 4 4 bytes;
      kind = kind;
      height = slice_index bytes 9;
      records = map (record_of bytes) (range_with_len 0 (count_of bytes));
    }

-- the node of this kind in the bytes, or the first fault after the type's
unfoldable pub node_of_kind : Option NodeKind → List ℕ → Result Node NodeFault
node_of_kind None bytes = Err Kind
node_of_kind (Some kind) bytes =
    if are_inside bytes then (if are_rising bytes then Ok (node_with kind bytes) else Err NotRising) else Err Outside

-- the node in 512 bytes, or the first fault
unfoldable pub node_of : List ℕ → Result Node NodeFault
node_of bytes = node_of_kind (kind_of (slice_index bytes 8)) bytes

-- the bytes are a node of this kind
pub record IsNode (kind : NodeKind) (bytes : List ℕ) : Type 0 where
  pub kind_is : kind_of (slice_index bytes 8) ≡ Some kind
  pub inside : are_inside bytes ≡ true
  pub rising : are_rising bytes ≡ true

-- a node's descriptor
abbrev pub descriptor_of : Node → Descriptor
descriptor_of n = record { forward = n.forward; backward = n.backward; kind = n.kind; height = n.height }

-- the node with this descriptor and these records
abbrev pub node_from : Descriptor → List (List ℕ) → Node
node_from d records = record { forward = d.forward; backward = d.backward; kind = d.kind; height = d.height; records = records }

-- the bytes that records and their offsets take
unfoldable pub size_of : List (List ℕ) → ℕ
size_of records = sum_by (λ r. length r + 2) records

-- the records and their offsets have room between descriptor and the last offset's place
abbrev pub Fits : Node → Type 0
Fits n = size_of n.records ≤ 496

-- where record k begins, and after the last where the free space begins
unfoldable pub start_of : List (List ℕ) → ℕ → ℕ
start_of records k = 14 + sum_by (λ r. length r) (take k records)

-- a copy that can't be made: the bytes' own fault, or lack of memory where they are a node
abbrev pub IsFaultOfCopy : NodeFault → Result Node NodeFault → Type 0
IsFaultOfCopy fault node = ((fault ≡ Memory) × IsOk node) ⊎ (node ≡ Err fault)
