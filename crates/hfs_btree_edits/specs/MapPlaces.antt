-- Where the bit of a node is in the node map, and what writing it makes of the nodes.
use Rattle.std.specs.Prelude.{◌≡◌, ℕ, zero, suc, ◌+◌, ◌*◌, ◌<◌, ◌⊎◌, Bool, true, false, List, [], ◌∷◌, ◌++◌, Ok, length, slice_set, slice_index_or}
use Rattle.std.specs.List.{flat_map}
use Rattle.hfs_btree.specs.declared.node.Node.{Node}
use Rattle.hfs_btree.specs.Tree.{Store, node_in}
use Rattle.hfs_btree.specs.Header.{record_in, own_nodes, bit_of}
use Rattle.hfs_btree_edits.specs.declared.map_bit.MapBit.{MapBit}
use Rattle.hfs_btree_edits.specs.Stored.{HasStored}

-- which record of the header node or of a map node is its part of the map
abbrev pub entry_of : ℕ → ℕ
entry_of zero = 2
entry_of (suc n) = 0

abbrev pub part_in : Store → ℕ → List ℕ
part_in nodes n = record_in nodes n (entry_of n)

-- how many bits the parts of these nodes have
abbrev pub bits_of : Store → List ℕ → ℕ
bits_of nodes ns = 8 * length (flat_map (part_in nodes) ns)

-- the bit of node n is that bit of the part that node `at` has
pub record IsPlaced (nodes : Store) (at entry bit n : ℕ) : Type 0 where
  pub done : List ℕ
  pub rest : List ℕ
  pub split : own_nodes nodes ≡ done ++ at ∷ rest
  pub which : entry ≡ entry_of at
  pub within : bit < 8 * length (part_in nodes at)
  pub number : n ≡ bits_of nodes done + bit

-- a bit of a record was written, and nothing else
pub record HasBitPut (at entry bit : ℕ) (b : Bool) (old new : Store) : Type 0 where
  pub node : Node
  pub part : List ℕ
  pub was : node_in old at ≡ Ok node
  pub stored : HasStored at (record node { records = slice_set node.records entry part }) old new
  pub some : entry < length node.records
  pub long : length part ≡ length (slice_index_or node.records entry [])
  pub here : bit_of part bit ≡ b
  pub others : (k : ℕ) → (k < bit) ⊎ (bit < k) → bit_of part k ≡ bit_of (slice_index_or node.records entry []) k

-- the place of a bit in the node map is that of its node
abbrev pub IsPlaceOfNode : Store → MapBit → Type 0
IsPlaceOfNode nodes = λ at. IsPlaced nodes at.node at.entry at.bit at.number

-- the bit at this place is clear
abbrev pub IsClearAt : Store → MapBit → Type 0
IsClearAt nodes = λ at. bit_of (record_in nodes at.node at.entry) at.bit ≡ false

-- the bit at this place was written, and nothing else
abbrev pub HasWrittenAt : MapBit → Bool → Store → Store → Type 0
HasWrittenAt at b old new = HasBitPut at.node at.entry at.bit b old new

-- no bit but bit i has changed
abbrev pub KeepsBitsBut : ℕ → List ℕ → List ℕ → Type 0
KeepsBitsBut i old new = (k : ℕ) → (k < i) ⊎ (i < k) → bit_of new k ≡ bit_of old k

-- of so many bits, or as many as the bytes have, each is set
abbrev pub AreAllSet : ℕ → List ℕ → Type 0
AreAllSet count bytes = (k : ℕ) → k < count → k < 8 * length bytes → bit_of bytes k ≡ true
