-- Bytes written over the blocks of a file: `ns` are the numbers of its logical blocks, one after the other.
use Rattle.std.specs.Prelude.{◌≡◌, ◌≢◌, ℕ, ◌+◌, ◌*◌, ◌/◌, ◌%◌, ◌<◌, ◌≤◌, ◌⊎◌, List, length, slice_index}
use Rattle.hfs_blocks.specs.Layers.{Numbered, changes, over, AreWhole}

-- byte j of the file
abbrev pub byte_of : (ℕ → List ℕ) → List ℕ → ℕ → ℕ
byte_of blocks ns j = slice_index (blocks (slice_index ns (j / 512))) (j % 512)

-- block i of the file has one of `count` bytes from `offset` on, of which there are some
pub record HasByteOf (offset count i : ℕ) : Type 0 where
  pub some : 0 < count
  pub starts : offset < 512 * (i + 1)
  pub ends : 512 * i < offset + count

-- beside the file's blocks that have one of these bytes, no block has changed
abbrev pub KeepsBeside : List ℕ → ℕ → ℕ → (ℕ → List ℕ) → (ℕ → List ℕ) → Type 0
KeepsBeside ns offset count old new = (k : ℕ) → ((i : ℕ) → HasByteOf offset count i → i < length ns → slice_index ns i ≢ k) → new k ≡ old k

-- the file has the part's bytes from `offset` on, and its other bytes as they were
pub record HasPart (ns : List ℕ) (offset : ℕ) (part : List ℕ) (old new : ℕ → List ℕ) : Type 0 where
  pub given : (j : ℕ) → j < length part → byte_of new ns (offset + j) ≡ slice_index part j
  pub others : (j : ℕ) → j < 512 * length ns → (j < offset) ⊎ (offset + length part ≤ j) → byte_of new ns j ≡ byte_of old ns j

-- no number stands twice
abbrev pub AreDifferent : List ℕ → Type 0
AreDifferent ns = (i j : ℕ) → i < j → j < length ns → slice_index ns i ≢ slice_index ns j

-- over these blocks a patch shows the part in the file, and its other bytes as the other patch showed them
abbrev pub HasPartOver : (ℕ → List ℕ) → List ℕ → ℕ → List ℕ → Numbered → Numbered → Type 0
HasPartOver below ns offset part old new = HasPart ns offset part (over (changes old) below) (over (changes new) below)

-- and no other change beside the file's blocks that have one of these bytes
abbrev pub KeepsBesideOver : (ℕ → List ℕ) → List ℕ → ℕ → ℕ → Numbered → Numbered → Type 0
KeepsBesideOver below ns offset count old new = KeepsBeside ns offset count (over (changes old) below) (over (changes new) below)

-- the blocks of both patches have 512 bytes each
abbrev pub AreBothWhole : Numbered → Numbered → Type 0
AreBothWhole old new = AreWhole (changes old) × AreWhole (changes new)

-- the blocks from `first` on have these bytes, of whole blocks, and no other block has changed
pub record HasBlocks (first : ℕ) (bytes : List ℕ) (old new : ℕ → List ℕ) : Type 0 where
  pub given : (i : ℕ) → i < length bytes → slice_index (new (first + i / 512)) (i % 512) ≡ slice_index bytes i
  pub before : (n : ℕ) → n < first → new n ≡ old n
  pub behind : (n : ℕ) → first + length bytes / 512 ≤ n → new n ≡ old n
