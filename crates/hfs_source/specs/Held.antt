-- How the blocks that were read are held: one of zeros by its number alone, any other by its place among the bytes.
use Rattle.std.specs.Prelude.{◌≡◌, ℕ, ◌+◌, ◌*◌, ◌<◌, ◌≤◌, ◌⊎◌, List, length, map, nat_eq, Option, Some, None, IfSome}
use Rattle.std.specs.Map.{lookup}
use Rattle.hfs_blocks.specs.Blocks.{block_at}
use Rattle.hfs_blocks.specs.Layers.{Numbered, changes}
use Rattle.hfs_source.specs.Sparse.{zero_block}
use Rattle.hfs_source.specs.declared.held.Held.{Held}

-- the block at a place, or one of zeros
abbrev pub held_block : List ℕ → Option ℕ → List ℕ
held_block bytes None = zero_block
held_block bytes (Some place) = block_at bytes place

-- blocks with their numbers, by their places
abbrev pub blocks_by : List ℕ → List (ℕ × Option ℕ) → Numbered
blocks_by bytes places = map (λ (e : ℕ × Option ℕ). (e.0, held_block bytes e.1)) places

-- the blocks that are held
abbrev pub held_blocks : Held → Numbered
held_blocks held = blocks_by held.bytes.items held.places.entries

-- each place is below this one
abbrev pub ArePlacedBelow : List (ℕ × Option ℕ) → ℕ → Type 0
ArePlacedBelow places most = (n place : ℕ) → lookup (nat_eq n) places ≡ Some (Some place) → place < most

-- each place is one of the blocks that are counted, which are there
pub record AreHeld (held : Held) : Type 0 where
  pub placed : ArePlacedBelow held.places.entries held.count
  pub there : 512 * held.count ≤ length held.bytes.items

-- from this place on, the blocks are the same
abbrev pub SameBehind : ℕ → List ℕ → List ℕ → Type 0
SameBehind place old new = (k : ℕ) → place ≤ k → block_at new k ≡ block_at old k

-- block n is one of so many from a number on, and was put in from its place after another
pub record IsPutIn (first count place : ℕ) (raw : List ℕ) (new : Numbered) (n : ℕ) : Type 0 where
  pub k : ℕ
  pub few : k < count
  pub number : n ≡ first + k
  pub block : changes new n ≡ Some (block_at raw (place + k))

-- each block is as it was, or is one of so many that were put in
abbrev pub PutsInOnly : ℕ → ℕ → ℕ → List ℕ → Numbered → Numbered → Type 0
PutsInOnly first count place raw old new = (n : ℕ) → (changes new n ≡ changes old n) ⊎ IsPutIn first count place raw new n

-- each of so many blocks was put in
abbrev pub PutsInAll : ℕ → ℕ → ℕ → List ℕ → Numbered → Type 0
PutsInAll first count place raw new = (k : ℕ) → k < count → changes new (first + k) ≡ Some (block_at raw (place + k))

-- none of so many blocks is there
abbrev pub HasNone : ℕ → ℕ → Numbered → Type 0
HasNone first count read = (k : ℕ) → k < count → changes read (first + k) ≡ None

-- the blocks are the same
abbrev pub HasSame : Numbered → Numbered → Type 0
HasSame old new = changes new ≡ changes old

-- where the image's bytes are known, so many of its blocks from a number on are from this place on
abbrev pub HoldsBlocks : Option (List ℕ) → ℕ → ℕ → ℕ → List ℕ → Type 0
HoldsBlocks known first count place bytes = IfSome known (λ image. (k : ℕ) → k < count → block_at bytes (place + k) ≡ block_at image (first + k))
