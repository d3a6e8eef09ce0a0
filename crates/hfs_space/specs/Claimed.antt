-- What a bitmap is in which the bits of allocation blocks were set.
use Rattle.std.specs.Prelude.{◌≡◌, ℕ, ◌+◌, ◌<◌, ◌≤◌, ◌⊎◌, true, false, List, length}
use Rattle.hfs_fields.specs.declared.extent.Extent.{Extent}
use Rattle.hfs_blocks.specs.Layers.{Numbered, changes, over}
use Rattle.hfs_space.specs.Bitmap.{bitmap_len, is_used, clear_count}
use Rattle.hfs_space.specs.Extents.{extent_blocks}
use Rattle.hfs_space.specs.Owners.{owners}

-- the bits of `count` allocation blocks from `first` on are set
abbrev pub AreSet : (ℕ → List ℕ) → ℕ → ℕ → ℕ → Type 0
AreSet blocks start first count = (n : ℕ) → first ≤ n → n < first + count → is_used blocks start n ≡ true

-- over these blocks a patch has them set
abbrev pub AreSetIn : Numbered → (ℕ → List ℕ) → ℕ → ℕ → ℕ → Type 0
AreSetIn patch below start first count = AreSet (over (changes patch) below) start first count

-- none of these blocks is there twice, and none is marked
pub record AreFree (blocks : ℕ → List ℕ) (start : ℕ) (claimed : List ℕ) : Type 0 where
  pub once : (b : ℕ) → owners claimed b ≤ 1
  pub free : (b : ℕ) → 0 < owners claimed b → is_used blocks start b ≡ false

-- The bits of these allocation blocks are set. No other bit of the bitmap has changed, nor any block outside it. Where the blocks
-- were free, so many fewer bits are clear.
pub record HasClaimed (start total : ℕ) (claimed : List ℕ) (old new : ℕ → List ℕ) : Type 0 where
  pub set : (b : ℕ) → 0 < owners claimed b → is_used new start b ≡ true
  pub others : (b : ℕ) → owners claimed b ≡ 0 → is_used new start b ≡ is_used old start b
  pub beside : (k : ℕ) → (k < start) ⊎ (start + bitmap_len total ≤ k) → new k ≡ old k
  pub counted : AreFree old start claimed → clear_count new start total + length claimed ≡ clear_count old start total

-- the same of the blocks of extents, in patches over these blocks
abbrev pub HasClaimedOver : (ℕ → List ℕ) → ℕ → ℕ → List Extent → Numbered → Numbered → Type 0
HasClaimedOver below start total extents old new = HasClaimed start total (extent_blocks extents) (over (changes old) below) (over (changes new) below)
