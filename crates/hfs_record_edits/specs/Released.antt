-- What a bitmap is in which the bits of allocation blocks were cleared.
use Rattle.std.specs.Prelude.{◌≡◌, ℕ, ◌+◌, ◌<◌, ◌≤◌, ◌⊎◌, true, false, List, length}
use Rattle.hfs_fields.specs.declared.extent.Extent.{Extent}
use Rattle.hfs_blocks.specs.Layers.{Numbered, changes, over}
use Rattle.hfs_space.specs.Bitmap.{bitmap_len, is_used, clear_count}
use Rattle.hfs_space.specs.Extents.{extent_blocks}
use Rattle.hfs_space.specs.Owners.{owners}

-- none of these blocks is there twice, and each is marked
pub record AreAlone (blocks : ℕ → List ℕ) (start : ℕ) (freed : List ℕ) : Type 0 where
  pub once : (b : ℕ) → owners freed b ≤ 1
  pub used : (b : ℕ) → 0 < owners freed b → is_used blocks start b ≡ true

-- The bits of these allocation blocks are clear. No other bit of the bitmap has changed, nor any block outside it. Where the blocks
-- are alone (`AreAlone`), so many more bits are clear.
pub record HasReleased (start total : ℕ) (freed : List ℕ) (old new : ℕ → List ℕ) : Type 0 where
  pub clear : (b : ℕ) → 0 < owners freed b → is_used new start b ≡ false
  pub others : (b : ℕ) → owners freed b ≡ 0 → is_used new start b ≡ is_used old start b
  pub beside : (k : ℕ) → (k < start) ⊎ (start + bitmap_len total ≤ k) → new k ≡ old k
  pub counted : AreAlone old start freed → clear_count new start total ≡ clear_count old start total + length freed

-- the same of the blocks of extents, in patches over these blocks
abbrev pub HasReleasedOver : (ℕ → List ℕ) → ℕ → ℕ → List Extent → Numbered → Numbered → Type 0
HasReleasedOver below start total extents old new = HasReleased start total (extent_blocks extents) (over (changes old) below) (over (changes new) below)
