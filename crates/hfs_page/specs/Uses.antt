-- What each block of a volume is used for.
use Rattle.std.specs.Prelude.{◌≡◌, ℕ, ◌+◌, ◌<◌, Bool, ◌&&◌, nat_le, nat_lt, if◌then◌else◌, List, [], ◌∷◌, length, map, None, slice_index_or}
use Rattle.std.specs.List.{range_with_len}
use Rattle.hfs_fields.specs.declared.extent.Extent.{Extent}
use Rattle.hfs_page.specs.declared.parts.BlockUse.{BlockUse}
use Rattle.hfs_page.specs.declared.parts.Holding.{Holding}
use Rattle.hfs_page.specs.declared.parts.Part.TheVariants.{Stray, Free}

-- the block is one of the extent's
abbrev pub has_block : Extent → ℕ → Bool
has_block e block = nat_le e.first block && nat_lt block (e.first + e.count)

-- a block that nobody has, by whether it is marked
abbrev pub unowned : Bool → BlockUse
unowned is_marked = record { part = if is_marked then Stray else Free; fork = None }

-- what a block is by the first of these extents that has it; this, where none has it
abbrev pub use_by : List Holding → BlockUse → ℕ → BlockUse
use_by [] other block = other
use_by (h ∷ hs) other block = if has_block h.extent block then h.used else use_by hs other block

-- what each of the first n blocks is, by all extents of the volume and by whether it is marked
unfoldable pub block_uses : List Holding → (ℕ → Bool) → ℕ → List BlockUse
block_uses holdings is_marked n = map (λ block. use_by holdings (unowned (is_marked block)) block) (range_with_len 0 n)

-- ---- words of the parts

-- the blocks of this extent are set, and no others
abbrev pub AreLaid : Holding → List BlockUse → List BlockUse → Type 0
AreLaid h old new = (block : ℕ) (none : BlockUse) → block < length old
    → slice_index_or new block none ≡ (if has_block h.extent block then h.used else slice_index_or old block none)

-- each block is what the first of these extents says that has it
abbrev pub AreUsed : List Holding → List BlockUse → List BlockUse → Type 0
AreUsed holdings old new = (block : ℕ) (none : BlockUse) → block < length old
    → slice_index_or new block none ≡ use_by holdings (slice_index_or old block none) block
