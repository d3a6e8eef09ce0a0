-- What zeros and bytes over a fork's blocks make of the bytes of these blocks.
use Rattle.std.specs.Prelude.{◌≡◌, ◌⊎◌, ℕ, ◌+◌, ◌*◌, ◌<◌, ◌≤◌, max, nat_lt, if◌then◌else◌, List, length, slice_index}
use Rattle.hfs_fields.specs.declared.extent.Extent.{Extent}
use Rattle.hfs_fields.specs.declared.mdb.Mdb.{Mdb}
use Rattle.hfs_fields.specs.Each.{Each}
use Rattle.hfs_fields.specs.Members.{In}
use Rattle.hfs_space.specs.ForkLaws.{block_numbers}
use Rattle.hfs_space.specs.ForkLengths.{all_bytes}
use Rattle.hfs_space.specs.Parts.{with_part}
use Rattle.hfs_space.specs.Written.{HasByteOf, KeepsBeside}
use Rattle.hfs_space.specs.Clearing.{HaveZeros, KeepOthers}
use Rattle.hfs_check.specs.Parts.{Blocks, mdb_in}
use Rattle.hfs_check.specs.Agree.{IsBeside}

-- each of the first so many blocks has 512 bytes
abbrev pub AreFull : ℕ → Blocks → Type 0
AreFull total blocks = (n : ℕ) → n < total → length (blocks n) ≡ 512

-- ---- what is edited

-- zeros take the place of `count` bytes of the extents' blocks from `from` on, and no other block has changed
pub record LaysZeros (mdb : Mdb) (extents : List Extent) (from count : ℕ) (old new : Blocks) : Type 0 where
  pub zeros : HaveZeros mdb extents from count old new
  pub beside : KeepOthers mdb extents from count old new

-- these bytes take the place of those from `offset` on, and no other block has changed
pub record LaysBytes (mdb : Mdb) (extents : List Extent) (offset : ℕ) (part : List ℕ) (old new : Blocks) : Type 0 where
  pub given : all_bytes new mdb extents ≡ with_part offset part (all_bytes old mdb extents)
  pub beside : KeepsBeside (block_numbers mdb extents) offset (length part) old new

-- no block has changed but those that every call may change
abbrev pub ChangesAsCallsDo : Blocks → Blocks → Blocks → Type 0
ChangesAsCallsDo volume old new = (n : ℕ) → IsBeside volume n → new n ≡ old n

-- First the zeros are laid over these extents of a volume, and then the bytes. Before them, between them and after them every block may
-- change that every call may change.
pub record Lays (extents : List Extent) (from count offset : ℕ) (part : List ℕ) (old new : Blocks) : Type 0 where
  pub before : Blocks
  pub begins : ChangesAsCallsDo old old before
  pub cleared : Blocks
  pub zeros : LaysZeros (mdb_in old) extents from count before cleared
  pub between : Blocks
  pub goes_on : ChangesAsCallsDo old cleared between
  pub laid : Blocks
  pub bytes : LaysBytes (mdb_in old) extents offset part between laid
  pub ends : ChangesAsCallsDo old laid new

-- Which zeros a fork needs that had `was` bytes in `had` blocks of `size` bytes, and gets `len` in n blocks, so many of them given from
-- `offset` on: none before its old end, all from there to where the given ones begin or from where they end; to the end of its last block,
-- where blocks are added, else to its new end.
pub record AreZeros (size was had len n offset given from count : ℕ) : Type 0 where
  pub behind : was ≤ from
  pub begins : from ≤ max was (offset + given)
  pub ends : from + count ≡ (if nat_lt had n then n * size else max from len)

-- ---- what is written

-- the block is one of the fork's, of which one of `count` bytes from `offset` on lies in it
pub record IsTouched (numbers : List ℕ) (offset count k : ℕ) : Type 0 where
  pub place : ℕ
  pub within : place < length numbers
  pub is : slice_index numbers place ≡ k
  pub has : HasByteOf offset count place

-- all of these blocks are the fork's, and each that has a zero or a byte which was written is one of them
pub record AreWritten (numbers : List ℕ) (from count offset given : ℕ) (written : List ℕ) : Type 0 where
  pub own : Each (λ k. In k numbers) written
  pub zeros : (k : ℕ) → IsTouched numbers from count k → In k written
  pub bytes : (k : ℕ) → IsTouched numbers offset given k → In k written

-- ---- what the bytes are then

-- Byte by byte of a fork's blocks, which had `was` bytes in blocks of `had` bytes, and has `len`: the given bytes are from `offset` on. Of
-- the others those are zeros that lie in blocks which were added, or between the old end and the new one. All others are as they were.
pub record AreLaid (was had len offset : ℕ) (part old new : List ℕ) : Type 0 where
  pub given : (j : ℕ) → j < length part → slice_index new (offset + j) ≡ slice_index part j
  pub zeros : (j : ℕ) → j < length new → (j < offset) ⊎ (offset + length part ≤ j) → (had ≤ j) ⊎ ((was ≤ j) × (j < len)) → slice_index new j ≡ 0
  pub others : (j : ℕ) → j < had → (j < offset) ⊎ (offset + length part ≤ j) → (j < was) ⊎ (len ≤ j) → slice_index new j ≡ slice_index old j
