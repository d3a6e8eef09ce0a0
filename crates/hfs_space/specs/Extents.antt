-- Extents, and the extents of a fork beyond the first three. Blocks here are allocation blocks, counted from 0, of the
-- volume or of the fork, as it is said.
use Rattle.std.specs.Prelude.{◌≡◌, ℕ, ◌+◌, ◌<◌, ◌≤◌, Bool, ◌&&◌, ◌==◌, nat_lt, nat_le, if◌then◌else◌, List, [], ◌∷◌, ◌++◌, length, Option, Some, None}
use Rattle.std.specs.List.{All, flat_map, sum_by, range_with_len}
use Rattle.hfs_fields.specs.Mdb.{extents_at}
use Rattle.hfs_fields.specs.declared.extent.Extent.{Extent}
use Rattle.hfs_fields.specs.declared.key.ExtKey.{ExtKey}
use Rattle.hfs_btree.specs.Pairs.{Pairs}
use Rattle.hfs_space.specs.declared.fork_kind.ForkKind.{ForkKind}
use Rattle.hfs_space.specs.declared.fork_kind.ForkKind.TheVariants.{Data, Resource}

-- how many blocks the extents have
abbrev pub block_total : List Extent → ℕ
block_total extents = sum_by (λ e. e.count) extents

-- the volume's blocks that the extents have, in order; an extent with count 0 has none
abbrev pub extent_blocks : List Extent → List ℕ
extent_blocks extents = flat_map (λ e. range_with_len e.first e.count) extents

-- the extent's blocks are among the volume's first n
abbrev pub IsExtentWithin : ℕ → Extent → Type 0
IsExtentWithin n e = 0 < e.count → e.first + e.count ≤ n

abbrev pub AreExtentsWithin : ℕ → List Extent → Type 0
AreExtentsWithin n extents = All (IsExtentWithin n) extents

-- ---- the extents tree

-- the byte of a fork in the keys
abbrev pub fork_byte : ForkKind → ℕ
fork_byte Data = 0
fork_byte Resource = 255

-- the content of an extents tree
abbrev pub Overflow : Type 0
Overflow = Pairs ExtKey

-- the three extents of a record's body, which has 12 bytes
abbrev pub record_extents : List ℕ → List Extent
record_extents body = if nat_le 12 (length body) then extents_at 0 body else []

-- the record is of this fork, begins at this block of the fork, whose number has two bytes, and has a block
abbrev pub goes_on : ℕ → ℕ → ℕ → ExtKey × List ℕ → Bool
goes_on file fork block r = (r.0.file == file) && (r.0.fork == fork) && (r.0.block == block) && nat_lt block 65536 && nat_lt 0 (block_total (record_extents r.1))

-- the records that go on with a fork from this block of it on, each from where the one before it ends. In a tree's order
-- a record that goes on is later than the one before it, so one walk finds them all.
abbrev pub run_on : ℕ → ℕ → ℕ → Overflow → Overflow
run_on file fork block [] = []
run_on file fork block (r ∷ rs) =
    if goes_on file fork block r then r ∷ run_on file fork (block + block_total (record_extents r.1)) rs else run_on file fork block rs

-- the extents that go on with a fork from this block of it on
abbrev pub extents_from : Overflow → ℕ → ℕ → ℕ → List Extent
extents_from overflow file fork block = flat_map (λ r. record_extents r.1) (run_on file fork block overflow)

-- all extents of a fork whose record has these first ones
unfoldable pub fork_extents : Overflow → ℕ → ℕ → List Extent → List Extent
fork_extents overflow file fork first = first ++ extents_from overflow file fork (block_total first)

-- what a look-up finds that goes on with a fork from this block of it on: nothing, where nothing goes on, or extents that
-- have a block, and then what goes on after them
abbrev pub GoesOnWith : Overflow → ℕ → ℕ → ℕ → Option (List Extent) → Type 0
GoesOnWith overflow file fork block None = extents_from overflow file fork block ≡ []
GoesOnWith overflow file fork block (Some found) =
    (block < 65536) × (0 < block_total found) × (extents_from overflow file fork block ≡ found ++ extents_from overflow file fork (block + block_total found))
