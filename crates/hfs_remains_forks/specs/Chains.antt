-- The records with which forks go on, and how many blocks they have together.
use Rattle.std.specs.Prelude.{◌≡◌, ℕ, zero, suc, ◌+◌, ◌*◌, ◌^◌, ◌<◌, ◌≤◌, ◌==◌, nat_lt, nat_le, if◌then◌else◌, List, map, Option, None, slice_index_or}
use Rattle.std.specs.List.{position_from}
use Rattle.std.specs.Option.{option_map_or, option_or}
use Rattle.hfs_fields.specs.declared.key.ExtKey.{ExtKey}
use Rattle.hfs_space.specs.Extents.{Overflow, block_total, record_extents}
use Rattle.hfs_catalog.specs.Indexes.{Numbered, number_of, only_if}
use Rattle.hfs_remains.specs.OverflowRecords.{has_key}

-- how many blocks a record has
abbrev pub own_blocks : ExtKey × List ℕ → ℕ
own_blocks r = block_total (record_extents r.1)

-- the place of the first record of a fork from this block of it on, whose number has two bytes
unfoldable pub record_place : Overflow → ℕ → ℕ → ℕ → Option ℕ
record_place records file fork block = if nat_lt block 65536 then position_from (has_key file fork block) 0 records else None

-- the place of the record that goes on where this one ends, where this one has a block
abbrev pub next_place : Overflow → ExtKey × List ℕ → Option ℕ
next_place records r = if own_blocks r == 0 then None else record_place records r.0.file r.0.fork (r.0.block + own_blocks r)

-- for each record how many blocks it has, and the place of the next
unfoldable pub owns_of : Overflow → List ℕ
owns_of records = map own_blocks records

unfoldable pub nexts_of : Overflow → List (Option ℕ)
nexts_of records = map (next_place records) records

-- a number, or 0 where there is none
abbrev pub number_at : List ℕ → ℕ → ℕ
number_at numbers i = slice_index_or numbers i 0

-- how many blocks so many records have together, each the next of the one before it
unfoldable pub blocks_in : List ℕ → List (Option ℕ) → ℕ → ℕ → ℕ
blocks_in owns nexts zero i = 0
blocks_in owns nexts (suc k) i = number_at owns i + option_map_or (blocks_in owns nexts k) (slice_index_or nexts i None) 0

-- ---- what is kept of the records

-- a number for a file, a fork and a block of it
abbrev pub code : ℕ → ℕ → ℕ → ℕ
code file fork block = (file * 256 + fork) * 65536 + block

-- by its numbers the first record of a fork from a block on is found
abbrev pub KnowsRecords : Numbered → Overflow → Type 0
KnowsRecords places records = (file fork block : ℕ) → fork < 256 → block < 65536 → number_of places (code file fork block) ≡ position_from (has_key file fork block) 0 records

-- the record is found by its numbers, where none was
abbrev pub NotesRecord : ℕ → ExtKey × List ℕ → Numbered → Numbered → Type 0
NotesRecord i r old new =
    (file fork block : ℕ) → fork < 256 → block < 65536
    → number_of new (code file fork block) ≡ option_or (number_of old (code file fork block)) (only_if (has_key file fork block r) i)

-- the numbers are those of blocks in so many records
abbrev pub SumBy : ℕ → List ℕ → List (Option ℕ) → List ℕ → Type 0
SumBy k owns nexts sums = (i : ℕ) → number_at sums i ≡ blocks_in owns nexts k i

-- no number is above this one
abbrev pub AreBelow : ℕ → List ℕ → Type 0
AreBelow most sums = (i : ℕ) → number_at sums i ≤ most

-- the number at a place and that at the place to which it leads together
abbrev pub summed : List ℕ → List (Option ℕ) → ℕ → ℕ
summed sums jumps i = number_at sums i + option_map_or (number_at sums) (slice_index_or jumps i None) 0

-- no more than are needed
abbrev pub at_most : ℕ → ℕ → ℕ
at_most wanted n = if nat_le wanted n then wanted else n

-- places and sums are those of the records
pub record AreChains (records : Overflow) (places : Numbered) (sums : List ℕ) : Type 0 where
  pub places_are : KnowsRecords places records
  pub sums_are : SumBy (2 ^ 16) (owns_of records) (nexts_of records) sums
  pub sums_fit : AreBelow (2 ^ 34) sums
