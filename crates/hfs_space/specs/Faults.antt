-- The first place at which a check of extents or of space fails.
use Rattle.std.specs.Prelude.{ℕ, ◌+◌, ◌*◌, Bool, ◌&&◌, ◌||◌, ◌==◌, nat_lt, nat_le, if◌then◌else◌, List, [], length, Option, Some, None, ◌≡◌}
use Rattle.std.specs.List.{list_all, range_with_len}
use Rattle.std.specs.Option.{option_or, option_map}
use Rattle.hfs_fields.specs.declared.mdb.Mdb.{Mdb}
use Rattle.hfs_fields.specs.declared.extent.Extent.{Extent}
use Rattle.hfs_fields.specs.declared.key.CatKey.{CatKey}
use Rattle.hfs_fields.specs.declared.key.ExtKey.{ExtKey}
use Rattle.hfs_btree.specs.Pairs.{Pairs}
use Rattle.hfs_fields.specs.First.{first_failing}
use Rattle.hfs_space.specs.Extents.{Overflow, block_total, record_extents, extent_blocks}
use Rattle.hfs_space.specs.Owners.{Fork, forks_of, all_forks, extents_in, is_bad_blocks, goes_on_with, is_block_sound, is_stray_block}
use Rattle.hfs_space.specs.Bitmap.{count_below, clear_count}
use Rattle.hfs_space.specs.TreeKeys.{overflow_of}

-- the extent's blocks are among the volume's first n
abbrev pub is_extent_within : ℕ → Extent → Bool
is_extent_within n e = (e.count == 0) || nat_le (e.first + e.count) n

abbrev pub are_extents_within : ℕ → List Extent → Bool
are_extents_within n extents = list_all (is_extent_within n) extents

-- the blocks of these extents have room for so many bytes
abbrev pub have_room : Mdb → List Extent → ℕ → Bool
have_room mdb extents bytes = nat_le bytes (block_total extents * mdb.allocation_block_size)

-- ---- the file of a tree

unfoldable pub is_tree_file : Mdb → List Extent → ℕ → Bool
is_tree_file mdb extents size = are_extents_within mdb.allocation_blocks extents && have_room mdb extents size && nat_le 512 size

-- ---- extents: the number of a record of the catalog, or after those of a record of the extents tree

unfoldable pub is_fork_right : Mdb → Overflow → Fork → Bool
is_fork_right mdb overflow f =
    are_extents_within mdb.allocation_blocks (extents_in overflow f) && have_room mdb (extents_in overflow f) f.len

abbrev pub are_forks_right : Mdb → Overflow → CatKey × List ℕ → Bool
are_forks_right mdb overflow r = list_all (is_fork_right mdb overflow) (forks_of r)

unfoldable pub is_overflow_right : Mdb → Overflow → List Fork → ExtKey × List ℕ → Bool
is_overflow_right mdb overflow forks r =
    nat_lt 0 (block_total (record_extents r.1))
    && (if is_bad_blocks r then are_extents_within mdb.allocation_blocks (record_extents r.1) else goes_on_with overflow forks r)

-- the first record of the catalog with a wrong fork
abbrev pub file_fault : Mdb → Overflow → Pairs CatKey → Option ℕ
file_fault mdb overflow catalog = first_failing (λ _ r. are_forks_right mdb overflow r) [] catalog

-- the first wrong record of the extents tree
abbrev pub overflow_fault : Mdb → Overflow → List Fork → Option ℕ
overflow_fault mdb overflow forks = first_failing (λ _ r. is_overflow_right mdb overflow forks r) [] overflow

unfoldable pub fork_fault : Mdb → Overflow → Pairs CatKey → Option ℕ
fork_fault mdb overflow catalog =
    option_or (file_fault mdb overflow catalog) (option_map (λ i. length catalog + i) (overflow_fault mdb overflow (all_forks mdb catalog)))

-- ---- space: a block, or for the count of clear bits the number of blocks

-- the first block that is owned twice, or owned and not marked
abbrev pub block_fault : (ℕ → List ℕ) → Mdb → List ℕ → Option ℕ
block_fault blocks mdb owned = first_failing (λ _ b. is_block_sound blocks mdb owned b) [] (range_with_len 0 mdb.allocation_blocks)

abbrev pub free_fault : (ℕ → List ℕ) → Mdb → Option ℕ
free_fault blocks mdb = if mdb.free_blocks == clear_count blocks mdb.bitmap_start mdb.allocation_blocks then None else Some mdb.allocation_blocks

-- of blocks that somebody owns, each as often as it is owned
unfoldable pub space_fault : (ℕ → List ℕ) → Mdb → List ℕ → Option ℕ
space_fault blocks mdb owned = option_or (block_fault blocks mdb owned) (free_fault blocks mdb)

-- how many blocks are marked that nobody owns
abbrev pub stray_count : (ℕ → List ℕ) → Mdb → List ℕ → ℕ
stray_count blocks mdb owned = count_below (is_stray_block blocks mdb owned) mdb.allocation_blocks

-- the extents lie in the volume, and their blocks have room for so many bytes
abbrev pub can_hold : Mdb → List Extent → ℕ → Bool
can_hold mdb extents bytes = are_extents_within mdb.allocation_blocks extents && have_room mdb extents bytes

-- the first place where space is wrong, and how many blocks are stray, where these extents are owned
abbrev pub space_fault_with : (ℕ → List ℕ) → Mdb → List Extent → Option ℕ
space_fault_with blocks mdb owned = space_fault blocks mdb (extent_blocks owned)

abbrev pub strays_with : (ℕ → List ℕ) → Mdb → List Extent → ℕ
strays_with blocks mdb owned = stray_count blocks mdb (extent_blocks owned)

-- it is the first fault of forks, where these are the nodes of the extents tree
abbrev pub IsForkFault : Mdb → List (List ℕ) → Pairs CatKey → Option ℕ → Type 0
IsForkFault mdb nodes catalog fault = fault ≡ fork_fault mdb (overflow_of nodes) catalog
