-- The bytes of forks, and of the trees' files, in the logical blocks of a volume.
use Rattle.std.specs.Prelude.{ℕ, ◌+◌, ◌*◌, ◌/◌, ◌≤◌, List, take, drop, map, ◌-◌, ◌≡◌, ◌++◌, Result, OnOk}
use Rattle.std.specs.List.{flat_map, range_with_len}
use Rattle.std.proofs.Common.{Vec, Global}
use Rattle.hfs_fields.specs.declared.extent.Extent.{Extent}
use Rattle.hfs_fields.specs.declared.mdb.Mdb.{Mdb}
use Rattle.hfs_blocks.specs.declared.run.Run.{Run}
use Rattle.hfs_blocks.specs.Blocks.{nodes_in}

-- how many logical blocks an allocation block has
abbrev pub blocks_each : Mdb → ℕ
blocks_each mdb = mdb.allocation_block_size / 512

-- the logical blocks of an extent
abbrev pub run_in : Mdb → Extent → Run
run_in mdb e = record { first = mdb.allocation_start + e.first * blocks_each mdb; count = e.count * blocks_each mdb; before = 0 }

-- the allocation blocks are among the volume's logical blocks
abbrev pub HasArea : Mdb → ℕ → Type 0
HasArea mdb total = mdb.allocation_start + mdb.allocation_blocks * blocks_each mdb ≤ total

-- the logical blocks of a file with these extents, one after the other: in a tree's file, its nodes
abbrev pub file_blocks : (ℕ → List ℕ) → Mdb → List Extent → List (List ℕ)
file_blocks blocks mdb extents = nodes_in blocks (map (run_in mdb) extents)

-- the bytes of these blocks, one after the other
abbrev pub joined : List (List ℕ) → List ℕ
joined blocks = flat_map (λ b. b) blocks

-- the bytes of k blocks from number n on
abbrev pub run_bytes : (ℕ → List ℕ) → ℕ → ℕ → List ℕ
run_bytes blocks n k = joined (map blocks (range_with_len n k))

-- the bytes of an extent
abbrev pub extent_bytes : (ℕ → List ℕ) → Mdb → Extent → List ℕ
extent_bytes blocks mdb e = run_bytes blocks (mdb.allocation_start + e.first * blocks_each mdb) (e.count * blocks_each mdb)

-- the bytes of a fork with these extents and this logical length
unfoldable pub fork_bytes : (ℕ → List ℕ) → Mdb → List Extent → ℕ → List ℕ
fork_bytes blocks mdb extents len = take len (joined (file_blocks blocks mdb extents))

-- what is read of these bytes from an offset on: so many of them, or as many as there are
abbrev pub read_from : List ℕ → ℕ → ℕ → List ℕ
read_from bytes offset count = take count (drop offset bytes)

-- what is read of a fork with these extents and this logical length
abbrev pub read_of : (ℕ → List ℕ) → Mdb → List Extent → ℕ → ℕ → ℕ → List ℕ
read_of blocks mdb extents len offset count = read_from (fork_bytes blocks mdb extents len) offset count

-- bytes of a run of blocks: those from `from` up to `end`
abbrev pub run_part : (ℕ → List ℕ) → Run → ℕ → ℕ → List ℕ
run_part blocks run from end = take (end - from) (drop from (run_bytes blocks run.first run.count))

-- what succeeds adds, after the old bytes, `count` bytes of an extent from `from` on
abbrev pub Gains : {T E : Type 0} → Result T E → (ℕ → List ℕ) → Mdb → Extent → ℕ → ℕ → Vec ℕ Global → Vec ℕ Global → Type 0
Gains result blocks mdb e from count old new = OnOk result (new.items ≡ old.items ++ take count (drop from (extent_bytes blocks mdb e)))

-- after the old bytes, those of a run of blocks from `from` up to `end`
abbrev pub AddsPart : (ℕ → List ℕ) → Run → ℕ → ℕ → Vec ℕ Global → Vec ℕ Global → Type 0
AddsPart blocks run from end old new = new.items ≡ old.items ++ run_part blocks run from end

-- the bytes are what is read of a fork with these extents and this logical length
abbrev pub IsRead : (ℕ → List ℕ) → Mdb → List Extent → ℕ → ℕ → ℕ → Vec ℕ Global → Type 0
IsRead blocks mdb extents len offset count = λ bytes. bytes.items ≡ read_of blocks mdb extents len offset count
