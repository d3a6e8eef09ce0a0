-- Blocks of 512 bytes, and files that lie in runs of them.
use Rattle.std.specs.Prelude.{◌≡◌, ℕ, ◌+◌, ◌*◌, ◌/◌, ◌<◌, ◌≤◌, ◌^◌, List, length, map, take, drop, slice_index, slice_index_or}
use Rattle.std.specs.List.{All, flat_map, range_with_len, sum_by}
use Rattle.std.proofs.Common.{arith, length-drop, length-take}
use Rattle.hfs_blocks.specs.declared.run.Run.{Run}

-- the bytes of block n
abbrev pub block_at : List ℕ → ℕ → List ℕ
block_at bytes n = take 512 (drop (512 * n) bytes)

-- how many whole blocks there are
abbrev pub block_count : List ℕ → ℕ
block_count bytes = length bytes / 512

pub length-block_at : (bytes : List ℕ) (n : ℕ) → n < block_count bytes → length (block_at bytes n) ≡ 512
length-block_at bytes n within = omega (arith, length-take 512 (drop (512 * n) bytes), length-drop (512 * n) bytes)

pub few-block_count : (bytes : List ℕ) → length bytes ≤ 2 ^ 32 → block_count bytes < 2 ^ 32
few-block_count bytes limit = omega arith

-- the numbers of a run's blocks
abbrev pub run_of : Run → List ℕ
run_of run = range_with_len run.first run.count

-- the nodes of a file that lies in these runs, one after the other
unfoldable pub nodes_in : (ℕ → List ℕ) → List Run → List (List ℕ)
nodes_in blocks runs = map blocks (flat_map run_of runs)

-- how many nodes the runs have together
abbrev pub total_of : List Run → ℕ
total_of runs = sum_by (λ run. run.count) runs

-- each run tells how many blocks the runs before it have
abbrev pub AreCounted : List Run → Type 0
AreCounted runs = (i : ℕ) (none : Run) → i < length runs → (slice_index_or runs i none).before ≡ total_of (take i runs)

-- the runs lie among so many blocks, have fewer than 2^32 nodes together, and tell how many come before each
pub record AreRunsWithin (runs : List Run) (total : ℕ) : Type 0 where
  pub within : All (λ run. run.first + run.count ≤ total) runs
  pub few : total_of runs < 2 ^ 32
  pub counted : AreCounted runs

-- the node with this number in its file comes before the end of this run
abbrev pub IsBeforeEnd : ℕ → Run → Type 0
IsBeforeEnd n run = n < run.before + run.count

-- the blocks of a run are the file's from its node n on
abbrev pub IsRestAt : List Run → ℕ → Run → Type 0
IsRestAt runs n rest = (i : ℕ) → i < rest.count → slice_index (flat_map run_of runs) (n + i) ≡ rest.first + i
