-- Which free allocation blocks are added to a fork. `used` says which blocks are in use; the volume has the first n.
use Rattle.std.specs.Prelude.{◌≡◌, ℕ, ◌+◌, ◌-◌, ◌<◌, ◌≤◌, Bool, false, true, not, ◌==◌, if◌then◌else◌, List, [], ◌∷◌, ◌++◌, length, Option, MatchOption, Result, MatchResult, IfOk}
use Rattle.std.proofs.Common.{Vec, Global}
use Rattle.std.specs.List.{All}
use Rattle.hfs_fields.specs.declared.extent.Extent.{Extent}
use Rattle.hfs_space.specs.Bitmap.{count_below}
use Rattle.hfs_space.specs.Extents.{extent_blocks, AreExtentsWithin}
use Rattle.hfs_space.specs.Owners.{owners}
use Rattle.hfs_space.specs.FreeRuns.{AreFreeRuns, is_taken}
use Rattle.hfs_space.specs.Pieces.{AreOfRuns}
use Rattle.hfs_space.specs.declared.choosing.Room.{Room}

-- from block `first` on, `count` blocks are free in a row: as many as there are, but no more than needed
pub record IsFreeRow (used : ℕ → Bool) (n first wanted count : ℕ) : Type 0 where
  pub few : count ≤ wanted
  pub within : 0 < count → first + count ≤ n
  pub free : (b : ℕ) → first ≤ b → b < first + count → used b ≡ false
  pub ends : count < wanted → first + count < n → used (first + count) ≡ true

-- the row of free blocks that begins at the block directly after a fork's last one; a fork without blocks has none
abbrev pub IsRowAfter : (ℕ → Bool) → ℕ → Option ℕ → ℕ → Extent → Type 0
IsRowAfter used n after wanted row = MatchOption after (row.count ≡ 0) (λ first. (row.first ≡ first) × IsFreeRow used n first wanted row.count)

-- k of the blocks that are free besides a row's
abbrev pub AreBeside : (ℕ → Bool) → ℕ → Extent → ℕ → List Extent → Type 0
AreBeside used n row k pieces = (runs : List Extent) × AreFreeRuns (is_taken used row) n runs × AreOfRuns runs k pieces

-- an extent, if it has a block
abbrev pub some_of : Extent → List Extent
some_of e = if e.count == 0 then [] else e ∷ []

-- the blocks that are added, in this order: first the row after the fork's last block, and then, where these are too few, as many as
-- are needed of the blocks that are free besides it
pub record AreChosen (used : ℕ → Bool) (n : ℕ) (after : Option ℕ) (wanted : ℕ) (pieces : List Extent) : Type 0 where
  pub row : Extent
  pub rest : List Extent
  pub is_row : IsRowAfter used n after wanted row
  pub enough : row.count ≡ wanted → rest ≡ []
  pub more : row.count < wanted → AreBeside used n row (wanted - row.count) rest
  pub parts : pieces ≡ some_of row ++ rest

-- extents in the volume whose blocks are free, each once, and as many as are needed
pub record AreFreeOnce (used : ℕ → Bool) (n wanted : ℕ) (pieces : List Extent) : Type 0 where
  pub some : All (λ e. 0 < e.count) pieces
  pub within : AreExtentsWithin n pieces
  pub once : (b : ℕ) → owners (extent_blocks pieces) b ≤ 1
  pub free : (b : ℕ) → 0 < owners (extent_blocks pieces) b → used b ≡ false
  pub enough : length (extent_blocks pieces) ≡ wanted

-- how many of the first n blocks are free
abbrev pub free_count : (ℕ → Bool) → ℕ → ℕ
free_count used n = count_below (λ b. not (used b)) n

-- fewer blocks are free than are needed, and both numbers are given
pub record IsRoom (used : ℕ → Bool) (n wanted : ℕ) (room : Room) : Type 0 where
  pub free : room.free ≡ free_count used n
  pub all : room.wanted ≡ wanted
  pub few : room.free < room.wanted

-- k of the blocks that are free besides a row's are those of one run
abbrev pub IsLowest : (ℕ → Bool) → ℕ → Extent → ℕ → Extent → Type 0
IsLowest used n row k run = AreBeside used n row k (run ∷ []) × (k ≤ free_count (is_taken used row) n) × (run.count ≡ k) × (0 < k)

-- k of the blocks that are free besides a row's; or how many are, where these are too few
abbrev pub GivesBeside : (ℕ → Bool) → ℕ → Extent → ℕ → Result (Vec Extent Global) ℕ → Type 0
GivesBeside used n row k answer =
    MatchResult answer
    (λ pieces. AreBeside used n row k pieces.items × (k ≤ free_count (is_taken used row) n))
    (λ free. (free ≡ free_count (is_taken used row) n) × (free < k))

-- the blocks that are added; or, exactly where there are too few, how many are free
abbrev pub GivesChoice : (ℕ → Bool) → ℕ → Option ℕ → ℕ → Result (Vec Extent Global) Room → Type 0
GivesChoice used n after wanted answer =
    MatchResult answer
    (λ pieces. AreChosen used n after wanted pieces.items × (wanted ≤ free_count used n))
    (IsRoom used n wanted)

-- blocks that are added are free, each once, and as many as are needed
abbrev pub GivesFreeOnce : (ℕ → Bool) → ℕ → ℕ → Result (Vec Extent Global) Room → Type 0
GivesFreeOnce used n wanted answer = IfOk answer (λ pieces. AreFreeOnce used n wanted pieces.items)
