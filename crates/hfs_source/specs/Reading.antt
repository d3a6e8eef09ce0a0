-- What is read of the user data of raw sectors.
use Rattle.std.specs.Prelude.{◌≡◌, ℕ, ◌+◌, ◌*◌, ◌<◌, ◌⊎◌, List}
use Rattle.hfs_source.specs.Sectors.{user_data_of}

-- these bytes are the user data of one of these files
abbrev pub IsDataOfOne : (List ℕ → Type 0) → List ℕ → Type 0
IsDataOfOne Holds part = (file : List ℕ) × Holds file × (part ≡ user_data_of file)

-- some of these bytes of user data are in the sector with this number, counted from 0
pub record IsInSector (n place count : ℕ) : Type 0 where
  pub before : n * 2048 < place + count
  pub behind : place < n * 2048 + 2048

-- a read of user data fails where that of a sector fails in which some of it is
abbrev pub FailsInSector : (ℕ → ℕ → Type 0) → ℕ → ℕ → Type 0
FailsInSector Fails place count = (n : ℕ) × IsInSector n place count × Fails (n * 2352) 2352

-- a read of no bytes at the beginning counts as failing where that of the sectors does: this tells what may fail anywhere from what never fails
abbrev pub FailsForNothing : (ℕ → ℕ → Type 0) → ℕ → ℕ → Type 0
FailsForNothing Fails place count = (place + count ≡ 0) × Fails 0 0

-- or where it leads past the end of the user data
abbrev pub FailsInData : (ℕ → ℕ → Type 0) → ℕ → ℕ → ℕ → Type 0
FailsInData Fails sectors place count = (sectors * 2048 < place + count) ⊎ FailsInSector Fails place count ⊎ FailsForNothing Fails place count
