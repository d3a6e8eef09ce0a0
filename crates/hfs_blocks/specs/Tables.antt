-- Blocks in a row with their numbers, and where each of them stands.
use Rattle.std.specs.Prelude.{◌≡◌, ◌≢◌, ℕ, suc, ◌+◌, ◌-◌, ◌<◌, ◌≤◌, List, [], length, Vec, vec_len, vec_capacity, Some, None, slice_index, slice_index_or, zip}
use Rattle.std.specs.declared.alloc.Global.{Global}
use Rattle.hfs_blocks.specs.Layers.{Numbered, Changes, changes}
use Rattle.hfs_blocks.specs.Places.{place_in, HasRow}

-- each block has 512 bytes
abbrev pub AreBlocks : List (List ℕ) → Type 0
AreBlocks blocks = (i : ℕ) → i < length blocks → length (slice_index_or blocks i []) ≡ 512

-- each number stands in the row once, with a block of 512 bytes, and has its place there
pub record IsTable (numbers : List ℕ) (blocks : List (List ℕ)) (rows : Numbered) : Type 0 where
  pub len : length blocks ≡ length numbers
  pub placed : (n i : ℕ) → place_in rows n ≡ suc i → (i < length numbers) × (slice_index numbers i ≡ n)
  pub stands : (i : ℕ) → i < length numbers → place_in rows (slice_index numbers i) ≡ suc i
  pub whole : AreBlocks blocks

-- each number that has a place stands there, and each stands where its place is
abbrev pub HasPlaces : List ℕ → Numbered → Type 0
HasPlaces numbers rows =
    ((n i : ℕ) → place_in rows n ≡ suc i → (i < length numbers) × (slice_index numbers i ≡ n)) × ((i : ℕ) → i < length numbers → place_in rows (slice_index numbers i) ≡ suc i)

-- the number stands at this place, counted from 1, or nowhere where it is 0
pub record IsPlaceAmong (numbers : List ℕ) (n place : ℕ) : Type 0 where
  pub there : 0 < place → (place - 1 < length numbers) × (slice_index numbers (place - 1) ≡ n)
  pub nowhere : place ≡ 0 → (i : ℕ) → i < length numbers → slice_index numbers i ≢ n

-- there is room for `count` more
pub record HaveRoom (numbers : Vec ℕ Global) (blocks : Vec (List ℕ) Global) (count : ℕ) : Type 0 where
  pub numbers_fit : vec_len numbers + count ≤ vec_capacity numbers
  pub blocks_fit : vec_len blocks + count ≤ vec_capacity blocks
  pub few : vec_len numbers + count < 4294967295

-- of the room at most that for `count` is used
abbrev pub UsesRoom : Vec ℕ Global → Vec (List ℕ) Global → ℕ → Vec ℕ Global → Vec (List ℕ) Global → Type 0
UsesRoom numbers blocks count new_numbers new_blocks = (more : ℕ) → HaveRoom numbers blocks (count + more) → HaveRoom new_numbers new_blocks more

-- behind the numbers there are, `count` came that follow one another from `first` on
pub record HasNumbers (first count : ℕ) (old new : List ℕ) : Type 0 where
  pub len : length new ≡ length old + count
  pub old_stay : (i : ℕ) → i < length old → slice_index new i ≡ slice_index old i
  pub came : (i : ℕ) → i < count → slice_index new (length old + i) ≡ first + i

-- the first `count` blocks of a run are those from `first` on, and the others are as they were
pub record HasLaid (first count : ℕ) (run : List (List ℕ)) (old new : Changes) : Type 0 where
  pub laid : (i : ℕ) → i < count → new (first + i) ≡ Some (slice_index_or run i [])
  pub before : (n : ℕ) → n < first → new n ≡ old n
  pub behind : (n : ℕ) → first + count ≤ n → new n ≡ old n

-- none of `count` blocks from `first` on is there
abbrev pub HasNoneOf : ℕ → ℕ → Changes → Type 0
HasNoneOf first count changes = (n : ℕ) → first ≤ n → n < first + count → changes n ≡ None

-- `count` numbers from place `at` on follow one another
abbrev pub FollowFrom : List ℕ → ℕ → ℕ → Type 0
FollowFrom numbers at count = (i : ℕ) → i < count → slice_index numbers (at + i) ≡ slice_index numbers at + i

-- there is a row for each of the numbers
abbrev pub HaveRowsFor : List ℕ → Numbered → Type 0
HaveRowsFor numbers rows = (i : ℕ) → i < length numbers → HasRow rows (slice_index numbers i)

-- the blocks of these numbers, each of which stands once, have 512 bytes each
pub record AreBlocksOf (numbers : List ℕ) (blocks : List (List ℕ)) : Type 0 where
  pub len : length blocks ≡ length numbers
  pub are : (i : ℕ) → i < length numbers → changes (zip numbers blocks) (slice_index numbers i) ≡ Some (slice_index_or blocks i [])
  pub whole : AreBlocks blocks
