-- Where blocks stand in a row, by their numbers, as rows of sixteen places show it.
use Rattle.std.specs.Prelude.{◌≡◌, ℕ, ◌+◌, ◌-◌, ◌/◌, ◌%◌, ◌<◌, ◌≤◌, List, [], IsSome, unwrap_or, slice_index}
use Rattle.hfs_blocks.specs.Layers.{Numbered, changes}

-- the row of this number; no places where there is none
abbrev pub row_of : Numbered → ℕ → List ℕ
row_of rows k = unwrap_or (changes rows k) []

-- the place of block n, counted from 1; 0 where it has none
unfoldable pub place_in : Numbered → ℕ → ℕ
place_in rows n = slice_index (row_of rows (n / 16)) (n % 16)

-- there is a row for block n
unfoldable pub HasRow : Numbered → ℕ → Type 0
HasRow rows n = IsSome (changes rows (n / 16))

-- each block has the place that it had
abbrev pub HaveSamePlaces : Numbered → Numbered → Type 0
HaveSamePlaces old new = (n : ℕ) → place_in new n ≡ place_in old n

-- there is a row where there was one
abbrev pub KeepsRows : Numbered → Numbered → Type 0
KeepsRows old new = (n : ℕ) → HasRow old n → HasRow new n

-- there are rows for the blocks from `first` up to `end`
abbrev pub HaveRows : Numbered → ℕ → ℕ → Type 0
HaveRows rows first end = (n : ℕ) → first ≤ n → n < end → HasRow rows n

-- none of the blocks from `first` up to `end` has a place
abbrev pub HaveNone : Numbered → ℕ → ℕ → Type 0
HaveNone rows first end = (n : ℕ) → first ≤ n → n < end → place_in rows n ≡ 0

-- of a row, `count` places from `from` on follow one another from `place` on, and the others are as they were
pub record AreSet (from count place : ℕ) (old new : List ℕ) : Type 0 where
  pub set : (k : ℕ) → from ≤ k → k < from + count → slice_index new k ≡ place + (k - from)
  pub before : (k : ℕ) → k < from → slice_index new k ≡ slice_index old k
  pub behind : (k : ℕ) → from + count ≤ k → slice_index new k ≡ slice_index old k

-- `count` blocks from `first` on have places that follow one another from `place` on, and the others those that they had
pub record ArePlaced (first count place : ℕ) (old new : Numbered) : Type 0 where
  pub set : (n : ℕ) → first ≤ n → n < first + count → place_in new n ≡ place + (n - first)
  pub before : (n : ℕ) → n < first → place_in new n ≡ place_in old n
  pub behind : (n : ℕ) → first + count ≤ n → place_in new n ≡ place_in old n
