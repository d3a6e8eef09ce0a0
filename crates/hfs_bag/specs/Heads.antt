-- The first bytes of an image, by which its volumes are found.
use Rattle.std.specs.Prelude.{◌≡◌, ℕ, ◌-◌, ◌≤◌, List, ◌++◌, length, take, replicate}
use Rattle.hfs_fields.specs.Numbers.{number_at}
use Rattle.hfs_fields.specs.Mdb.{bytes_at}

-- these bytes, and zeros behind them, so many together
unfoldable pub with_zeros : ℕ → List ℕ → List ℕ
with_zeros len head = head ++ replicate (len - length head) 0

-- these are the first 131,072 bytes of an image, or all of a shorter one
abbrev pub IsHeadOf : List ℕ → List ℕ → Type 0
IsHeadOf head file = head ≡ take 131072 file

-- the length of a second header of MacBinary is told by two bytes
abbrev pub HasSmallHeader : List ℕ → Type 0
HasSmallHeader head = 128 ≤ length head → number_at 120 2 (bytes_at 0 128 head) ≤ 65535
