-- How much remains.
use Rattle.std.specs.Prelude.{◌≡◌, ℕ, ◌+◌, ◌-◌, ◌^◌, ◌≤◌, ◌==◌, ◌&&◌, false, if◌then◌else◌, List, length, map, min, Option, Some, None}
use Rattle.std.specs.List.{position_from, range_with_len, sum}
use Rattle.std.specs.Option.{option_map_or}
use Rattle.hfs_remains_places.specs.Paths.{is_root}
use Rattle.hfs_remains_forks.specs.declared.shares.FileShares.{FileShares}
use Rattle.hfs_remains_forks.specs.declared.shares.Share.{Share}
use Rattle.hfs_remains_forks.specs.declared.trees.Trees.{Trees}
use Rattle.hfs_remains_forks.specs.Forks.{fork_length}
use Rattle.hfs_remains_forks.specs.Records.{thing_of}
use Rattle.hfs_remains_forks.specs.Verdicts.{shares_at, verdicts_at}
use Rattle.hfs_remains.specs.declared.catalog.FoundRecord.{FoundRecord}
use Rattle.hfs_remains_places.specs.declared.verdict.Verdict.{Verdict}
use Rattle.hfs_remains_places.specs.Verdicts.{is_whole}
use Rattle.hfs_rescue_items.specs.declared.found.Found.{Found}
use Rattle.hfs_rescue_items.specs.declared.sums.FoundSums.{FoundSums}

-- ---- what an item counts

-- a file counts as one, a folder as none
abbrev pub file_number : Option FileShares → ℕ
file_number None = 0
file_number (Some file) = 1

-- and the other way round
abbrev pub folder_number : Option FileShares → ℕ
folder_number None = 1
folder_number (Some file) = 0

-- how many bytes are taken of a fork
abbrev pub taken_len : Trees → Share → ℕ
taken_len t share = if share.taken then fork_length t.overflow.now t.mdb.now share.fork else 0

-- the bytes of its files: the 82 of an AppleDouble file before the resource fork, and both forks
abbrev pub byte_number : Trees → Option FileShares → ℕ
byte_number t None = 82
byte_number t (Some file) = 82 + (taken_len t file.«data» + taken_len t file.resource)

-- a file counts whose forks are both whole
abbrev pub whole_number : Option (Verdict × Verdict) → ℕ
whole_number None = 0
whole_number (Some forks) = if is_whole forks.0 && is_whole forks.1 then 1 else 0

-- ---- all items

-- the place of the root
abbrev pub root_of : List FoundRecord → Option ℕ
root_of items = position_from (λ item. is_root (thing_of item)) 0 items

-- the root counts nothing
abbrev pub unless_root : List FoundRecord → ℕ → ℕ → ℕ
unless_root items i number = if option_map_or (λ root. root == i) (root_of items) false then 0 else number

-- the numbers of the first items together, and those of all
abbrev pub of_first : Found → (ℕ → ℕ) → ℕ → ℕ
of_first found number n = sum (map (λ i. unless_root found.items.now i (number i)) (range_with_len 0 n))

abbrev pub of_all : Found → (ℕ → ℕ) → ℕ
of_all found number = of_first found number (length found.items.now)

-- what is counted of item i, the root or not
abbrev pub files_at : Found → ℕ → ℕ
files_at found i = file_number (shares_at found.salvage.now i)

abbrev pub folders_at : Found → ℕ → ℕ
folders_at found i = folder_number (shares_at found.salvage.now i)

abbrev pub bytes_at : Found → ℕ → ℕ
bytes_at found i = byte_number found.salvage.now.trees (shares_at found.salvage.now i)

abbrev pub whole_at : Found → ℕ → ℕ
whole_at found i = whole_number (verdicts_at found.salvage.now i)

-- ---- the sums

-- so many of each are counted; no more bytes are than a number of 64 bits holds
pub record AreSums (found : Found) (sums : FoundSums) : Type 0 where
  pub files_are : sums.files ≡ of_all found (files_at found)
  pub folders_are : sums.folders ≡ of_all found (folders_at found)
  pub bytes_are : sums.bytes ≡ min (of_all found (bytes_at found)) (2 ^ 64 - 1)
  pub whole_are : sums.whole ≡ of_all found (whole_at found)

-- ---- on the way

-- an item counts this
pub record Counts (found : Found) (i : ℕ) (sums : FoundSums) : Type 0 where
  pub files_are : sums.files ≡ files_at found i
  pub folders_are : sums.folders ≡ folders_at found i
  pub bytes_are : sums.bytes ≡ bytes_at found i
  pub whole_are : sums.whole ≡ whole_at found i

-- and nothing where it is the root
pub record CountsAt (found : Found) (i : ℕ) (sums : FoundSums) : Type 0 where
  pub files_are : sums.files ≡ unless_root found.items.now i (files_at found i)
  pub folders_are : sums.folders ≡ unless_root found.items.now i (folders_at found i)
  pub bytes_are : sums.bytes ≡ unless_root found.items.now i (bytes_at found i)
  pub whole_are : sums.whole ≡ unless_root found.items.now i (whole_at found i)
  pub few_files : sums.files ≤ 1
  pub few_folders : sums.folders ≤ 1
  pub few_whole : sums.whole ≤ 1
