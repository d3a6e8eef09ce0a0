-- How many own each allocation block.
use Rattle.std.specs.Prelude.{◌≡◌, ℕ, ◌<◌, Bool, false, nat_le, List, ◌++◌, count_by, length, min, slice_index_or, Option, None, Some}
use Rattle.std.specs.Option.{option_map_or}
use Rattle.hfs_remains.specs.TreeFiles.{FileBlocks}
use Rattle.hfs_remains.specs.CatalogRecords.{is_block}

-- how many of these places are this block, or two where more are
abbrev pub owners : FileBlocks → ℕ → ℕ
owners used b = min 2 (count_by (is_block b) used)

-- a block that is there is two of these places or more
abbrev pub is_shared : FileBlocks → Option ℕ → Bool
is_shared used place = option_map_or (λ b. nat_le 2 (owners used b)) place false

-- ---- numbers that are kept

abbrev pub count_at : List ℕ → ℕ → ℕ
count_at counts b = slice_index_or counts b 0

abbrev pub is_counted_shared : List ℕ → Option ℕ → Bool
is_counted_shared counts place = option_map_or (λ b. nat_le 2 (count_at counts b)) place false

-- each block that is there is one of the first so many
abbrev pub AreWithin : ℕ → FileBlocks → Type 0
AreWithin n places = (i b : ℕ) → slice_index_or places i None ≡ Some b → b < n

-- for each block the number is that of its owners
abbrev pub CountOwners : FileBlocks → List ℕ → Type 0
CountOwners used counts = (b : ℕ) → b < length counts → count_at counts b ≡ owners used b

-- what counted the owners by some places counts those by these as well
pub record AddsOwners (places : FileBlocks) (old new : List ℕ) : Type 0 where
  pub same : length new ≡ length old
  pub more : (used : FileBlocks) → CountOwners used old → CountOwners (used ++ places) new
