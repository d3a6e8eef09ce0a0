-- What holds of the bags of an image: of its items, and of what remains of it.
use Rattle.std.specs.Prelude.{◌≡◌, ℕ, ◌+◌, ◌-◌, ◌^◌, ◌<◌, ◌≤◌, ◌↔◌, IsTrue, List, length, map, min, Some}
use Rattle.hfs_bag.specs.declared.facts.BagFacts.{BagFacts}
use Rattle.hfs_bag.specs.Bags.{bytes_in, doubles_told, payload}
use Rattle.hfs_bag.specs.Items.{item_digests}
use Rattle.hfs_bag.specs.Laws.{AllDiffer, AreInside}
use Rattle.hfs_blocks.specs.Blocks.{block_at}
use Rattle.hfs_check.specs.Parts.{catalog_in, mdb_in}
use Rattle.hfs_check.specs.Sound.{IsSound}
use Rattle.hfs_fields.specs.declared.mdb.Mdb.{Mdb}
use Rattle.hfs_remains_forks.specs.Finds.{found_directory}
use Rattle.hfs_word_take.specs.Items.{bag_items, entries_in}
use Rattle.hfs_texts.specs.NameLaws.{is_bytes}
use Rattle.hfs_remains_places.specs.Laws.{AreWaysShort}
use Rattle.hfs_remains_forks.specs.Laws.{things_in}
use Rattle.hfs_remains.specs.Laws.{AreBytes}
use Rattle.hfs_rescue_items.specs.declared.found.Found.{Found}
use Rattle.hfs_rescue_items.specs.declared.sums.FoundSums.{FoundSums}
use Rattle.hfs_rescue_items.specs.Laws.{of_plan}
use Rattle.hfs_rescue_items.specs.Sums.{files_at, folders_at, whole_at}
use Rattle.hfs_fields.specs.Members.{In}
use Rattle.hfs_bag.specs.Entries.{ShelfEntry}
use Rattle.hfs_space.specs.Extents.{block_total}
use Rattle.hfs_word_take.specs.Bags.{image_bag}
use Rattle.hfs_word_rescue.specs.Answers.{found_sums}
use Rattle.hfs_word_rescue.specs.Bags.{rescued_bag, rescued_items}
use Rattle.hfs_word_rescue.specs.Found.{IsFoundOf}

-- of a sound image of bytes no path leads out of the bag of its items, and all differ, also without regard to the case of ASCII letters, those of the tag files too
abbrev pub TakenPathsAreLawful : Type 0
TakenPathsAreLawful =
    (image : List ℕ) (facts : BagFacts) → IsTrue (is_bytes image) → IsSound image → AreInside (image_bag image facts) × AllDiffer (image_bag image facts)

-- of any image of bytes no path leads out of the bag, and all differ, also without regard to the case of ASCII letters, those of the tag files too
abbrev pub RescuedPathsAreLawful : Type 0
RescuedPathsAreLawful =
    (image : List ℕ) (limit : ℕ) (found : Found) (facts : BagFacts) → IsTrue (is_bytes image) → IsFoundOf image limit found
    → AreInside (rescued_bag image found facts) × AllDiffer (rescued_bag image found facts)

-- of a sound image of bytes whose folders' host paths take at most 800 bytes, and whose catalog file has a block in the directory's own extents of it, the
-- payload has the same folders and files, with the same paths and bytes, as that of its volume, where as many bytes of forks may be taken as it has
abbrev pub SoundPayloadsAreVolumes : Type 0
SoundPayloadsAreVolumes =
    (image : List ℕ) (limit : ℕ) (found : Found) → IsTrue (is_bytes image) → IsSound image → 0 < block_total (mdb_in (block_at image)).catalog_file → length image ≤ limit
    → IsFoundOf image limit found → AreWaysShort (things_in (catalog_in (block_at image)))
    → (entry : ShelfEntry) → In entry (payload (rescued_items image found)) ↔ In entry (payload (bag_items (entries_in image)))

-- ---- what is given, and what is found

-- as many files, folders and whole files are reported as the plan of the bag has, an AppleDouble file is there for each of the files and folders, and as many
-- bytes are reported as its payload has, as far as a number of 64 bits holds them
pub record AreSumsOfBag (image : List ℕ) (found : Found) (sums : FoundSums) : Type 0 where
  pub files_are : sums.files ≡ of_plan found (files_at found)
  pub folders_are : sums.folders ≡ of_plan found (folders_at found)
  pub whole_are : sums.whole ≡ of_plan found (whole_at found)
  pub doubles_are : doubles_told (map item_digests (rescued_items image found)) ≡ sums.files + sums.folders
  pub bytes_are : sums.bytes ≡ min (bytes_in (payload (rescued_items image found))) (2 ^ 64 - 1)

-- what is said about an image of bytes is in its bag
abbrev pub SumsAreOfBags : Type 0
SumsAreOfBags =
    (image : List ℕ) (limit : ℕ) (found : Found) → IsTrue (is_bytes image) → IsFoundOf image limit found → AreSumsOfBag image found (found_sums found)

-- something is found of each image of bytes that has a directory, so what holds of all that is found is said about something
abbrev pub RemainsAreFound : Type 0
RemainsAreFound = (image : List ℕ) (limit : ℕ) (mdb : Mdb) → AreBytes image → found_directory image ≡ Some mdb → (found : Found) × IsFoundOf image limit found
