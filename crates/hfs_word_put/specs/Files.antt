-- What a file is to hold in which something was put on a volume.
use Rattle.std.specs.Prelude.{◌≡◌, ℕ, List, Option}
use Rattle.hfs_blocks.specs.Blocks.{block_at}
use Rattle.hfs_check.specs.Parts.{mdb_in}
use Rattle.hfs_source.specs.Ranges.{bytes_in, range_of}
use Rattle.hfs_volume.specs.declared.in_file.ImagePlace.{ImagePlace}
use Rattle.hfs_volume.specs.InFile.{LiesIn}
use Rattle.hfs_put.specs.Arrivals.{arrivals_of}
use Rattle.hfs_put.specs.PutFiles.{IsFilePut, IsSumBefore, put_file}
use Rattle.hfs_put.specs.declared.putting.PutBlocks.{PutBlocks}
use Rattle.hfs_source.specs.Images.{IsRangeOf}
use Rattle.hfs_put_sources.specs.Items.{PlannedItem}
use Rattle.hfs_put_sources.specs.Trees.{Tree}
use Rattle.hfs_word_put.specs.declared.lines.PutSums.{PutSums}
use Rattle.hfs_word_put.specs.declared.order.PutOrder.{PutOrder}
use Rattle.hfs_word_put.specs.declared.putting.PutImage.{PutImage}
use Rattle.hfs_word_put.specs.Put.{IsPutFrom}

-- the volume's image lies so in the file
abbrev pub place_of : ℕ → ℕ → Option ℕ → ImagePlace
place_of start len sum_at = record { range = range_of start len; sum_at = sum_at }

-- What comes was put on a copy of the volume's image, which lies in the file so: of each file that has the bytes which were read, and of each host tree
-- that has what was read.
pub record IsPutInFile (Files : List ℕ → Type 0) (Hosts : Tree → Type 0) (order : PutOrder) (place : ImagePlace) (items : List PlannedItem) (put : PutBlocks) (sums : PutSums) : Type 0 where
  pub from : IsPutFrom (IsRangeOf Files place.range.start place.range.len) Hosts order place.range.len items put sums
  -- With these blocks in the place of the image's, and the bytes of forks of a tree in their runs, each such file in which the image lies, and its sum
  -- before it, holds there what the File Manager makes of the image's volume by the list. Every other byte stays but for the sum's.
  pub holds : (file : List ℕ) (host : Tree) → Files file → LiesIn place.range file → IsSumBefore place.sum_at place.range.start
      → IsFilePut from.done.done.list.target order.now (arrivals_of host items from.done.done.list.places.items) put.ids.items
      from.done.done.over.written place file
      (put_file place put.patch host items put.runs.items file)
  -- as many allocation blocks are free there as are told
  pub free : (file : List ℕ) (host : Tree) → Files file → LiesIn place.range file → IsSumBefore place.sum_at place.range.start
      → (mdb_in (block_at (bytes_in place.range (put_file place put.patch host items put.runs.items file)))).free_blocks ≡ sums.free

-- The file is to hold these blocks in the place of the image's, and the bytes of forks of what comes in their runs.
pub record IsPutFile {S H W : Type 0} (Files : S → List ℕ → Type 0) (Hosts : H → Tree → Type 0) (order : PutOrder) (len : ℕ) (sum_at : Option ℕ) (made : PutImage S H W) : Type 0 where
  pub put : PutBlocks
  pub is : IsPutInFile (Files made.contents.file.forks.bytes) (Hosts made.contents.file.forks.files) order (place_of made.contents.file.forks.start len sum_at)
      made.contents.file.forks.items.items put made.sums
  pub patch : made.contents.patch ≡ put.patch
  pub runs : made.contents.file.forks.runs ≡ put.runs
  pub place : made.contents.place ≡ place_of made.contents.file.forks.start len sum_at
