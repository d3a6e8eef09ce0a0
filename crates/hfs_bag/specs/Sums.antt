-- How much a bag holds.
use Rattle.std.specs.Prelude.{◌≡◌, ◌+◌, List, length}
use Rattle.hfs_bag.specs.declared.sums.BagSums.{BagSums}
use Rattle.hfs_bag.specs.Items.{BagItem}
use Rattle.hfs_bag.specs.Bags.{bytes_in, file_items, payload}

-- so many of these items have a file with their data fork, and so many have none; so many bytes has their payload
pub record IsSumOf (sums : BagSums) (items : List BagItem) : Type 0 where
  pub files_are : sums.files ≡ file_items items
  pub all_are : sums.files + sums.folders ≡ length items
  pub bytes_are : sums.bytes ≡ bytes_in (payload items)
