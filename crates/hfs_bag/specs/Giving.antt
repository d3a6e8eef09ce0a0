-- Items that go to a shelf one behind another.
use Rattle.std.specs.Prelude.{◌≡◌, ℕ, ◌+◌, List, ◌∷◌, ◌++◌, map}
use Rattle.hfs_bag.specs.Entries.{ShelfEntry, with_piece}
use Rattle.hfs_bag.specs.declared.item.ItemDigests.{ItemDigests}
use Rattle.hfs_bag.specs.Items.{BagItem, item_digests, item_entries}
use Rattle.hfs_bag.specs.Sources.{SourceState}
use Rattle.hfs_bag.specs.Bags.{bytes_in, items_entries, manifest}
use Rattle.hfs_bag.specs.Filling.{HoldsMore}

-- some of the items that were to come were given, with these digests and so many bytes
pub record HasGiven (given_old given_new : List ShelfEntry) (old new : SourceState) (digests_old digests_new : List ItemDigests) (bytes_old bytes_new : ℕ) : Type 0 where
  pub all : new.all ≡ old.all
  pub tables : new.tables ≡ old.tables
  pub items : List BagItem
  pub left : old.left ≡ items ++ new.left
  pub given : given_new ≡ given_old ++ items_entries items
  pub digests : digests_new ≡ digests_old ++ map item_digests items
  pub bytes : bytes_new ≡ bytes_old + bytes_in (items_entries items)

-- the item that comes next has these digests
pub record IsNextOf (told : ItemDigests) (left : List BagItem) : Type 0 where
  pub item : BagItem
  pub behind : List BagItem
  pub left_is : left ≡ item ∷ behind
  pub told_is : told ≡ item_digests item

-- the lines of the next item went to the shelf and to the digest
pub record HasListed (given_old given_new : List ShelfEntry) (old new : SourceState) (Held Holds : List ℕ → Type 0) : Type 0 where
  pub all : new.all ≡ old.all
  pub tables : new.tables ≡ old.tables
  pub item : BagItem
  pub left : old.left ≡ item ∷ new.left
  pub given : given_new ≡ with_piece given_old (manifest (item_entries item))
  pub digest : HoldsMore Held Holds (manifest (item_entries item))
