-- A bag that got its place.
use Rattle.std.specs.Prelude.{◌≡◌, ℕ, List, Option}
use Rattle.hfs_bag.specs.Entries.{ShelfEntry}
use Rattle.hfs_bag.specs.Removals.{HasOpenedFolder, IsPlaced}
use Rattle.hfs_bag.specs.ShelfPlaces.{others_in}
use Rattle.hfs_bag.specs.SystemSteps.{SystemStep}
use Rattle.hfs_source.specs.Seen.{EachKnown}
use Rattle.hfs_word_rescue.specs.declared.words.BagWords.{BagWords}
use Rattle.hfs_word_rescue.specs.Bags.{OfKnownBag}

-- after the old steps a folder was made under the first of its names that was free, exactly the bag of each of these images, which have so many bytes,
-- was made in it, and the last step gave it its place; nothing else was made, opened, moved or removed since
pub record IsBagPlaced (Holds : List ℕ → Type 0) (len : ℕ) (line : Option (List ℕ)) (words : BagWords) (old steps : List SystemStep) : Type 0 where
  pub folder : List ℕ
  pub opened : List SystemStep
  pub is_new : HasOpenedFolder words.folder.now folder old opened
  pub entries : List ShelfEntry
  pub placed : IsPlaced words.folder.now folder entries (others_in folder opened) steps
  pub bag_is : EachKnown Holds (λ known. OfKnownBag known len line words (λ bag. entries ≡ bag))
