-- What a bag tells of an image before its items are read.
use Rattle.std.specs.Prelude.{◌≡◌, ℕ, Bool, List, string_bytes}
use Rattle.hfs_word_take.specs.declared.giving.Told.{Told}
use Rattle.hfs_word_take.specs.declared.words.TakeWords.{TakeWords}
use Rattle.hfs_word_take.specs.Bags.{digest_told, report_text}
use Rattle.hfs_word_take.specs.Facts.{image_name}

-- this is told of the image; its name is that of its path, and its digest is told where it was made
pub record IsToldOf (words : TakeWords) (is_made : Bool) (told : Told) (image : List ℕ) : Type 0 where
  pub name_is : string_bytes told.name ≡ image_name words.image.now
  pub report_is : string_bytes told.report ≡ report_text image
  pub digest_is : told.digest ≡ digest_told is_made image
