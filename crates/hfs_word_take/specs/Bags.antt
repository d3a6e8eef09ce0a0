-- The bag of an image.
use Rattle.std.specs.Prelude.{◌≡◌, ℕ, Bool, true, false, List, [], ◌∷◌, ◌++◌, length, Option, Some, None}
use Rattle.std.specs.Borrow.{Bor}
use Rattle.std.specs.Option.{is_some, option_map}
use Rattle.sha2.specs.Sha256.{sha256}
use Rattle.hfs_bag.specs.declared.facts.BagFacts.{BagFacts}
use Rattle.hfs_bag.specs.Tags.{bag_of}
use Rattle.hfs_check.specs.Report.{report_of}
use Rattle.hfs_commands.specs.Checks.{check_lines}
use Rattle.hfs_word_take.specs.Items.{bag_items, entries_in, table_text}
use Rattle.hfs_items.specs.ToldRows.{ToldRow, told_rows}
use Rattle.hfs_texts.specs.PlainTexts.{plain_text}
use Rattle.hfs_image.specs.Known.{OfKnown}
use Rattle.hfs_bag.specs.Entries.{ShelfEntry}
use Rattle.hfs_texts.specs.Reading.{info_text}
use Rattle.hfs_word_take.specs.declared.words.TakeWords.{TakeWords}
use Rattle.hfs_word_take.specs.Facts.{image_name}

-- the name of the root, which has the first row
abbrev pub root_name : List ToldRow → List ℕ
root_name [] = []
root_name (row ∷ rows) = row.info.name

-- the lines of its master directory block, and those of its check
abbrev pub report_text : List ℕ → List ℕ
report_text image = info_text image ++ check_lines (report_of image)

-- its digest, where that is to be told
abbrev pub digest_told : Bool → List ℕ → Option (List ℕ)
digest_told true image = Some (sha256 image)
digest_told false image = None

-- a text that was lent, where there is one
abbrev pub text_in : Option (Bor (List ℕ)) → Option (List ℕ)
text_in text = option_map (λ (lent : Bor (List ℕ)). lent.now) text

-- a digest is told of an image exactly where one is asked for; it is the image's, if the image has the bytes which were read beside, or nothing was
pub record IsDigestBeside (Beside : List ℕ → Type 0) (is_digested : Bool) (image : List ℕ) (digest : Option (List ℕ)) : Type 0 where
  pub there : is_some digest ≡ is_digested
  pub is : Beside image → digest ≡ digest_told is_digested image

-- a bag tells this of an image with these bytes, for these words, and this digest; `line` is where the volume lies in its file, where it was looked for
-- there
pub record TellsOf (image : List ℕ) (line : Option (List ℕ)) (words : TakeWords) (digest : Option (List ℕ)) (facts : BagFacts) : Type 0 where
  pub identifier_is : facts.identifier.now ≡ plain_text (root_name (told_rows (entries_in image)))
  pub program_is : facts.program.now ≡ words.program.now
  pub image_is : facts.image.now ≡ image_name words.image.now
  pub volume_is : text_in facts.volume ≡ line
  pub directory_is : text_in facts.directory ≡ None
  pub bytes_are : facts.bytes ≡ length image
  pub digest_is : facts.digest ≡ digest
  pub report_is : facts.report.now ≡ report_text image

-- the bag of its volume's items, which tells this of it
abbrev pub image_bag : List ℕ → BagFacts → List ShelfEntry
image_bag image facts = bag_of (bag_items (entries_in image)) (record { items = table_text (told_rows (entries_in image)); remains = None }) facts

-- this holds of an image's bag, with a digest that may be told of it where such bytes were read beside
abbrev pub OfBag : Option (List ℕ) → TakeWords → (List ℕ → Type 0) → (List ShelfEntry → Type 0) → List ℕ → Type 0
OfBag line words Beside Fact image = (digest : Option (List ℕ)) × IsDigestBeside Beside words.is_digested image digest
    × ((facts : BagFacts) → TellsOf image line words digest facts → Fact (image_bag image facts))

-- ---- parts of what it tells

-- where the image's bytes are known, this is what is told of their digest
abbrev pub IsDigestTold : Option (List ℕ) → ℕ → Bool → Option (List ℕ) → Type 0
IsDigestTold known len is_digested told = OfKnown known len (λ image. told ≡ digest_told is_digested image)
