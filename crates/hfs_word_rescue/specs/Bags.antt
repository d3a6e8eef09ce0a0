-- The bag of what remains of an image.
use Rattle.std.specs.Prelude.{◌≡◌, ⊤, ℕ, ◌==◌, Bool, true, false, if◌then◌else◌, List, ◌++◌, codes, length, map, Option, None, Some, string_bytes}
use Rattle.std.specs.Fmt.{decimal}
use Rattle.std.specs.Option.{option_and_then, option_map}
use Rattle.hfs_bag.specs.declared.facts.BagFacts.{BagFacts}
use Rattle.hfs_bag.specs.declared.fault.BagFault.{BagFault}
use Rattle.hfs_bag.specs.Bags.{bytes_in}
use Rattle.hfs_bag.specs.Faults.{AreTooMany, IsBagFault}
use Rattle.hfs_bag.specs.Items.{BagItem}
use Rattle.hfs_bag.specs.Tags.{bag_of}
use Rattle.hfs_check.specs.Report.{report_of}
use Rattle.hfs_commands.specs.Checks.{check_lines}
use Rattle.hfs_fields.specs.declared.mdb.Mdb.{Mdb}
use Rattle.hfs_remains_forks.specs.Finds.{is_unsure}
use Rattle.hfs_texts.specs.PlainTexts.{plain_text}
use Rattle.hfs_image.specs.Known.{OfKnown}
use Rattle.hfs_remains.specs.Directory.{directory_of}
use Rattle.hfs_rescue_items.specs.declared.found.Found.{Found}
use Rattle.hfs_rescue_items.specs.Found.{field_name}
use Rattle.hfs_rescue_items.specs.Plan.{whole_plan}
use Rattle.hfs_rescue_items.specs.Sources.{planned_item, rescued_tables}
use Rattle.hfs_bag.specs.declared.shelf_fault.ShelfFault.{ShelfFault}
use Rattle.hfs_bag.specs.Entries.{ShelfEntry}
use Rattle.hfs_bag.specs.Told.{TellsWithin}
use Rattle.hfs_source.specs.Seen.{EachKnown}
use Rattle.hfs_word_take.specs.Bags.{IsDigestTold, digest_told, text_in}
use Rattle.hfs_word_take.specs.Facts.{image_name}
use Rattle.hfs_texts.specs.Info.{info_lines}
use Rattle.hfs_word_rescue.specs.declared.facts.Told.{Told}
use Rattle.hfs_word_rescue.specs.declared.words.BagWords.{BagWords}
use Rattle.hfs_word_rescue.specs.Found.{OfFound}
use Rattle.hfs_word_rescue.specs.Words.{limit_of}

-- the lines of the directory, and those of the image's check
abbrev pub report_text : List ℕ → Mdb → List ℕ
report_text image mdb = info_lines mdb ++ check_lines (report_of image)

-- a block that is taken for the directory, and whether it is a guess; nothing of block 2, where the directory belongs, unless it is a guess
abbrev pub directory_text : ℕ → Bool → Option (List ℕ)
directory_text block true = Some (decimal block ++ codes " unsure")
directory_text block false = if block == 2 then None else Some (decimal block)

-- what is said about the block of an image that is taken for this directory
abbrev pub told_directory : List ℕ → Mdb → Option (List ℕ)
told_directory image mdb = option_and_then (λ n. directory_text n (is_unsure image mdb)) (directory_of image)

-- a bag says this of an image with these bytes and this directory, for these words; `line` is where the volume lies in its file, where it was looked for there
pub record TellsOf (image : List ℕ) (mdb : Mdb) (line : Option (List ℕ)) (words : BagWords) (facts : BagFacts) : Type 0 where
  pub identifier_is : facts.identifier.now ≡ plain_text (field_name mdb.volume_name)
  pub program_is : facts.program.now ≡ words.program.now
  pub image_is : facts.image.now ≡ image_name words.words.image.now
  pub volume_is : text_in facts.volume ≡ line
  pub directory_is : text_in facts.directory ≡ told_directory image mdb
  pub bytes_are : facts.bytes ≡ length image
  pub digest_is : facts.digest ≡ digest_told words.is_digested image
  pub report_is : facts.report.now ≡ report_text image mdb

-- what is made of what was found, in its order
abbrev pub rescued_items : List ℕ → Found → List BagItem
rescued_items image found = map (planned_item image found) (whole_plan found)

-- the bag of it, which says this
abbrev pub rescued_bag : List ℕ → Found → BagFacts → List ShelfEntry
rescued_bag image found facts = bag_of (rescued_items image found) (rescued_tables found) facts

-- a fact about the bag of what remains of an image
abbrev pub OfBag : List ℕ → Option (List ℕ) → BagWords → (List ShelfEntry → Type 0) → Type 0
OfBag image line words Fact =
    OfFound image (limit_of words.words image) (λ found. (facts : BagFacts) → TellsOf image found.mdb.now line words facts → Fact (rescued_bag image found facts))

-- where the image's bytes are known, and are so many, this holds of its bag
abbrev pub OfKnownBag : Option (List ℕ) → ℕ → Option (List ℕ) → BagWords → (List ShelfEntry → Type 0) → Type 0
OfKnownBag known len line words Fact = OfKnown known len (λ image. OfBag image line words Fact)

-- a fault of a shelf, lack of memory, or a read that failed; or the bag of what remains of each of these images has too many bytes
abbrev pub IsUnfilled : (ShelfFault → Type 0) → (List ℕ → Type 0) → ℕ → Option (List ℕ) → BagWords → BagFault → Type 0
IsUnfilled ShelfGave Holds len line words =
    IsBagFault (λ _. ⊤) ShelfGave (EachKnown Holds (λ known. OfKnownBag known len line words (λ bag. AreTooMany (bytes_in bag))))

-- one of these, where such a folder is filled
abbrev pub IsUngiven : (List ℕ → Type 0) → ℕ → Option (List ℕ) → BagWords → List ℕ → BagFault → Type 0
IsUngiven Holds len line words folder = IsUnfilled (TellsWithin folder) Holds len line words

-- ---- before the items are read

-- where the image's bytes are known, and are so many, these are the lines of this directory, and those of its check
abbrev pub IsReportTold : Option (List ℕ) → ℕ → Mdb → List ℕ → Type 0
IsReportTold known len mdb text = OfKnown known len (λ image. text ≡ report_text image mdb)

-- where the image's bytes are known, and are so many, this is said about the block of this directory
abbrev pub IsDirectoryTold : Option (List ℕ) → ℕ → Mdb → Option (List ℕ) → Type 0
IsDirectoryTold known len mdb told = OfKnown known len (λ image. told ≡ told_directory image mdb)

-- this is said about an image with this directory
pub record IsToldOf (known : Option (List ℕ)) (len : ℕ) (mdb : Mdb) (words : BagWords) (told : Told) : Type 0 where
  pub identifier_is : string_bytes told.identifier ≡ plain_text (field_name mdb.volume_name)
  pub name_is : string_bytes told.name ≡ image_name words.words.image.now
  pub directory_is : IsDirectoryTold known len mdb (option_map string_bytes told.directory)
  pub digest_is : IsDigestTold known len words.is_digested told.digest
  pub report_is : IsReportTold known len mdb (string_bytes told.report)
