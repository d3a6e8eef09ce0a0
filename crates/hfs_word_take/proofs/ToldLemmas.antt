-- What is told of an image.
use Rattle.std.proofs.Common.{◌≡◌, ℕ, List, [], ◌∷◌, ◌++◌, length, take, drop, Option, None, sym, ap, ◌∙◌, arith}
use Rattle.std.proofs.lemmas.List.{drop-take, take-take}
use Rattle.hfs_bag.specs.declared.facts.BagFacts.{BagFacts}
use Rattle.hfs_check.specs.declared.reported.Report.{Report}
use Rattle.hfs_commands.specs.Checks.{check_lines}
use Rattle.hfs_fields.specs.Mdb.{mdb_of}
use Rattle.hfs_texts.specs.PlainTexts.{plain_text}
use Rattle.hfs_source.specs.Images.{HasAt}
use Rattle.hfs_texts.specs.Info.{info_lines}
use Rattle.hfs_texts.specs.Reading.{info_text}
use Rattle.hfs_model.specs.declared.reply.Info.{Info}
use Rattle.hfs_word_take.specs.Items.{entries_in}
use Rattle.hfs_word_take.specs.Reading.{BeginsWith}
use Rattle.hfs_items.specs.ToldRows.{ToldRow, told_rows}
use Rattle.hfs_check.specs.Report.{report_of}
use Rattle.hfs_word_take.specs.declared.words.TakeWords.{TakeWords}
use Rattle.hfs_word_take.specs.Bags.{TellsOf, report_text, root_name, text_in}
use Rattle.hfs_word_take.specs.Facts.{image_name}

root-named : (root : Info) (rows : List ToldRow) → BeginsWith root rows → root.name ≡ root_name rows
root-named root [] begins = absurd begins
root-named root (row ∷ rows) begins = sym (ap (λ (info : Info). info.name) begins)

field-bytes : (image : List ℕ) → take 162 (drop 1024 (take 1536 image)) ≡ take 162 (drop 1024 image)
field-bytes image = ap (take 162) (drop-take 1024 512 image) ∙ take-take 162 512 (drop 1024 image) (omega arith)

-- the lines of the first 1,536 bytes are those of the image
head-same : (image head : List ℕ) → head ≡ take 1536 image → info_text head ≡ info_text image
unfolding info_text
head-same image head is = ap (λ (bytes : List ℕ). info_lines (mdb_of bytes)) (ap (λ (bytes : List ℕ). take 162 (drop 1024 bytes)) is ∙ field-bytes image)

pub report_told : (image head lines text : List ℕ) (report : Report) → HasAt 0 head image → length head ≡ 1536
    → report ≡ report_of image → lines ≡ check_lines report → text ≡ info_text head ++ lines → text ≡ report_text image
report_told image head lines text report held long told checked is =
    is ∙ (λ i. head-same image head (held ∙ ap (λ n. take n image) long) i ++ (checked ∙ ap check_lines told) i)

-- of an image, with the name of its root
pub tells_of : (image : List ℕ) (len : ℕ) (line : Option (List ℕ)) (words : TakeWords) (told : Option (List ℕ)) (facts : BagFacts) (root : Info) → BeginsWith root (told_rows (entries_in image))
    → length image ≡ len → facts.identifier.now ≡ plain_text root.name → facts.program.now ≡ words.program.now → facts.image.now ≡ image_name words.image.now
    → text_in facts.volume ≡ line → text_in facts.directory ≡ None → facts.bytes ≡ len → facts.digest ≡ told
    → facts.report.now ≡ report_text image → TellsOf image line words told facts
tells_of image len line words told facts root begins long identifier program name volume directory bytes digest report = record {
  identifier_is = identifier ∙ ap plain_text (root-named root _ begins);
  program_is = program;
  image_is = name;
  volume_is = volume;
  directory_is = directory;
  bytes_are = bytes ∙ sym long;
  digest_is = digest;
  report_is = report;
}
