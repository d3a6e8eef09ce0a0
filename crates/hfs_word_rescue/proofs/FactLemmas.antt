-- Facts that tell the same make the same bag.
use Rattle.std.proofs.Common.{◌≡◌, ◌∙◌, ℕ, ◌*◌, List, [], ◌∷◌, ◌++◌, drop, length, replicate, take, Option, None, Some, sym, ap}
use Rattle.std.proofs.lemmas.List.{drop_at, length-replicate}
use Rattle.std.specs.Option.{option_and_then, option_map}
use Rattle.std.specs.Prelude.{codes}
use Rattle.hfs_bag.specs.declared.facts.BagFacts.{BagFacts}
use Rattle.hfs_bag.specs.Bags.{bytes_in, files_in, manifest, payload}
use Rattle.hfs_bag.specs.Items.{BagItem}
use Rattle.hfs_bag.specs.Sources.{BagTables}
use Rattle.hfs_bag.specs.Tags.{bag_of, declaration_file, manifest_file, remains_files, table_file}
use Rattle.hfs_blocks.specs.Blocks.{block_at}
use Rattle.hfs_check.specs.Report.{report_of}
use Rattle.hfs_commands.specs.Checks.{check_lines}
use Rattle.hfs_fields.specs.declared.mdb.Mdb.{Mdb}
use Rattle.hfs_fields.specs.Mdb.{mdb_in_block, mdb_of}
use Rattle.hfs_remains_forks.specs.declared.finds.Finds.{Finds}
use Rattle.hfs_remains_forks.specs.Finds.{IsFoundIn, found_directory, is_unsure}
use Rattle.hfs_texts.specs.PlainTexts.{plain_text}
use Rattle.hfs_image.specs.Known.{OfKnown}
use Rattle.hfs_remains.specs.Directory.{directory_of}
use Rattle.hfs_bag.specs.Entries.{ShelfEntry, file}
use Rattle.hfs_source.specs.Sparse.{HoldsFrom}
use Rattle.hfs_word_take.proofs.BagLemmas.{info_same}
use Rattle.hfs_texts.specs.Info.{info_lines}
use Rattle.hfs_texts.specs.Reading.{info_text as head_lines}
use Rattle.hfs_word_rescue.specs.declared.words.BagWords.{BagWords}
use Rattle.hfs_rescue_items.specs.Found.{field_name}
use Rattle.hfs_word_rescue.specs.Bags.{IsDirectoryTold, IsReportTold, TellsOf, directory_text, report_text, told_directory}

-- a bag by the texts of its report and of its facts
abbrev bag-with : List BagItem → BagTables → List ℕ → List ℕ → List ShelfEntry
bag-with items tables report info = payload items ++
    (manifest_file items ∷ table_file tables.items ∷ (remains_files tables.remains ++ (file (codes "volume.txt") None report ∷ file (codes "bag-info.txt") None info ∷ declaration_file
    ∷ file (codes "tagmanifest-sha256.txt") None
    (manifest (declaration_file ∷ file (codes "bag-info.txt") None info ∷ table_file tables.items ∷ (remains_files tables.remains ++ (file (codes "volume.txt") None report ∷ manifest_file items ∷ [])))) ∷ [])))

pub facts_same : (image : List ℕ) (mdb other : Mdb) (told : Option (List ℕ)) (words : BagWords) (f g : BagFacts) → mdb ≡ other → TellsOf image mdb told words f → TellsOf image other told words g
    → (items : List BagItem) (tables : BagTables) → bag_of items tables f ≡ bag_of items tables g
facts_same image mdb other told words f g same a b items tables =
    let identifier = a.identifier_is ∙ ap (λ (m : Mdb). plain_text (field_name m.volume_name)) same ∙ sym b.identifier_is in
    let report = a.report_is ∙ ap (report_text image) same ∙ sym b.report_is in
    let directory = a.directory_is ∙ ap (told_directory image) same ∙ sym b.directory_is in
    let info = info_same f g identifier (a.program_is ∙ sym b.program_is) (a.image_is ∙ sym b.image_is) (a.volume_is ∙ sym b.volume_is) directory
    (a.bytes_are ∙ sym b.bytes_are) (a.digest_is ∙ sym b.digest_is) (bytes_in (payload items)) (files_in (payload items)) in
    λ i. bag-with items tables (report i) (info i)

-- ---- the lines of the directory

pub some-same : (a b : Mdb) → Some a ≡ Some b → a ≡ b
some-same a b e = cc

-- the lines of a head that has the block of the directory in its place are those of the directory
report-is : (image : List ℕ) (n : ℕ) (mdb : Mdb) (block head lines text : List ℕ) → found_directory image ≡ Some mdb → directory_of image ≡ Some n
    → block ≡ block_at image n → head ≡ replicate 1024 0 ++ block → lines ≡ check_lines (report_of image) → text ≡ head_lines head ++ lines → text ≡ report_text image mdb
unfolding head_lines
report-is image n mdb block head lines text found directory block_is head_is lines_are is =
    is ∙ (λ i. info_lines (fields i) ++ lines_are i)
  where
    own : mdb_in_block (block_at image n) ≡ mdb
    own = some-same (mdb_in_block (block_at image n)) mdb (ap (option_map (λ (k : ℕ). mdb_in_block (block_at image k))) (sym directory) ∙ found)

    behind : drop 1024 head ≡ block_at image n
    behind = ap (drop 1024) head_is ∙ drop_at (replicate 1024 0) block 1024 (length-replicate {A = ℕ} 1024 0) ∙ block_is

    fields : mdb_of (take 162 (drop 1024 head)) ≡ mdb
    fields = ap (λ (bytes : List ℕ). mdb_of (take 162 bytes)) behind ∙ own

-- where the image's bytes are known
pub report_known : (known : Option (List ℕ)) (len : ℕ) (finds : Finds) (block head lines told text : List ℕ) → length block ≡ 512 → HoldsFrom known (512 * finds.directory) block
    → head ≡ replicate 1024 0 ++ block → lines ≡ told → OfKnown known len (λ image. told ≡ check_lines (report_of image)) → OfKnown known len (λ image. IsFoundIn image (Some finds))
    → text ≡ head_lines head ++ lines → IsReportTold known len finds.mdb text
report_known None len finds block head lines told text long held head_is lines_are check found is = tt
report_known (Some image) len finds block head lines told text long held head_is lines_are check found is = λ same.
    report-is image finds.directory finds.mdb block head lines text (found same).0 (found same).1.directory_is
    (held ∙ ap (λ (n : ℕ). take n (drop (512 * finds.directory) image)) long) head_is (lines_are ∙ check same) is

-- where the image's bytes are known, the block that was found is told
pub directory_known : (known : Option (List ℕ)) (len : ℕ) (finds : Finds) (told : Option (List ℕ)) → OfKnown known len (λ image. IsFoundIn image (Some finds))
    → told ≡ directory_text finds.directory finds.is_unsure → IsDirectoryTold known len finds.mdb told
directory_known None len finds told found is = tt
directory_known (Some image) len finds told found is = λ same.
    let by = (found same).1 in
    is ∙ ap (directory_text finds.directory) by.unsure_is
    ∙ ap (λ (d : Option ℕ). option_and_then (λ n. directory_text n (is_unsure image finds.mdb)) d) (sym by.directory_is)
