-- What is said about an image of which something remains.
use Rattle.std.specs.Prelude.{◌≡◌, ℕ, ◌-◌, ◌^◌, Bool, true, false, ◌&&◌, ◌==◌, if◌then◌else◌, List, [], ◌++◌, codes, min, Option, Some, None, Result, Ok, Err, string_bytes}
use Rattle.std.specs.Fmt.{decimal}
use Rattle.hfs_bag.specs.declared.fault.BagFault.{BagFault}
use Rattle.hfs_bag.specs.declared.sums.BagSums.{BagSums}
use Rattle.hfs_check.specs.declared.mount_fault.MountFault.{MountFault}
use Rattle.hfs_check.specs.Report.{report_of}
use Rattle.hfs_commands.specs.declared.fault.Status.TheVariants.{CallRefused, Done}
use Rattle.hfs_commands.specs.Faults.{status_number}
use Rattle.hfs_remains_forks.specs.Finds.{is_found_right, is_unsure}
use Rattle.hfs_image.specs.Known.{OfKnown}
use Rattle.hfs_check.specs.Refusals.{refusal_text}
use Rattle.hfs_remains.specs.Directory.{directory_of}
use Rattle.hfs_rescue_items.specs.declared.found.Found.{Found}
use Rattle.hfs_rescue_items.specs.declared.sums.FoundSums.{FoundSums}
use Rattle.hfs_rescue_items.specs.Sums.{bytes_at, files_at, folders_at, of_all, whole_at}
use Rattle.hfs_texts.specs.Lines.{line}
use Rattle.hfs_word_rescue.specs.declared.answer.RescueAnswer.{RescueAnswer}
use Rattle.hfs_word_rescue.specs.declared.words.RescueWords.{RescueWords}
use Rattle.hfs_word_rescue.specs.Found.{OfFound}
use Rattle.hfs_word_rescue.specs.Words.{limit_of}

-- ---- the lines

-- the first line of the image's check
abbrev pub check_line : Option MountFault → List ℕ
check_line None = codes "sound\n"
check_line (Some why) = line (codes "refused") (refusal_text why)

-- the block of the directory, and whether neither tree begins where it says
abbrev pub unsure_text : Bool → List ℕ
unsure_text true = codes " unsure\n"
unsure_text false = codes "\n"

abbrev pub directory_line : Option ℕ → Bool → List ℕ
directory_line None unsure = []
directory_line (Some n) unsure = codes "directory " ++ decimal n ++ unsure_text unsure

-- how much remains
unfoldable pub sums_lines : FoundSums → List ℕ
sums_lines sums = line (codes "files") (decimal sums.files) ++ line (codes "folders") (decimal sums.folders) ++ line (codes "bytes") (decimal sums.bytes)
    ++ line (codes "whole") (decimal sums.whole) ++ line (codes "damaged") (decimal (sums.files - sums.whole))

unfoldable pub answer_text : Option MountFault → Option ℕ → Bool → FoundSums → List ℕ
answer_text fault directory unsure sums = check_line fault ++ directory_line directory unsure ++ sums_lines sums

-- ---- the exit status

-- all files are whole, and the catalog is right; or something is damaged
abbrev pub answer_status : Bool → FoundSums → ℕ
answer_status right sums = if (sums.whole == sums.files) && right then status_number Done else status_number CallRefused

-- ---- the answer

-- how much was found
abbrev pub found_sums : Found → FoundSums
found_sums found = record {
  files = of_all found (files_at found);
  folders = of_all found (folders_at found);
  bytes = min (of_all found (bytes_at found)) (2 ^ 64 - 1);
  whole = of_all found (whole_at found);
}

-- this is said about an image of which this was found
pub record IsAnswerBy (image : List ℕ) (answer : RescueAnswer) (found : Found) : Type 0 where
  pub status_is : answer.status ≡ answer_status (is_found_right image found.mdb.now) (found_sums found)
  pub lines_are : string_bytes answer.lines ≡ answer_text (report_of image).fault (directory_of image) (is_unsure image found.mdb.now) (found_sums found)

-- this is said about an image, where forks of so many bytes are taken at most
abbrev pub IsAnswerOf : List ℕ → ℕ → RescueAnswer → Type 0
IsAnswerOf image limit answer = OfFound image limit (IsAnswerBy image answer)

-- this is said about an image whose bag was given, or the fault
abbrev pub told_after : Result BagSums BagFault → RescueAnswer → Result RescueAnswer BagFault
told_after (Ok sums) answer = Ok answer
told_after (Err fault) answer = Err fault

-- where the image's bytes are known, and are so many, this is said about it, as these words ask for it
abbrev pub IsKnownAnswer : Option (List ℕ) → ℕ → RescueWords → RescueAnswer → Type 0
IsKnownAnswer known len words answer = OfKnown known len (λ image. IsAnswerOf image (limit_of words image) answer)
