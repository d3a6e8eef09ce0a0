-- What is given of what was found is given of the image.
use Rattle.std.proofs.Common.{◌≡◌, ◌∙◌, ℕ, List, [], ◌++◌, map, Option, None, Some, Result, Ok, Err, OnErr, OnOk, sym, ap, subst}
use Rattle.std.specs.Prelude.{IfErr, IfOk, string_bytes}
use Rattle.std.specs.Option.{option_map}
use Rattle.hfs_bag.specs.declared.facts.BagFacts.{BagFacts}
use Rattle.hfs_bag.specs.declared.fault.BagFault.{BagFault}
use Rattle.hfs_bag.specs.declared.sums.BagSums.{BagSums}
use Rattle.hfs_bag.specs.Items.{BagItem}
use Rattle.hfs_bag.specs.Tags.{bag_of}
use Rattle.hfs_check.specs.declared.mount_fault.MountFault.{MountFault}
use Rattle.hfs_commands.specs.Checks.{IsCheckFault}
use Rattle.hfs_fields.specs.declared.mdb.Mdb.{Mdb}
use Rattle.hfs_rescue_items.specs.declared.found.Found.{Found}
use Rattle.hfs_rescue_items.specs.declared.plan.Planned.{Planned}
use Rattle.hfs_rescue_items.specs.Plan.{whole_plan}
use Rattle.hfs_rescue_items.specs.Sources.{planned_item, rescued_tables}
use Rattle.hfs_bag.proofs.Beginnings.{begins_appended}
use Rattle.hfs_bag.specs.Entries.{IsBeginning, ShelfEntry}
use Rattle.hfs_check.specs.Report.{report_of}
use Rattle.hfs_remains_forks.specs.declared.finds.Finds.{Finds}
use Rattle.hfs_remains_forks.specs.Finds.{IsFoundIn, is_found_right, is_unsure}
use Rattle.hfs_image.specs.Known.{OfKnown}
use Rattle.hfs_remains.specs.Directory.{directory_of}
use Rattle.hfs_word_take.specs.Bags.{text_in}
use Rattle.hfs_source.specs.Seen.{EachKnown}
use Rattle.hfs_word_rescue.specs.declared.answer.RescueAnswer.{RescueAnswer}
use Rattle.hfs_word_rescue.specs.declared.facts.Told.{Told}
use Rattle.hfs_word_rescue.specs.declared.words.BagWords.{BagWords}
use Rattle.hfs_word_rescue.specs.declared.words.RescueWords.{RescueWords}
use Rattle.hfs_word_rescue.specs.Answers.{IsAnswerBy, IsAnswerOf, IsKnownAnswer, answer_status, answer_text, told_after}
use Rattle.hfs_word_rescue.specs.Bags.{IsToldOf, OfBag, OfKnownBag, TellsOf, rescued_bag}
use Rattle.hfs_word_rescue.specs.Found.{IsFoundOf}
use Rattle.hfs_word_rescue.specs.Words.{limit_of, limit_or_usual}
use Rattle.hfs_word_rescue.proofs.FactLemmas.{facts_same}
use Rattle.hfs_word_rescue.proofs.SameLemmas.{Seen, same_mdb, same_seen, seen}

-- ---- of an image whose bytes are known

-- a fact about the bag of what was found is one about that of the image
of-bag : (image : List ℕ) (line : Option (List ℕ)) (words : BagWords) (found : Found) (facts : BagFacts) (P : List ShelfEntry → Type 0) → IsFoundOf image (limit_of words.words image) found
    → TellsOf image found.mdb.now line words facts → P (rescued_bag image found facts) → OfBag image line words P
of-bag image line words found facts P is tells given other others facts' tells' =
    let limit = limit_of words.words image in
    let mdb = same_mdb image limit found other is others in
    subst P (ap (λ (s : Seen). bag_of s.items s.tables facts) (same_seen image limit found other is others)
    ∙ facts_same image found.mdb.now other.mdb.now line words facts facts' mdb tells tells' (seen image other).items (seen image other).tables) given

-- what is told of what was found is told of the image
answer-of : (image : List ℕ) (limit : ℕ) (answer : RescueAnswer) (found : Found) → IsFoundOf image limit found → IsAnswerBy image answer found → IsAnswerOf image limit answer
answer-of image limit answer found is told other others =
    let mdb = same_mdb image limit found other is others in
    let same = same_seen image limit found other is others in
    record {
      status_is = told.status_is ∙ (λ i. answer_status (is_found_right image (mdb i)) (same i).sums);
      lines_are = told.lines_are ∙ (λ i. answer_text (report_of image).fault (directory_of image) (is_unsure image (mdb i)) (same i).sums);
    }

-- ---- where they are known

-- what was found was found of the image
pub found_known : (known : Option (List ℕ)) (len : ℕ) (words : RescueWords) (limit : ℕ) (finds : Finds) (found : Found) → limit ≡ limit_or_usual words.limit len
    → OfKnown known len (λ image. IsFoundIn image (Some finds)) → ((image : List ℕ) → IsFoundIn image (Some finds) → IsFoundOf image limit found)
    → OfKnown known len (λ image. IsFoundOf image (limit_of words image) found)
found_known None len words limit finds found limit_is finds_are by = tt
found_known (Some image) len words limit finds found limit_is finds_are by = λ same.
    subst (λ (n : ℕ). IsFoundOf image n found) (limit_is ∙ ap (limit_or_usual words.limit) (sym same)) (by image (finds_are same))

-- and what is told of it is told of the image
pub answer_known : (known : Option (List ℕ)) (len : ℕ) (words : RescueWords) (fault : Option MountFault) (finds : Finds) (found : Found) (answer : RescueAnswer)
    → OfKnown known len (λ image. IsFoundOf image (limit_of words image) found) → OfKnown known len (IsCheckFault fault) → OfKnown known len (λ image. IsFoundIn image (Some finds))
    → ((image : List ℕ) → IsCheckFault fault image → IsFoundIn image (Some finds) → IsAnswerBy image answer found) → IsKnownAnswer known len words answer
answer_known None len words fault finds found answer is check finds_are by = tt
answer_known (Some image) len words fault finds found answer is check finds_are by = λ same.
    answer-of image (limit_of words image) answer found (is same) (by image (check same) (finds_are same))

-- a bag tells what was told of the image before
pub tells_known : (known : Option (List ℕ)) (len : ℕ) (mdb : Mdb) (line : Option (List ℕ)) (words : BagWords) (told : Told) (facts : BagFacts) → IsToldOf known len mdb words told
    → facts.identifier.now ≡ string_bytes told.identifier → facts.program.now ≡ words.program.now → facts.image.now ≡ string_bytes told.name → text_in facts.volume ≡ line
    → text_in facts.directory ≡ option_map string_bytes told.directory → facts.bytes ≡ len → facts.digest ≡ told.digest → facts.report.now ≡ string_bytes told.report → OfKnown known len (λ image. TellsOf image mdb line words facts)
tells_known None len mdb line words told facts is identifier program name volume directory bytes digest report = tt
tells_known (Some image) len mdb line words told facts is identifier program name volume directory bytes digest report = λ same. record {
  identifier_is = identifier ∙ is.identifier_is;
  program_is = program;
  image_is = name ∙ is.name_is;
  volume_is = volume;
  directory_is = directory ∙ is.directory_is same;
  bytes_are = bytes ∙ sym same;
  digest_is = digest ∙ is.digest_is same;
  report_is = report ∙ is.report_is same;
}

-- what was given of a source that was made of what was found of an image is given of its bag
pub given_bag : (image : List ℕ) (len : ℕ) (line : Option (List ℕ)) (words : BagWords) (found made : Found) (plan : List Planned) (facts : BagFacts) (P : List ShelfEntry → Type 0)
    → OfKnown (Some image) len (λ own. IsFoundOf own (limit_of words.words own) found) → OfKnown (Some image) len (λ own. TellsOf own found.mdb.now line words facts)
    → made ≡ found → plan ≡ whole_plan found → P (bag_of (map (planned_item image made) plan) (rescued_tables made) facts) → OfKnownBag (Some image) len line words P
given_bag image len line words found made plan facts P is tells same planned given = λ long.
    of-bag image line words found facts P (is long) (tells long)
    (subst P (λ i. bag_of (map (planned_item image (same i)) (planned i)) (rescued_tables (same i)) facts) given)

-- nothing was given yet
pub nothing_given : (known : Option (List ℕ)) (len : ℕ) (line : Option (List ℕ)) (words : BagWords) (given : List ShelfEntry)
    → OfKnownBag known len line words (λ bag. IsBeginning given (given ++ bag))
nothing_given None len line words given = tt
nothing_given (Some image) len line words given = λ same found is facts tells. begins_appended given (rescued_bag image found facts)

-- nor where giving failed before
pub none_given : (told : Result RescueAnswer BagFault) (why : BagFault) (Holds : List ℕ → Type 0) (len : ℕ) (line : Option (List ℕ)) (words : BagWords) (given : List ShelfEntry)
    → told ≡ Err why → OnErr told (EachKnown Holds (λ known. OfKnownBag known len line words (λ bag. IsBeginning given (given ++ bag))))
none_given told why Holds len line words given is =
    subst (λ (r : Result RescueAnswer BagFault). OnErr r (EachKnown Holds (λ known. OfKnownBag known len line words (λ bag. IsBeginning given (given ++ bag))))) (sym is)
    (λ image h. nothing_given (Some image) len line words given)

-- ---- the answer behind a bag

module _ (came : Result BagSums BagFault) (answer : RescueAnswer) (told : Result RescueAnswer BagFault) (same : told ≡ told_after came answer) where
  pub told_ok : (P : Type 0) → OnOk came P → OnOk told P
  told_ok P is = subst (λ (r : Result RescueAnswer BagFault). OnOk r P) (sym same) (by came is)
    where
      by : (r : Result BagSums BagFault) → OnOk r P → OnOk (told_after r answer) P
      by (Ok sums) p = p
      by (Err fault) p = tt

  pub told_err : (P : Type 0) → OnErr came P → OnErr told P
  told_err P is = subst (λ (r : Result RescueAnswer BagFault). OnErr r P) (sym same) (by came is)
    where
      by : (r : Result BagSums BagFault) → OnErr r P → OnErr (told_after r answer) P
      by (Ok sums) p = tt
      by (Err fault) p = p

  pub told_fault : (P : BagFault → Type 0) → IfErr came P → IfErr told P
  told_fault P is = subst (λ (r : Result RescueAnswer BagFault). IfErr r P) (sym same) (by came is)
    where
      by : (r : Result BagSums BagFault) → IfErr r P → IfErr (told_after r answer) P
      by (Ok sums) p = tt
      by (Err fault) p = p

  pub told_answer : (P : RescueAnswer → Type 0) → P answer → IfOk told P
  told_answer P is = subst (λ (r : Result RescueAnswer BagFault). IfOk r P) (sym same) (by came)
    where
      by : (r : Result BagSums BagFault) → IfOk (told_after r answer) P
      by (Ok sums) = is
      by (Err fault) = tt
