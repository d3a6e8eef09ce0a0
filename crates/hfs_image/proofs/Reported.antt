-- What was gathered is reported as the image is.
use Rattle.std.proofs.Common.{◌≡◌, ℕ, ◌<◌, ◌≤◌, ◌/◌, List, length, Option, Some, None, refl, sym, ap, ◌∙◌}
use Rattle.std.specs.Prelude.{IfSome, IfOk, Result, Ok, Err}
use Rattle.std.proofs.lemmas.Bool.{le-leb, lt-leb}
use Rattle.hfs_blocks.specs.Blocks.{block_at, block_count}
use Rattle.hfs_blocks.specs.Layers.{Numbered}
use Rattle.hfs_check.specs.declared.mount_fault.MountFault.{MountFault}
use Rattle.hfs_check.specs.declared.mount_fault.MountFault.TheVariants as fault
use Rattle.hfs_check.specs.declared.reported.Report.{Report}
use Rattle.hfs_check.specs.Faults.{◌or_fault◌, length_fault, blocks_fault, fault_of}
use Rattle.hfs_check.proofs.LawTypes.{NoBlocksFault}
use Rattle.hfs_check.specs.Parts.{Blocks}
use Rattle.hfs_check.specs.Report.{refused_report, sound_report, report_by, report_in, report_with, report_of}
use Rattle.hfs_source.specs.Sparse.{sparse}
use Rattle.hfs_image.specs.Laws.{AnswerSame}
use Rattle.hfs_image.specs.Gathered.{HasNeeded, IsOfKnown}
use Rattle.hfs_image.proofs.GatheredLaws.{GatheredIsEnough}
use Rattle.hfs_image.specs.Known.{OfKnown}

-- what follows from the answer
pub ok-so : {A E : Type 0} {P Q : A → Type 0} (r : Result A E) → ((a : A) → P a → Q a) → IfOk r P → IfOk r Q
ok-so (Ok a) so h = so a h
ok-so (Err e) so h = tt

module _ (law : NoBlocksFault) (total : ℕ) (old new : Blocks) (same : AnswerSame total old new) where
  by-fault : (f : Option MountFault) → blocks_fault total old ≡ f → report_by total new f ≡ report_by total old f
  by-fault None e = (same.held ((law total old).0 e)).report
  by-fault (Some why) e = refl

  report_in-same : report_in total new ≡ report_in total old
  unfolding report_in
  report_in-same = ap (report_by total new) same.fault ∙ by-fault (blocks_fault total old) refl

pub gathered-reports : NoBlocksFault → GatheredIsEnough → (known : Option (List ℕ)) (total : ℕ) (read : Numbered) → HasNeeded total read → IsOfKnown known read
    → (report : Report) → report ≡ report_in total (sparse read) → IfSome known (λ bytes. report ≡ report_in total (block_at bytes))
gathered-reports law enough None total read needed is report e = tt
gathered-reports law enough (Some bytes) total read needed is report e =
    e ∙ sym (report_in-same law total (sparse read) (block_at bytes) (enough total bytes read needed is))

-- ---- by the image's length

-- an image whose length is right is reported as its blocks are
report_of-blocks : (image : List ℕ) → length_fault (length image) ≡ None → report_of image ≡ report_in (block_count image) (block_at image)
unfolding report_of report_in fault_of
report_of-blocks image right =
    ap (λ (f : Option MountFault). report_with image (f or_fault blocks_fault (block_count image) (block_at image))) right
    ∙ same (blocks_fault (block_count image) (block_at image))
  where
    same : (f : Option MountFault) → report_with image f ≡ report_by (block_count image) (block_at image) f
    same None = refl
    same (Some fault) = refl

-- and any other is refused for it
report_of-refused : (image : List ℕ) (why : MountFault) → length_fault (length image) ≡ Some why → report_of image ≡ refused_report why
unfolding report_of fault_of
report_of-refused image why wrong =
    ap (λ (f : Option MountFault). report_with image (f or_fault blocks_fault (block_count image) (block_at image))) wrong

pub length-large : (len : ℕ) → 2147483648 < len → length_fault len ≡ Some fault.TooLarge
unfolding length_fault
length-large len h = let no = lt-leb len 2147483648 h in rw no refl

pub length-short : (len : ℕ) → len ≤ 2147483648 → len < 1536 → length_fault len ≡ Some fault.Short
unfolding length_fault
length-short len most h = let yes = le-leb len 2147483648 most in let no = lt-leb 1536 len h in rw (yes, no) refl

pub length-right : (len : ℕ) → len ≤ 2147483648 → 1536 ≤ len → length_fault len ≡ None
unfolding length_fault
length-right len most least = let yes = le-leb len 2147483648 most in let some = le-leb 1536 len least in rw (yes, some) refl

refused : (why : MountFault) (known : Option (List ℕ)) (len : ℕ) → length_fault len ≡ Some why → OfKnown known len (λ bytes. refused_report why ≡ report_of bytes)
refused why None len e = tt
refused why (Some bytes) len e = λ same. sym (report_of-refused bytes why (ap length_fault same ∙ e))

pub reports-large : (known : Option (List ℕ)) (len : ℕ) → 2147483648 < len → OfKnown known len (λ bytes. refused_report fault.TooLarge ≡ report_of bytes)
reports-large known len h = refused fault.TooLarge known len (length-large len h)

pub reports-short : (known : Option (List ℕ)) (len : ℕ) → len ≤ 2147483648 → len < 1536 → OfKnown known len (λ bytes. refused_report fault.Short ≡ report_of bytes)
reports-short known len most h = refused fault.Short known len (length-short len most h)

pub reports-right : (known : Option (List ℕ)) (len : ℕ) → len ≤ 2147483648 → 1536 ≤ len → (report : Report)
    → IfSome known (λ bytes. report ≡ report_in (len / 512) (block_at bytes)) → OfKnown known len (λ bytes. report ≡ report_of bytes)
reports-right None len most least report h = tt
reports-right (Some bytes) len most least report h = λ same.
    h ∙ ap (λ (n : ℕ). report_in (n / 512) (block_at bytes)) (sym same) ∙ sym (report_of-blocks bytes (ap length_fault same ∙ length-right len most least))

-- ---- the fault that a report tells

report_by-fault : (total : ℕ) (blocks : Blocks) (f : Option MountFault) → (report_by total blocks f).fault ≡ f
unfolding sound_report
report_by-fault total blocks None = refl
report_by-fault total blocks (Some why) = refl

-- is the first of the blocks
pub report_in-fault : (total : ℕ) (blocks : Blocks) (report : Report) → report ≡ report_in total blocks → report.fault ≡ blocks_fault total blocks
unfolding report_in
report_in-fault total blocks report e = ap (λ (r : Report). r.fault) e ∙ report_by-fault total blocks (blocks_fault total blocks)
