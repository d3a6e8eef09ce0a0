-- What was opened is of each image that has the bytes which were read.
use Rattle.std.proofs.Common.{◌≡◌, ℕ, ◌≤◌, List, [], Option, Some, subst, sym}
use Rattle.hfs_blocks.specs.Layers.{Numbered}
use Rattle.hfs_source.specs.Sparse.{StaysOf}
use Rattle.hfs_source.specs.Images.{OfEach}
use Rattle.hfs_source.specs.Seen.{EachKnown, IsSeen, SeesMore}
use Rattle.std.specs.Prelude.{IfOk, IfErr, ◌/◌, None, Result, Ok, Err}
use Rattle.hfs_check.specs.Faults.{length_fault}
use Rattle.hfs_check.proofs.LawTypes.{NoBlocksFault}
use Rattle.hfs_image.specs.declared.opening.NeededFault.{NeededFault}
use Rattle.hfs_image.specs.declared.opening.NeededVolume.{NeededVolume}
use Rattle.hfs_image.specs.declared.reporting.ReportedVolume.{ReportedVolume}
use Rattle.hfs_image.specs.Known.{IsReportIn, IsReportOf}
use Rattle.hfs_image.specs.Opened.{AreRefusedFor, IsOpenedOf, IsRefusedFor, IsSoundOf}
use Rattle.hfs_image.specs.Seen.{IsOpenedBy, IsSeenAs}
use Rattle.hfs_image.proofs.Gathered.{of-start}
use Rattle.hfs_image.proofs.GatheredLaws.{GatheredIsEnough}
use Rattle.hfs_image.proofs.Refused.{err-so, opened-sound}
use Rattle.hfs_image.proofs.Reported.{reports-right}

-- where nothing was read before, all that was read is
pub seen-start : {first last : List ℕ → Type 0} {start read : Numbered} → start ≡ [] → SeesMore first last start read → IsSeen last read
seen-start {read = read} e sees = λ image h. of-start (Some image) read (subst (λ (s : Numbered). StaysOf (Some image) s read) e (sees.stays image h))

-- so it is opened for each
pub opened-each : {Holds : List ℕ → Type 0} (known : Option (List ℕ)) (total : ℕ) (volume : NeededVolume) → IsOpenedOf known total volume → IsSeen Holds volume.read
    → EachKnown Holds (λ some. IsOpenedOf some total volume)
opened-each known total volume opened seen = λ image h. record {
  whole = opened.whole;
  needed = opened.needed;
  of = seen image h;
  sound = opened.sound;
  directory = opened.directory;
  trees = opened.trees;
}

-- an image that is refused by its blocks is refused by its length and its blocks
pub errs-each : {A : Type 0} (Holds : List ℕ → Type 0) (len : ℕ) → length_fault len ≡ None → (r : Result A NeededFault)
    → IfErr r (λ f. EachKnown Holds (λ known. AreRefusedFor known (len / 512) f)) → IfErr r (λ f. EachKnown Holds (λ known. IsRefusedFor known len f))
errs-each {A = A} Holds len right (Ok a) h = tt
errs-each {A = A} Holds len right (Err f) h = λ image holds. err-so {A = A} (Some image) len right (Err f) (h image holds)

-- and one that is opened has no fault
pub sound-each : NoBlocksFault → GatheredIsEnough → (Holds : List ℕ → Type 0) (len : ℕ) → length_fault len ≡ None → (known : Option (List ℕ)) (r : Result NeededVolume NeededFault)
    → IfOk r (IsOpenedOf known (len / 512)) → IfOk r (λ volume. IsSeen Holds volume.read) → IfOk r (λ volume. EachKnown Holds (λ some. IsSoundOf some len))
sound-each law enough Holds len right known (Err f) opened seen = tt
sound-each law enough Holds len right known (Ok volume) opened seen = λ image holds.
    opened-sound law enough (Some image) len right volume (opened-each known (len / 512) volume opened seen image holds)

-- nor has one that is reported
pub reported-each : NoBlocksFault → GatheredIsEnough → (Holds : List ℕ → Type 0) (len : ℕ) → length_fault len ≡ None → (known : Option (List ℕ)) (r : Result ReportedVolume NeededFault)
    → IfOk r (λ found. IsOpenedOf known (len / 512) found.volume) → IfOk r (λ found. IsSeen Holds found.volume.read) → IfOk r (λ found. EachKnown Holds (λ some. IsSoundOf some len))
reported-each law enough Holds len right known (Err f) opened seen = tt
reported-each law enough Holds len right known (Ok found) opened seen = λ image holds.
    opened-sound law enough (Some image) len right found.volume (opened-each known (len / 512) found.volume opened seen image holds)

-- its report is that of each image
pub reports-each : (Holds : List ℕ → Type 0) (len : ℕ) → len ≤ 2147483648 → 1536 ≤ len → (r : Result ReportedVolume NeededFault)
    → IfOk r (λ found. EachKnown Holds (λ known. IsReportIn known (len / 512) found.report)) → IfOk r (λ found. EachKnown Holds (λ known. IsReportOf known len found.report))
reports-each Holds len most least (Err f) each = tt
reports-each Holds len most least (Ok found) each = λ image h. reports-right (Some image) len most least found.report (each image h)

-- and by each, as many bytes as it has
pub opened-by : (Holds : List ℕ → Type 0) (len : ℕ) (volume : NeededVolume) → IsSeenAs Holds len volume → OfEach Holds (IsOpenedBy volume)
opened-by Holds len volume is = λ image h.
    subst (λ (n : ℕ). IsOpenedOf (Some image) (n / 512) volume) (sym (is.long image h)) (opened-each {Holds = Holds} None (len / 512) volume is.opened is.seen image h)
