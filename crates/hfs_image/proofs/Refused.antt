-- What was gathered is refused for what the image is refused for.
use Rattle.std.proofs.Common.{◌≡◌, ℕ, ◌/◌, List, Option, Some, None, ap, ◌∙◌, ⊎_elim, Result, Ok, Err}
use Rattle.std.specs.Prelude.{IfErr}
use Rattle.hfs_blocks.specs.Blocks.{block_at, block_count}
use Rattle.hfs_blocks.specs.Layers.{Numbered}
use Rattle.hfs_check.specs.declared.mount_fault.MountFault.{MountFault}
use Rattle.hfs_check.specs.declared.mount_fault.MountFault.TheVariants as fault
use Rattle.hfs_check.specs.Answers.{IsFaultOf}
use Rattle.hfs_check.specs.Faults.{◌or_fault◌, length_fault, blocks_fault, fault_of}
use Rattle.hfs_source.specs.Sparse.{sparse}
use Rattle.hfs_image.specs.declared.opening.NeededFault.{NeededFault}
use Rattle.hfs_image.specs.declared.opening.NeededFault.TheVariants.{Refused}
use Rattle.hfs_image.specs.Gathered.{HasNeeded, IsOfKnown}
use Rattle.hfs_image.proofs.GatheredLaws.{GatheredIsEnough}
use Rattle.hfs_image.specs.declared.opening.NeededVolume.{NeededVolume}
use Rattle.hfs_image.specs.Opened.{AreRefusedFor, IsOpenedOf, IsRefusedFor, IsSoundOf}
use Rattle.hfs_check.proofs.LawTypes.{NoBlocksFault}

same-fault : (f why : MountFault) → ◌≡◌ {A = NeededFault} (Refused f) (Refused why) → f ≡ why
same-fault f why e = cc

-- a fault other than want of memory is the first of the blocks that were read, and so of the image's
pub blocks-refused : GatheredIsEnough → (known : Option (List ℕ)) (total : ℕ) (read : Numbered) → HasNeeded total read → IsOfKnown known read
    → (f : MountFault) → (f ≡ fault.Memory → ⊥) → IsFaultOf (blocks_fault total (sparse read)) f → AreRefusedFor known total (Refused f)
blocks-refused enough None total read needed of f other is = λ why e. tt
blocks-refused enough (Some bytes) total read needed of f other is = λ why e.
    (enough total bytes read needed of).fault
    ∙ ⊎_elim (λ (memory : f ≡ fault.Memory). absurd (other memory)) (λ (found : blocks_fault total (sparse read) ≡ Some f). found ∙ ap Some (same-fault f why e)) is

-- an image is refused for its length
pub length-refused : (f : MountFault) (known : Option (List ℕ)) (len : ℕ) → length_fault len ≡ Some f → IsRefusedFor known len (Refused f)
unfolding fault_of
length-refused f None len wrong = λ why e. tt
length-refused f (Some bytes) len wrong = λ why e same.
    ap (λ (found : Option MountFault). found or_fault blocks_fault (block_count bytes) (block_at bytes)) (ap length_fault same ∙ wrong)
    ∙ ap Some (same-fault f why e)

-- and where that is right, for its blocks
of-blocks : (known : Option (List ℕ)) (len : ℕ) → length_fault len ≡ None → (f : NeededFault) → AreRefusedFor known (len / 512) f → IsRefusedFor known len f
unfolding fault_of
of-blocks None len right f h = λ why e. tt
of-blocks (Some bytes) len right f h = λ why e same.
    ap (λ (found : Option MountFault). found or_fault blocks_fault (block_count bytes) (block_at bytes)) (ap length_fault same ∙ right)
    ∙ ap (λ (n : ℕ). blocks_fault (n / 512) (block_at bytes)) same ∙ h why e

pub err-so : {A : Type 0} (known : Option (List ℕ)) (len : ℕ) → length_fault len ≡ None → (r : Result A NeededFault)
    → IfErr r (λ f. AreRefusedFor known (len / 512) f) → IfErr r (λ f. IsRefusedFor known len f)
err-so known len right (Ok a) h = tt
err-so known len right (Err f) h = of-blocks known len right f h

-- what was opened is of an image without a fault
pub opened-sound : NoBlocksFault → GatheredIsEnough → (known : Option (List ℕ)) (len : ℕ) → length_fault len ≡ None → (volume : NeededVolume)
    → IsOpenedOf known (len / 512) volume → IsSoundOf known len
unfolding fault_of
opened-sound law enough None len right volume opened = tt
opened-sound law enough (Some bytes) len right volume opened = λ same.
    ap (λ (found : Option MountFault). found or_fault blocks_fault (block_count bytes) (block_at bytes)) (ap length_fault same ∙ right)
    ∙ ap (λ (n : ℕ). blocks_fault (n / 512) (block_at bytes)) same
    ∙ (enough (len / 512) bytes volume.read opened.needed opened.of).fault
    ∙ (law (len / 512) (sparse volume.read)).1 opened.sound

-- what was read is refused for its first fault, and so for the image's
pub first-refused : GatheredIsEnough → (known : Option (List ℕ)) (total : ℕ) (read : Numbered) → HasNeeded total read → IsOfKnown known read
    → (f : MountFault) → blocks_fault total (sparse read) ≡ Some f → AreRefusedFor known total (Refused f)
first-refused enough None total read needed of f is = λ why e. tt
first-refused enough (Some bytes) total read needed of f is = λ why e. (enough total bytes read needed of).fault ∙ is ∙ ap Some (same-fault f why e)
