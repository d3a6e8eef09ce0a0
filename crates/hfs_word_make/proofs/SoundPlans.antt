-- The image of a planned volume is never refused.
use Rattle.std.proofs.Common.{◌≡◌, ◌∙◌, ℕ, List, length, Option, Some, None, sym, subst}
use Rattle.std.proofs.Math.Logic.{∥∥₁_elim}
use Rattle.std.proofs.Props.{props}
use Rattle.hfs_check.specs.Faults.{fault_of}
use Rattle.hfs_check.specs.declared.mount_fault.MountFault.{MountFault}
use Rattle.hfs_check.proofs.LawsProved.{no_image_fault}
use Rattle.hfs_format.specs.declared.layout.Layout.{Layout}
use Rattle.hfs_format.specs.declared.planned_image.PlannedImage.{PlannedImage}
use Rattle.hfs_format.specs.Image.{image_bytes, new_image, volume_image}
use Rattle.hfs_format.proofs.NewImageLemmas.{new_images-sound}
use Rattle.hfs_image.specs.declared.opening.NeededFault.{NeededFault}
use Rattle.hfs_image.specs.declared.opening.NeededFault.TheVariants.{Refused}
use Rattle.hfs_image.specs.Opened.{IsRefusedFor}

no-fault : (image : PlannedImage) → fault_of (image_bytes image) ≡ None
no-fault image =
    ∥∥₁_elim image.planned (Prim.hlevel props) (λ p. subst (λ (volume : Layout). fault_of (volume_image volume) ≡ None) (sym p.2.1)
    ((no_image_fault (new_image p.0)).1 (new_images-sound p.0 p.1 p.2.0)))

none-some : (why : MountFault) → None ≡ Some why → ⊥
none-some why e = cc

pub not-refused : (image : PlannedImage) (len : ℕ) (fault : NeededFault) (why : MountFault) → length (image_bytes image) ≡ len
    → IsRefusedFor (Some (image_bytes image)) len fault → fault ≡ Refused why → ⊥
not-refused image len fault why long refused e = none-some why (sym (no-fault image) ∙ refused why e long)
