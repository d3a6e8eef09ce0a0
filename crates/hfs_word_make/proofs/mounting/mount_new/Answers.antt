-- The copy is that of the image, whose bytes are known and sound.
use Rattle.std.proofs.Common.{List, ℕ, refl, sym, subst}
use Rattle.hfs_format.specs.Image.{image_bytes}
use Rattle.hfs_copy.specs.Working.{IsWorkingCopy}
use Rattle.hfs_word_make.proofs.FillLemmas.{small-in}
use Rattle.hfs_word_make.proofs.SoundPlans.{not-refused}
use Rattle.hfs_word_make.proofs.mounting.mount_new.Goals as goal

pub returns-in-Ok-mount_read-clause-copy : goal.returns-in-Ok-mount_read-clause-copy
returns-in-Ok-mount_read-clause-copy c =
    subst (λ (base : List ℕ). IsWorkingCopy base (image_bytes c.args.image.planned)) (sym c.in-Ok-mount_read.ensures.base)
    (c.in-Ok.ensures.copy (c.len-len.ensures _ refl))

pub returns-in-Ok-mount_read-clause-small : goal.returns-in-Ok-mount_read-clause-small
returns-in-Ok-mount_read-clause-small c = small-in _ _ (c.in-Ok.ensures.copy (c.len-len.ensures _ refl))

pub unreachable-requires : goal.unreachable-requires
unreachable-requires c =
    not-refused c.args.image.planned _ c.in-Err-Refused.field-0 c.in-Err-Refused.field-0-0 (c.len-len.ensures _ refl) c.in-Err-Refused.ensures.refused c.in-Err-Refused.field-0-is
