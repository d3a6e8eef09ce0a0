-- The copy is that of the empty volume's image.
use Rattle.std.proofs.Common.{List, ℕ, inl, sym, subst}
use Rattle.hfs_format.specs.Image.{image_bytes}
use Rattle.hfs_copy.specs.Working.{IsWorkingCopy}
use Rattle.hfs_word_make.proofs.unplanned.mount_empty.Goals as goal

pub returns-in-Err-clause-fault : goal.returns-in-Err-clause-fault
returns-in-Err-clause-fault c =
    inl (c.in-Err.fault, c.of_make.ensures, record { volume = c.empty_volume.result; emptied = c.empty_volume.ensures; why = c.in-Err.ensures })

pub returns-in-Ok-mount_new-clause-copy : goal.returns-in-Ok-mount_new-clause-copy
returns-in-Ok-mount_new-clause-copy c = record {
  planned = c.in-Ok.planned;
  empty = record { volume = c.empty_volume.result; emptied = c.empty_volume.ensures; made = c.in-Ok.ensures };
  copied = subst (λ (copy : List ℕ). IsWorkingCopy copy (image_bytes c.in-Ok.planned)) (sym c.in-Ok-mount_new.ensures.fresh) c.in-Ok-mount_new.ensures.copy;
}
