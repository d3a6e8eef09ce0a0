-- The first fault is that of the image.
use Rattle.std.proofs.Common.{◌≡◌, Option, Some, subst, rules}
use Rattle.hfs_check.specs.declared.mount_fault.MountFault.{MountFault}
use Rattle.hfs_check.specs.Answers.{IsFaultOf}
use Rattle.hfs_check.specs.Faults.{blocks_fault}
use Rattle.hfs_source.specs.Sparse.{sparse}
use Rattle.hfs_image.proofs.Refused.{blocks-refused}
use Rattle.hfs_image.proofs.LawsProved.{gathered_is_enough}
use Rattle.hfs_check.specs.declared.mount_fault.MountFault.TheVariants as fault
use Rattle.hfs_image.proofs.opening.open_blocks.Goals as goal

pub returns : goal.returns
returns g c =
    let other : c.in-Err-check_blocks.fault ≡ fault.Memory → ⊥ = search rules in
    record {
      opened = tt;
      refused = blocks-refused gathered_is_enough (g.S.BlockSource.image c.args.source.now) c.args.count c.in-Ok.read c.in-Ok.ensures.needed
          c.in-Ok.ensures.told c.in-Err-check_blocks.fault other
          (subst (λ (f : Option MountFault). IsFaultOf f c.in-Err-check_blocks.fault)
          (λ i. blocks_fault (c.volume.ensures.count i) (sparse (c.volume.ensures.read i))) c.in-Err-check_blocks.ensures.wrong);
      image = c.gather_needed.ensures.image;
      seen = tt;
      each_refused = λ image h.
          blocks-refused gathered_is_enough (Some image) c.args.count c.in-Ok.read c.in-Ok.ensures.needed
          (c.in-Ok.ensures.seen image h) c.in-Err-check_blocks.fault other
          (subst (λ (f : Option MountFault). IsFaultOf f c.in-Err-check_blocks.fault)
          (λ i. blocks_fault (c.volume.ensures.count i) (sparse (c.volume.ensures.read i))) c.in-Err-check_blocks.ensures.wrong);
      narrows = c.gather_needed.ensures.narrows;
    }
