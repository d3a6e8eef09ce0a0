-- The checks are made over the needed blocks, and the others are read behind them.
use Rattle.std.proofs.Common.{◌≡◌, Option, Some, subst, rules}
use Rattle.hfs_check.specs.declared.mount_fault.MountFault.{MountFault}
use Rattle.hfs_check.specs.declared.mount_fault.MountFault.TheVariants as fault
use Rattle.hfs_check.specs.Answers.{IsFaultOf}
use Rattle.hfs_check.specs.Faults.{blocks_fault}
use Rattle.hfs_source.specs.Sparse.{sparse}
use Rattle.hfs_image.proofs.Refused.{blocks-refused}
use Rattle.hfs_image.proofs.LawsProved.{gathered_is_enough}
use Rattle.hfs_copy.proofs.ReadWork.{working-opened}
use Rattle.hfs_copy.proofs.opening.open_blocks.Goals as goal

pub returns-in-Err-check_blocks : goal.returns-in-Err-check_blocks
returns-in-Err-check_blocks g c =
    let other : c.in-Err-check_blocks.fault ≡ fault.Memory → ⊥ = search rules in
    record {
      opened = tt;
      refused = blocks-refused gathered_is_enough (g.S.BlockSource.image c.args.source.now) c.args.count c.in-Ok.read c.in-Ok.ensures.needed
          c.in-Ok.ensures.told c.in-Err-check_blocks.fault other
          (subst (λ (f : Option MountFault). IsFaultOf f c.in-Err-check_blocks.fault)
          (λ i. blocks_fault (c.volume.ensures.count i) (sparse (c.volume.ensures.read i))) c.in-Err-check_blocks.ensures.wrong);
      image = c.gather_needed.ensures.image;
      seen = tt;
      each_refused = λ image h.
          blocks-refused gathered_is_enough (Some image) c.args.count c.in-Ok.read c.in-Ok.ensures.needed (c.in-Ok.ensures.seen image h)
          c.in-Err-check_blocks.fault other
          (subst (λ (f : Option MountFault). IsFaultOf f c.in-Err-check_blocks.fault)
          (λ i. blocks_fault (c.volume.ensures.count i) (sparse (c.volume.ensures.read i))) c.in-Err-check_blocks.ensures.wrong);
      narrows = c.gather_needed.ensures.narrows;
    }

pub returns-in-Ok-read_trees-clause-opened : goal.returns-in-Ok-read_trees-clause-opened
returns-in-Ok-read_trees-clause-opened g c =
    working-opened (g.S.BlockSource.image c.args.source.now) (g.S.BlockSource.image c.gather_needed.new.source) c.args.count c.volume.result.count c.in-Ok.read
    c.volume.result.read.now c.read_trees.new.read c.in-Ok-check_blocks.sound.mdb c.in-Ok-check_blocks.sound.trees c.in-Ok.ensures.image c.volume.ensures.count
    c.volume.ensures.read c.in-Ok.ensures.needed c.in-Ok.ensures.told c.in-Ok.ensures.within c.in-Ok-check_blocks.ensures.sound
    c.in-Ok-check_blocks.ensures.mdb c.in-Ok-check_blocks.ensures.trees c.in-Ok-read_trees.ensures.grown c.in-Ok-read_trees.ensures.stays
    c.in-Ok-read_trees.ensures.within c.in-Ok-read_trees.ensures.extents c.in-Ok-read_trees.ensures.catalog

pub returns-in-Ok-read_trees-clause-seen : goal.returns-in-Ok-read_trees-clause-seen
returns-in-Ok-read_trees-clause-seen g c = λ image h.
    c.in-Ok-read_trees.ensures.sees.stays image h (c.in-Ok.ensures.seen image (c.in-Ok-read_trees.ensures.sees.held image h))
