-- By the image's length.
use Rattle.std.proofs.Common.{◌/◌, Some, rules}
use Rattle.hfs_check.specs.Sound.{IsImageLength}
use Rattle.hfs_check.proofs.LawsProved.{no_length_fault}
use Rattle.hfs_image.proofs.Refused.{length-refused, err-so}
use Rattle.hfs_image.proofs.Reported.{length-large, length-short, length-right, ok-so}
use Rattle.hfs_check.specs.declared.mount_fault.MountFault.TheVariants as fault
use Rattle.hfs_copy.specs.declared.opening.WorkingVolume.{WorkingVolume}
use Rattle.hfs_image.proofs.SeenStart.{errs-each}
use Rattle.hfs_copy.proofs.ReadWork.{opened-sound, opened-copy, known-or-not}
use Rattle.hfs_copy.proofs.opening.open_working.Goals as goal

pub returns-then-len-gt2147483648-clause-refused :
    goal.returns-then-len-gt2147483648-clause-refused
returns-then-len-gt2147483648-clause-refused g c =
    length-refused fault.TooLarge (g.S.BlockSource.image c.args.source.now) c.args.len (length-large c.args.len (search rules))

pub returns-then-len-lt1536-clause-refused : goal.returns-then-len-lt1536-clause-refused
returns-then-len-lt1536-clause-refused g c =
    length-refused fault.Short (g.S.BlockSource.image c.args.source.now) c.args.len (length-short c.args.len (search rules) (search rules))

pub returns-clause-refused : goal.returns-clause-refused
returns-clause-refused g c =
    err-so (g.S.BlockSource.image c.args.source.now) c.args.len (length-right c.args.len (search rules) (search rules)) c.open_blocks.result
    c.open_blocks.ensures.refused

pub returns-clause-mountable : goal.returns-clause-mountable
returns-clause-mountable g c =
    ok-so c.open_blocks.result (λ (volume : WorkingVolume) is. known-or-not (g.S.BlockSource.image c.args.source.now) (c.args.len / 512) volume is)
    c.open_blocks.ensures.opened

pub returns-clause-sound : goal.returns-clause-sound
returns-clause-sound g c =
    let right : IsImageLength c.args.len = (no_length_fault c.args.len).0 (length-right c.args.len (search rules) (search rules)) in
    ok-so c.open_blocks.result (λ (volume : WorkingVolume) is. opened-sound (g.S.BlockSource.image c.args.source.now) c.args.len right volume is)
    c.open_blocks.ensures.opened

pub returns-clause-copy : goal.returns-clause-copy
returns-clause-copy g c =
    let right : IsImageLength c.args.len = (no_length_fault c.args.len).0 (length-right c.args.len (search rules) (search rules)) in
    ok-so c.open_blocks.result (λ (volume : WorkingVolume) is. opened-copy (g.S.BlockSource.image c.args.source.now) c.args.len right volume is)
    c.open_blocks.ensures.opened

pub returns-then-len-gt2147483648-clause-each_refused : goal.returns-then-len-gt2147483648-clause-each_refused
returns-then-len-gt2147483648-clause-each_refused g c = λ image h.
    length-refused fault.TooLarge (Some image) c.args.len (length-large c.args.len (search rules))

pub returns-then-len-lt1536-clause-each_refused : goal.returns-then-len-lt1536-clause-each_refused
returns-then-len-lt1536-clause-each_refused g c = λ image h.
    length-refused fault.Short (Some image) c.args.len (length-short c.args.len (search rules) (search rules))

pub returns-clause-each_refused : goal.returns-clause-each_refused
returns-clause-each_refused g c =
    errs-each (g.S.BlockSource.Holds c.open_blocks.new.source) c.args.len (length-right c.args.len (search rules) (search rules)) c.open_blocks.result
    c.open_blocks.ensures.each_refused
