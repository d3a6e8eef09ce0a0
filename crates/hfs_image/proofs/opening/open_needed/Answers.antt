-- By the image's length.
use Rattle.std.proofs.Common.{Some, rules}
use Rattle.hfs_image.specs.declared.opening.NeededVolume.{NeededVolume}
use Rattle.hfs_image.proofs.Refused.{length-refused, err-so, opened-sound}
use Rattle.hfs_image.proofs.Reported.{length-large, length-short, length-right, ok-so}
use Rattle.hfs_check.proofs.LawsProved.{no_blocks_fault}
use Rattle.hfs_image.proofs.LawsProved.{gathered_is_enough}
use Rattle.hfs_check.specs.declared.mount_fault.MountFault.TheVariants as fault
use Rattle.hfs_image.proofs.SeenStart.{errs-each, sound-each}
use Rattle.hfs_image.proofs.opening.open_needed.Goals as goal

pub returns-then-len-gt2147483648-clause-refused :
    goal.returns-then-len-gt2147483648-clause-refused
returns-then-len-gt2147483648-clause-refused g c =
    length-refused fault.TooLarge (g.S.BlockSource.image c.args.source.now) c.args.len (length-large c.args.len (search rules))

pub returns-then-len-lt1536-clause-refused : goal.returns-then-len-lt1536-clause-refused
returns-then-len-lt1536-clause-refused g c =
    length-refused fault.Short (g.S.BlockSource.image c.args.source.now) c.args.len (length-short c.args.len (search rules) (search rules))

pub returns-clause-refused : goal.returns-clause-refused
returns-clause-refused g c =
    err-so (g.S.BlockSource.image c.args.source.now) c.args.len (length-right c.args.len (search rules) (search rules)) c.open_blocks.result
    c.open_blocks.ensures.refused

pub returns-clause-sound : goal.returns-clause-sound
returns-clause-sound g c =
    ok-so c.open_blocks.result
    (λ (volume : NeededVolume) opened.
    opened-sound no_blocks_fault gathered_is_enough (g.S.BlockSource.image c.args.source.now) c.args.len
    (length-right c.args.len (search rules) (search rules)) volume opened) c.open_blocks.ensures.opened

pub returns-then-len-gt2147483648-clause-each_refused : goal.returns-then-len-gt2147483648-clause-each_refused
returns-then-len-gt2147483648-clause-each_refused g c = λ image h.
    length-refused fault.TooLarge (Some image) c.args.len (length-large c.args.len (search rules))

pub returns-then-len-lt1536-clause-each_refused : goal.returns-then-len-lt1536-clause-each_refused
returns-then-len-lt1536-clause-each_refused g c = λ image h.
    length-refused fault.Short (Some image) c.args.len (length-short c.args.len (search rules) (search rules))

pub returns-clause-each_refused : goal.returns-clause-each_refused
returns-clause-each_refused g c =
    errs-each (g.S.BlockSource.Holds c.open_blocks.new.source) c.args.len (length-right c.args.len (search rules) (search rules)) c.open_blocks.result c.open_blocks.ensures.each_refused

pub returns-clause-each_sound : goal.returns-clause-each_sound
returns-clause-each_sound g c =
    sound-each no_blocks_fault gathered_is_enough (g.S.BlockSource.Holds c.open_blocks.new.source) c.args.len (length-right c.args.len (search rules) (search rules)) (g.S.BlockSource.image c.args.source.now)
    c.open_blocks.result c.open_blocks.ensures.opened c.open_blocks.ensures.seen
