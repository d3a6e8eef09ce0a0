-- By the image's length.
use Rattle.std.proofs.Common.{rules}
use Rattle.hfs_check.specs.declared.mount_fault.MountFault.TheVariants as fault
use Rattle.hfs_image.proofs.Reported.{length-large, length-short}
use Rattle.hfs_copy.proofs.Mendings.{unmended-each, too-large, too-short, mended-all}
use Rattle.hfs_copy.proofs.mending.mend_needed.Goals as goal

pub returns-then-len-gt2147483648-clause-mended : goal.returns-then-len-gt2147483648-clause-mended
returns-then-len-gt2147483648-clause-mended g c =
    unmended-each (g.S.BlockSource.Holds c.args.source.now) c.args.len fault.TooLarge c.unmended.result.patch c.unmended.result.fixes.items c.unmended.result.fault
    (too-large c.args.len (search rules)) (length-large c.args.len (search rules)) c.unmended.ensures.patch c.unmended.ensures.fixes c.unmended.ensures.fault

pub returns-then-len-lt1536-clause-mended : goal.returns-then-len-lt1536-clause-mended
returns-then-len-lt1536-clause-mended g c =
    unmended-each (g.S.BlockSource.Holds c.args.source.now) c.args.len fault.Short c.unmended-then-len-lt1536.result.patch
    c.unmended-then-len-lt1536.result.fixes.items c.unmended-then-len-lt1536.result.fault (too-short c.args.len (search rules))
    (length-short c.args.len (search rules) (search rules)) c.unmended-then-len-lt1536.ensures.patch c.unmended-then-len-lt1536.ensures.fixes
    c.unmended-then-len-lt1536.ensures.fault

pub returns-clause-mended : goal.returns-clause-mended
returns-clause-mended g c =
    mended-all (g.S.BlockSource.Holds c.mend_blocks.new.source) c.args.len (search rules) (search rules) c.mend_blocks.result c.mend_blocks.ensures.mended
    c.mend_blocks.ensures.within
