use Rattle.std.proofs.Common.{ap, ◌∙◌}
use Rattle.hfs_space.specs.Extents.{extent_blocks}
use Rattle.hfs_check.proofs.CountedReport.{report-is}
use Rattle.hfs_check.proofs.reporting.sound_report.Goals as goal

pub returns : goal.returns
returns g c =
    report-is (g.B.Blocks.total c.args.blocks.now) (g.B.Blocks.blocks c.args.blocks.now) c.args.checked.now.volume.mdb (extent_blocks c.deref.result.now)
    c.from.result c.in_ok-unowned.unowned c.alternate_in.result c.requires.sound c.requires.mdb (ap extent_blocks c.deref.ensures.value ∙ c.requires.owned)
    c.from.ensures c.alternate_in.ensures c.in_ok-unowned.ensures
