-- The volume is mounted over its bytes as they are.
use Rattle.hfs_volume.proofs.Anew.{mounted-anew}
use Rattle.hfs_check.proofs.LawsProved.{agrees_with_itself}
use Rattle.hfs_volume.proofs.volume.Volume.mounted_anew.Goals as goal

pub new-requires : goal.new-requires
new-requires c =
    mounted-anew c.self.inside.image c.in-Ok.image c.self.inside.mdb c.self.inside.extents.items c.self.inside.catalog.items agrees_with_itself c.self.invariant
    c.in-Ok.ensures.base c.in-Ok.ensures.current c.in-Ok.ensures.written
