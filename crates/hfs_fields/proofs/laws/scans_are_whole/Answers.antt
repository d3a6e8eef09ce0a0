use Rattle.hfs_fields.proofs.ScanLemmas.{scan_is_whole}
use Rattle.hfs_fields.proofs.laws.scans_are_whole.Goals as goal

pub returns : goal.returns
returns g c = scan_is_whole
