-- by the lengths of paths
use Rattle.hfs_remains_page.proofs.OnceLemmas.{things-stand-once}
use Rattle.hfs_remains_page.proofs.laws.things_stand_once.Goals as goal

pub returns : goal.returns
returns c = things-stand-once
