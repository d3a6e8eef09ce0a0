-- The law, by the laws of the crates below.
use Rattle.hfs_record_edits.proofs.LawsProved.{catalog_edits_are_steps}
use Rattle.hfs_record_edits.proofs.laws.catalog_edits_are_steps.Goals as goal

pub returns : goal.returns
returns c = catalog_edits_are_steps
