-- Nothing has a place.
use Rattle.hfs_blocks.proofs.TableLemmas.{empty-table}
use Rattle.hfs_blocks.proofs.patch.Patch.new.Goals as goal

pub invariant_of-result : goal.invariant_of-result
invariant_of-result c = empty-table _ _ _ c.new.ensures.items c.new-2.ensures.items c.new-3.ensures.empty
