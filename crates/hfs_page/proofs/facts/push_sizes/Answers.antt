-- piece by piece
use Rattle.std.proofs.Common.{◌++◌}
use Rattle.std.specs.Prelude.{codes}
use Rattle.hfs_page.specs.Facts.{count_row}
use Rattle.hfs_page.specs.Facts.{sizes_text}
use Rattle.hfs_page.proofs.Joins.{joined, joined-ok}
use Rattle.hfs_page.proofs.facts.push_sizes.Goals as goal

pub returns : goal.returns
unfolding sizes_text
returns c = joined-ok c.push_blocks_row-2.result _ _ _ ((count_row (codes "Allocation blocks") c.args.mdb.now.allocation_blocks) ++ (count_row (codes "Bytes of each block") c.args.mdb.now.allocation_block_size)) (count_row (codes "Free blocks") c.args.mdb.now.free_blocks) (joined _ _ _ (count_row (codes "Allocation blocks") c.args.mdb.now.allocation_blocks) (count_row (codes "Bytes of each block") c.args.mdb.now.allocation_block_size) c.in_ok-push_blocks_row.ensures c.in_ok-push_count_row.ensures) c.push_blocks_row-2.ensures
