-- piece by piece
use Rattle.std.specs.Prelude.{codes}
use Rattle.hfs_page.specs.Facts.{count_row}
use Rattle.hfs_page.proofs.Joins.{joined-ok}
use Rattle.hfs_remains_page.specs.Facts.{blocks_rows}
use Rattle.hfs_remains_page.proofs.facts.push_blocks_rows.Goals as goal

pub returns : goal.returns
unfolding blocks_rows
returns c =
    joined-ok c.push_count_row.result _ _ _ (count_row (codes "Allocation blocks") c.args.mdb.now.allocation_blocks)
    (count_row (codes "Bytes of each block") c.args.mdb.now.allocation_block_size) c.in_ok-push_blocks_row.ensures c.push_count_row.ensures
