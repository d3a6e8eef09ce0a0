-- one more end
use Rattle.std.proofs.Common.{arith}
use Rattle.hfs_page.proofs.ItemLemmas.{closed-more}
use Rattle.hfs_page.proofs.items.push_closings.Goals as goal

pub loop-left-preserved : goal.loop-left-preserved
loop-left-preserved c =
    closed-more c.loop-left.left c.loop-left.page.items c.push_bytes.new.page.items _ (omega arith) c.in_ok-push_bytes.ensures c.loop-left.invariant
