-- Item by item.
use Rattle.hfs_rescue_items.proofs.SumLemmas.{one_more}
use Rattle.hfs_rescue_items.proofs.sums.sums_of.Goals as goal

pub loop-i-preserved : goal.loop-i-preserved
loop-i-preserved c =
    let added = c.added-sums.ensures in
    one_more c.args.found.now c.loop-i.i c.loop-i.sums c.in_ok-item.item c.added-sums.result c.loop-i.invariant c.in_ok-item.ensures added.files added.folders added.bytes added.whole
