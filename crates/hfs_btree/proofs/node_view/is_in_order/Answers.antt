use Rattle.std.proofs.Common.{sym, arith}
use Rattle.hfs_btree.proofs.InOrderLemmas.{many-in_order, fallen-in_order, end-in_order}
use Rattle.hfs_btree.proofs.node_view.is_in_order.Goals as goal

pub returns-then-count-gt248 : goal.returns-then-count-gt248
returns-then-count-gt248 c = sym (many-in_order c.args.bytes.now (omega arith))

pub returns-then-offset-least : goal.returns-then-offset-least
returns-then-offset-least c =
    sym (fallen-in_order c.args.bytes.now c.loop-i.i c.loop-i.least (omega arith) c.loop-i.invariant (omega arith))

pub returns : goal.returns
returns c =
    end-in_order c.args.bytes.now c.count_at-count.result c.loop-i.i c.loop-i.least c.count_at-count.ensures (omega arith) (omega arith) c.loop-i.invariant
