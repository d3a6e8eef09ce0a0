use Rattle.std.proofs.Common.{sym, arith}
use Rattle.hfs_btree.proofs.DecodingLemmas.{low-outside, high-outside, all-inside}
use Rattle.hfs_btree.proofs.node_view.is_inside.Goals as goal
use Rattle.hfs_btree.proofs.node_view.is_inside.Goals.{then-offset-lt14-via-then-offset-lt14, then-offset-lt14-via-else-offset-lt14+then-offset-row}

pub returns-then-offset-lt14 : goal.returns-then-offset-lt14
returns-then-offset-lt14 c =
    elim c.then-offset-lt14.branch [
      | then-offset-lt14-via-then-offset-lt14 w ↦ sym (low-outside c.args.bytes.now c.loop-i.i (omega arith) (omega arith))
      | then-offset-lt14-via-else-offset-lt14+then-offset-row w ↦ sym (high-outside c.args.bytes.now c.loop-i.i (omega arith) (omega arith))
    ]

pub returns : goal.returns
returns c = sym (all-inside c.args.bytes.now c.loop-i.i (omega arith) (omega arith) c.loop-i.invariant)
