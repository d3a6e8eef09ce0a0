use Rattle.std.proofs.Common.{◌-◌, arith}
use Rattle.hfs_btree_insertion.proofs.PlaceBehind.{last-small}
use Rattle.hfs_btree_insertion.proofs.cut_place.part_place.Goals as goal

pub returns-then-forward-eq0-clause-second : goal.returns-then-forward-eq0-clause-second
returns-then-forward-eq0-clause-second c =
    let last = c.if-at-len.true in
    let more = c.if-at-gt1.true in
    let count = c.len.ensures.count in
    let small = last-small c.args.node.now.records (c.args.at - 1) (omega (arith, last, more, count)) c.requires.short in
    let len = c.requires.len in
    omega (arith, small, len)
