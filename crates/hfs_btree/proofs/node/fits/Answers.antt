use Rattle.std.proofs.Common.{◌+◌, ap, length, arith}
use Rattle.hfs_btree.proofs.SizeLemmas.{size_of-take_more, size_of-take-le}
use Rattle.hfs_btree.proofs.node.fits.Goals as goal

pub returns-then-len-room : goal.returns-then-len-room
returns-then-len-room c =
    let all = size_of-take-le c.args.node.now.records (c.loop-i.i + 1) in
    let more = size_of-take_more c.args.node.now.records c.loop-i.i (omega arith) in
    let same = ap length c.record-len.ensures in
    (λ t. cc, λ fits. absurd (omega arith))
