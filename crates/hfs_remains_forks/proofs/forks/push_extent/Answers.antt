use Rattle.std.proofs.Common.{◌+◌, ◌-◌, ◌++◌, ap, ◌∙◌, map, take, length, arith}
use Rattle.std.specs.List.{range_with_len}
use Rattle.hfs_remains.specs.TreeFiles.{FileBlocks}
use Rattle.hfs_remains_forks.specs.Forks.{there}
use Rattle.hfs_remains_forks.proofs.BlockLemmas.{step-block}
use Rattle.hfs_remains_forks.proofs.forks.push_extent.Goals as goal

pub loop-i-preserved : goal.loop-i-preserved
loop-i-preserved c =
    let a = c.args in
    let f = there a.total a.mdb.now in
    let i = c.loop-i.i in
    let is = c.there.ensures ∙ (λ t. f (c.from.ensures t + c.from-in-loop-i.ensures t)) in
    ap (λ (l : FileBlocks). l ++ map f (take (a.wanted - length l) (range_with_len (a.extent.first + (i + 1)) (a.extent.count - (i + 1))))) c.in_ok-push.ensures.items
    ∙ step-block f c.loop-i.places.items a.wanted a.extent.first a.extent.count i c.there.result c.loop-i-test.true (omega (arith, c.len.ensures, c.if-len-wanted.false, c.loop-i.places.ok.0)) is
    ∙ c.loop-i.invariant
