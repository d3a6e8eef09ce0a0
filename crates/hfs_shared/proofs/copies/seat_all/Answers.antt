use Rattle.std.proofs.Common.{◌≡◌, ◌∙◌, drop}
use Rattle.hfs_shared.proofs.Seeing.{seated}
use Rattle.hfs_shared.proofs.copies.seat_all.Goals as goal

pub loop-i-preserved : goal.loop-i-preserved
loop-i-preserved c =
    let i = c.loop-i.invariant in
    let same = c.seat_one.ensures.same in
    let pending : drop c.seat_one.new.writer.behind c.seat_one.new.writer.log.items ≡ drop c.loop-i.writer.behind c.loop-i.writer.log.items = λ j. drop (same.2 j) (same.1 j).items in
    let more = seated c.args.front.now c.loop-i.viewers.items c.seat_one.new.viewers.items c.loop-i._i i.3 i.4 c.in_default.ensures.viewer in
    (same.0 ∙ i.0, pending ∙ i.1, c.seat_one.ensures.view ∙ i.2, more.0, more.1)
