use Rattle.std.proofs.Common.{◌≡◌, length, drop, All}
use Rattle.left_right.specs.Sides.{view as seat_view}
use Rattle.hfs_shared.proofs.copies.seat_all.Given as goal

abbrev pub invariant-loop-i : goal.invariant-loop-i
invariant-loop-i l =
    (l.writer.desk.shown ≡ l.initial.writer.desk.shown)
    × (drop l.writer.behind l.writer.log.items ≡ drop l.initial.writer.behind l.initial.writer.log.items)
    × (seat_view l.writer.desk.place ≡ seat_view l.initial.writer.desk.place)
    × (length l.viewers.items ≡ l._i)
    × All (λ k. k ≡ l.front) l.viewers.items
