-- Whole bytes first, and then the bits that are left.
use Rattle.std.proofs.Common.{◌+◌, ◌*◌, ◌/◌, not, cond, ◌∙◌, arith, ap}
use Rattle.hfs_space.specs.Bitmap.{count_below, is_marked}
use Rattle.hfs_space.proofs.Marks.{clear-front, clear-bit}
use Rattle.hfs_space.proofs.CountingLemmas.{count_below-le}
use Rattle.hfs_space.proofs.bits.clear_in.Goals as goal
use Rattle.hfs_space.proofs.bits.clear_in.Goals.{then-not-is_marked, else-not-is_marked}

pub loop-i-init : goal.loop-i-init
loop-i-init c =
    let whole = c.clear_in_bytes-clear.ensures ∙ clear-front c.args.bytes.now (c.args.bits / 8) (c.args.bits / 8 * 8) (omega arith) (omega arith) in
    record {
      counted = whole;
      few = omega (arith, whole, count_below-le (λ k. not (is_marked c.args.bytes.now k)) (c.args.bits / 8 * 8));
    }

pub loop-i-preserved : goal.loop-i-preserved
loop-i-preserved c =
    let more = clear-bit c.args.bytes.now c.loop-i.i c.is_marked.result c.is_marked.ensures in
    elim c.if-not-is_marked.branch [
      | then-not-is_marked w ↦
          let one = more ∙ ap (λ b. count_below (λ k. not (is_marked c.args.bytes.now k)) c.loop-i.i + cond (not b) 1 0) w.if-not-is_marked.true in
          record { counted = omega (arith, one, c.loop-i.invariant.counted, w.clear-is); few = omega (arith, w.clear-is) }
      | else-not-is_marked w ↦
          let none = more ∙ ap (λ b. count_below (λ k. not (is_marked c.args.bytes.now k)) c.loop-i.i + cond (not b) 1 0) w.if-not-is_marked.false in
          record { counted = omega (arith, none, c.loop-i.invariant.counted, w.clear-is); few = omega (arith, w.clear-is) }
    ]
