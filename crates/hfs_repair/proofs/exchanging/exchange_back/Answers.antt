use Rattle.std.proofs.Common.{◌-◌, take, sym, ap, ◌∙◌, arith, get_or}
use Rattle.hfs_repair.specs.Puts.{put_back}
use Rattle.hfs_repair.proofs.PutSteps.{back-step, set-past}
use Rattle.hfs_repair.proofs.exchanging.exchange_back.Goals as goal

pub loop-left-preserved-then-put-image : goal.loop-left-preserved-then-put-image
loop-left-preserved-then-put-image c =
    let within = c.loop-left.invariant.within in
    let some = c.loop-left-test.true in
    record {
      within = omega arith;
      same = back-step c.args.puts.now c.loop-left.left (c.loop-left.left - 1) _ c.loop-left.image (omega arith) within ∙ c.loop-left.invariant.same;
    }

pub loop-left-preserved : goal.loop-left-preserved
loop-left-preserved c =
    let within = c.loop-left.invariant.within in
    let some = c.loop-left-test.true in
    let past = c.if-put-image.false in
    let less = c.loop-left.left - 1 in
    record {
      within = omega arith;
      same =
          ap (put_back (take less c.args.puts.now)) (sym (set-past c.loop-left.image (get_or c.args.puts.now less (record { at = 0; byte = 0 })).at (get_or c.args.puts.now less (record { at = 0; byte = 0 })).byte (omega arith)))
          ∙ back-step c.args.puts.now c.loop-left.left less _ c.loop-left.image (omega arith) within ∙ c.loop-left.invariant.same;
    }
