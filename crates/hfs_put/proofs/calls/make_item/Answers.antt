-- Call by call.
use Rattle.std.proofs.Common.{rules, ◌≡◌, ◌≤◌, length, arith}
use Rattle.hfs_check.specs.VolumeOf.{volume_of}
use Rattle.hfs_put_plan.specs.Accepted.{all_accepted}
use Rattle.hfs_put_plan.specs.Calls.{somes, making}
use Rattle.hfs_put.specs.Faults.{IsCallFault}
use Rattle.hfs_put.proofs.CallRows.{few-made, row-done, row-fault, row-step}
use Rattle.hfs_put.proofs.calls.make_item.Goals as goal

pub loop-place-preserved : goal.loop-place-preserved
loop-place-preserved c =
    let kept : c.make_any.new.volume.base ≡ c.args.volume.now.base = search rules in
    record {
      calls = row-step (making c.args.dir c.args.item.now c.args.now) (volume_of c.args.volume.now.current) (volume_of c.loop-place.volume.current) (volume_of c.make_any.new.volume.current)
          c.loop-place.place c.in_ok-call.call c.in_ok-call.ensures c.in_ok-make_any.ensures.ok c.loop-place.invariant.calls;
      base = kept;
    }

pub returns-in_err-make_any-clause-err : goal.returns-in_err-make_any-clause-err
returns-in_err-make_any-clause-err c =
    let all = all_accepted (volume_of c.args.volume.now.current) (somes (making c.args.dir c.args.item.now c.args.now)) in
    let fault : IsCallFault all c.make_any.new.volume.current c.in_err-make_any.field-0.0 =
    row-fault (making c.args.dir c.args.item.now c.args.now) (volume_of c.args.volume.now.current) (volume_of c.loop-place.volume.current) c.loop-place.place
    c.in_ok-call.call c.make_any.new.volume.current c.in_err-make_any.field-0.0 c.in_ok-call.ensures c.in_err-make_any.ensures.err c.loop-place.invariant.calls in
    search rules

pub returns-clause-ok : goal.returns-clause-ok
returns-clause-ok c =
    let few : length (making c.args.dir c.args.item.now c.args.now) ≤ 5 = few-made c.args.dir c.args.item.now c.args.now in
    let past = c.loop-place-test.false in
    row-done (making c.args.dir c.args.item.now c.args.now) (volume_of c.args.volume.now.current) (volume_of c.loop-place.volume.current) c.loop-place.place (omega (arith, few, past))
    c.loop-place.invariant.calls
