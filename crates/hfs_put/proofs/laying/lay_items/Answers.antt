-- Item by item.
use Rattle.std.proofs.Common.{rules, ◌≡◌, ℕ, ◌+◌, List, [], map, sym, ◌∙◌, ap, subst}
use Rattle.hfs_check.specs.VolumeOf.{volume_of}
use Rattle.hfs_put_plan.specs.Put.{put_from}
use Rattle.hfs_put.specs.Faults.{IsAbsentAt, IsLayFault}
use Rattle.hfs_put.specs.Folders.{opens}
use Rattle.hfs_put.specs.Laying.{IsAbsence, IsFaultOfLaying, LacksOne, bare, one_laid}
use Rattle.hfs_put.proofs.Absences.{absence_is, front_next, no_absence}
use Rattle.hfs_put.specs.declared.faults.LayFault.{LayFault}
use Rattle.hfs_put.proofs.LaidLists.{AreLeft, fault_all, laid_all, last_fault, list_done, list_fault, list_step}
use Rattle.hfs_put.proofs.laying.lay_items.Goals as goal

pub returns-in_err-id-clause-err : goal.returns-in_err-id-clause-err
returns-in_err-id-clause-err c =
    let target = c.args.target in
    let now = c.args.now in
    let items = c.args.items.now in
    let old = volume_of c.args.volume.now.current in
    let v = volume_of c.loop-item.volume.current in
    let folders = opens now c.loop-item.folders.items in
    let image = c.lay_one.new.volume.current in
    let fault : LayFault = c.in_err-id.field-0.0 in
    let place : c.len-place.result ≡ c.loop-item.item-index = search rules in
    let own : IsLayFault (one_laid target now c.loop-item.item-index c.item-item.result v folders) image fault =
    subst (λ (n : ℕ). IsLayFault (one_laid target now n c.item-item.result v folders) image fault) place c.in_err-id.ensures.err in
    let all : IsFaultOfLaying target now items old image fault =
    fault_all target now old items image fault
    (list_fault target now items (put_from target now 0 old [] (map bare items)) c.loop-item.ids.items v folders c.loop-item.item-index c.item-item.result image fault
    c.loop-item-test.true c.item-item.is own c.loop-item.invariant.laid) in
    search rules

pub returns-in_err-id-clause-absent : goal.returns-in_err-id-clause-absent
returns-in_err-id-clause-absent c =
    let target = c.args.target in
    let now = c.args.now in
    let items = c.args.items.now in
    let old = volume_of c.args.volume.now.current in
    let v = volume_of c.loop-item.volume.current in
    let w = volume_of c.lay_one.new.volume.current in
    let folders = opens now c.loop-item.folders.items in
    let fault : LayFault = c.in_err-id.field-0.0 in
    let place : c.len-place.result ≡ c.loop-item.item-index = search rules in
    let own : IsAbsentAt c.loop-item.item-index (LacksOne target now c.item-item.result v folders w) fault =
    subst (λ (n : ℕ). IsAbsentAt n (LacksOne target now c.item-item.result v folders w) fault) place c.in_err-id.ensures.absent in
    let all : IsAbsence target now items old w fault =
    absence_is target now items c.loop-item.item-index old v w folders c.item-item.result fault c.loop-item-test.true c.item-item.is c.loop-item.invariant.front own in
    search rules

pub returns-in_err-leave-clause-absent : goal.returns-in_err-leave-clause-absent
returns-in_err-leave-clause-absent c =
    let fault : LayFault = c.in_err-leave.field-0.0 in
    let all : IsAbsence c.args.target c.args.now c.args.items.now (volume_of c.args.volume.now.current) (volume_of c.leave.new.volume.current) fault =
    no_absence c.args.target c.args.now c.args.items.now (volume_of c.args.volume.now.current) (volume_of c.leave.new.volume.current) fault c.in_err-leave.ensures.absent in
    search rules

pub loop-item-preserved : goal.loop-item-preserved
loop-item-preserved c =
    let target = c.args.target in
    let now = c.args.now in
    let items = c.args.items.now in
    let old = volume_of c.args.volume.now.current in
    let v = volume_of c.loop-item.volume.current in
    let w = volume_of c.lay_one.new.volume.current in
    let folders = opens now c.loop-item.folders.items in
    let more = opens now c.lay_one.new.folders.items in
    let id = c.in_ok-id.id in
    let place : c.len-place.result ≡ c.loop-item.item-index = search rules in
    let own : one_laid target now c.loop-item.item-index c.item-item.result v folders ≡ _ =
    ap (λ (n : ℕ). one_laid target now n c.item-item.result v folders) (sym place) ∙ c.in_ok-id.ensures.ok in
    record {
      count = search rules;
      front = front_next target now items c.loop-item.item-index id old v w folders more c.item-item.result c.loop-item-test.true c.item-item.is own c.loop-item.invariant.front;
      laid = subst (λ (ids : List ℕ). AreLeft target now items (put_from target now 0 old [] (map bare items)) ids w more (c.loop-item.item-index + 1)) (sym c.in_ok-push.ensures.items)
          (list_step target now items (put_from target now 0 old [] (map bare items)) c.loop-item.ids.items v w folders more c.loop-item.item-index id c.item-item.result
          c.loop-item-test.true c.item-item.is own c.loop-item.invariant.laid);
      base = search rules;
    }

pub returns-in_err-leave-clause-err : goal.returns-in_err-leave-clause-err
returns-in_err-leave-clause-err c =
    let target = c.args.target in
    let now = c.args.now in
    let items = c.args.items.now in
    let old = volume_of c.args.volume.now.current in
    let image = c.leave.new.volume.current in
    let fault : LayFault = c.in_err-leave.field-0.0 in
    let all : IsFaultOfLaying target now items old image fault =
    fault_all target now old items image fault
    (last_fault target now items (put_from target now 0 old [] (map bare items)) c.loop-item.ids.items (volume_of c.loop-item.volume.current)
    (opens now c.loop-item.folders.items) c.loop-item.item-index image fault c.loop-item-test.false c.in_err-leave.ensures.err c.loop-item.invariant.laid) in
    search rules

pub returns-clause-ok : goal.returns-clause-ok
returns-clause-ok c =
    let target = c.args.target in
    let now = c.args.now in
    let items = c.args.items.now in
    let old = volume_of c.args.volume.now.current in
    laid_all target now old (volume_of c.leave.new.volume.current) items c.loop-item.ids.items
    (list_done target now items (put_from target now 0 old [] (map bare items)) c.loop-item.ids.items (volume_of c.loop-item.volume.current) (volume_of c.leave.new.volume.current)
    (opens now c.loop-item.folders.items) (opens now c.leave.new.folders.items) c.loop-item.item-index c.loop-item-test.false c.in_ok-leave.ensures.ok c.loop-item.invariant.laid)
