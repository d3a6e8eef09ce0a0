-- Folder by folder.
use Rattle.std.proofs.Common.{rules, ◌≡◌, false}
use Rattle.hfs_check.specs.VolumeOf.{volume_of}
use Rattle.hfs_put_plan.specs.Put.{is_at, left}
use Rattle.hfs_put.specs.Faults.{IsLayFault}
use Rattle.hfs_put.specs.Folders.{opens}
use Rattle.hfs_put.proofs.FolderRows.{left_step, left_fault}
use Rattle.hfs_put.proofs.folders.leave.Goals as goal

pub returns-in_err-leave_one-clause-err : goal.returns-in_err-leave_one-clause-err
returns-in_err-leave_one-clause-err c =
    let all = left c.args.parent (volume_of c.args.volume.now.current) (opens c.args.now c.args.folders.now.items) in
    let test : is_at c.args.parent c.in-Some.folder.place ≡ false = search rules in
    let fault : IsLayFault all c.leave_one.new.volume.current c.in_err-leave_one.field-0.0 =
    left_fault c.args.parent c.args.now all (volume_of c.loop-folder.volume.current) c.pop.new.self.items c.loop-folder.folders.items c.in-Some.folder
    c.leave_one.new.volume.current c.in_err-leave_one.field-0.0 c.in-Some.ensures.items test c.in_err-leave_one.ensures.err c.loop-folder.invariant.left_is in
    search rules

pub loop-folder-preserved : goal.loop-folder-preserved
loop-folder-preserved c =
    let all = left c.args.parent (volume_of c.args.volume.now.current) (opens c.args.now c.args.folders.now.items) in
    let test : is_at c.args.parent c.in-Some.folder.place ≡ false = search rules in
    let kept : c.leave_one.new.volume.base ≡ c.args.volume.now.base = search rules in
    record {
      left_is = left_step c.args.parent c.args.now all (volume_of c.loop-folder.volume.current) (volume_of c.leave_one.new.volume.current) c.pop.new.self.items c.loop-folder.folders.items
          c.in-Some.folder c.in-Some.ensures.items test c.in_ok-leave_one.ensures.ok c.loop-folder.invariant.left_is;
      base = kept;
    }
