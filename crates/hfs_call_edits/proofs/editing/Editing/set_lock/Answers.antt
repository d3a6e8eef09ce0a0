-- The patch makes the call's step, and the call answers nothing.
use Rattle.std.proofs.Common.{rules, ◌≡◌, ℕ, Bool, true, false, List, refl}
use Rattle.hfs_check.specs.VolumeOf.{volume_in}
use Rattle.hfs_record_edits.specs.SettingLaws.{lock_call}
use Rattle.hfs_model.specs.Choices.{file_to_change}
use Rattle.hfs_model.specs.Need.{need}
use Rattle.hfs_call_edits.proofs.Edited.{lock_refused, lock_accepted, change_of, refusal_of, file_choice, editing_now}
use Rattle.hfs_record_edits.proofs.LawsProved.{catalog_edits_are_steps}
use Rattle.hfs_call_edits.proofs.editing.Editing.set_lock.Goals as goal

pub patch_set_lock-requires-clause-chosen : goal.patch_set_lock-requires-clause-chosen
patch_set_lock-requires-clause-chosen g c = record {
  dir = c.args.dir;
  name = c.args.name.now;
  chosen = file_choice g.B.Blocks.blocks g.B.Blocks.total c.args.self.now c.self.inside.volume.blocks.now c.self.view_is (λ v. file_to_change v c.args.dir c.args.name.now) c.in-Ok.found.key c.in-Ok.found.file
      c.in-Ok.ensures.chosen.choice;
}

none : (locked : Bool) (dir : ℕ) (name : List ℕ) (now depth : ℕ) → need (lock_call locked dir name now) depth ≡ 0
none true dir name now depth = refl
none false dir name now depth = refl

pub returns-in-Err : goal.returns-in-Err
returns-in-Err g c =
    let old = g.B.Blocks.blocks c.args.self.now in
    let refused = refusal_of (lock_call c.args.locked c.args.dir c.args.name.now c.args.now) old (none c.args.locked c.args.dir c.args.name.now c.args.now) c.in-Err.code
    (lock_refused (volume_in old) c.args.dir c.args.now c.args.name.now c.args.locked c.in-Err.code c.in-Err.ensures.chosen) in
    search rules

pub returns : goal.returns
returns g c =
    let blocks = g.B.Blocks.blocks in
    let value = c.args.self.now in
    let own = c.self.inside.volume.blocks.now in
    let chosen = c.in-Ok.ensures.chosen.choice in
    change_of blocks g.B.Blocks.total value own c.self.view_is catalog_edits_are_steps (lock_call c.args.locked c.args.dir c.args.name.now c.args.now) (none c.args.locked c.args.dir c.args.name.now c.args.now)
    c.in_ok-patch.patch c.args.now c.change.result c.change.ensures
    (editing_now blocks g.B.Blocks.total value own c.self.view_is _ _ _ c.self.invariant).sound c.in_ok-patch.ensures.within
    (c.in_ok-patch.ensures.makes c.args.dir c.args.name.now
    (file_choice blocks g.B.Blocks.total value own c.self.view_is (λ v. file_to_change v c.args.dir c.args.name.now) c.in-Ok.found.key c.in-Ok.found.file chosen))
    (lock_accepted (volume_in (blocks value)) c.args.dir c.args.now c.args.name.now c.args.locked _ chosen.choice.is)
