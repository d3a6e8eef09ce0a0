use Rattle.std.proofs.Common.{◌≡◌, List, ℕ, subst}
use Rattle.hfs_fields.proofs.OutcomeLemmas.{if_err, if_ok}
use Rattle.hfs_runs.specs.Runs.{AreLinesRunAs, IsRunFault, IsScriptRunAs, IsStartFault}
use Rattle.hfs_runs.proofs.Reasons.{start_fault}
use Rattle.hfs_runs.proofs.Small.{script_small}
use Rattle.hfs_runs.proofs.running.run_script_at.Goals as goal

pub run_volume_at-requires-clause-small : goal.run_volume_at-requires-clause-small
run_volume_at-requires-clause-small g c lifetimes lives = script_small c.args.now c.args.script.now c.in-Ok.script c.in-Ok.ensures

pub returns-clause-err : goal.returns-clause-err
returns-clause-err g c =
    if_err c.run_volume_at.result (IsStartFault c.in-Ok.script) (IsRunFault c.args.now c.args.script.now c.args.image.items)
    (start_fault c.args.now c.args.script.now c.args.image.items c.in-Ok.script c.in-Ok.ensures c.in_ok-volume.ensures.sound) c.run_volume_at.ensures.err

pub returns-clause-ok : goal.returns-clause-ok
returns-clause-ok g c =
    let image = c.args.image.items in
    let same : c.in_ok-volume.volume.current ≡ image = c.in_ok-volume.ensures.current in
    if_ok c.run_volume_at.result (AreLinesRunAs c.in_ok-volume.volume.current c.in-Ok.script) (IsScriptRunAs c.args.now c.args.script.now image)
    (λ ran is. record {
      lines = c.in-Ok.script;
      reads = c.in-Ok.ensures;
      sound = c.in_ok-volume.ensures.sound;
      ran = subst (λ (bytes : List ℕ). AreLinesRunAs bytes c.in-Ok.script ran) same is;
    })
    c.run_volume_at.ensures.ok
