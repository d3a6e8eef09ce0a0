use Rattle.std.proofs.Common.{◌≡◌, ◌∙◌, inr, ℕ, ◌<◌, ◌≤◌, true, false, ap, sym, subst}
use Rattle.std.specs.Prelude.{IfOk}
use Rattle.hfs_fields.proofs.OutcomeLemmas.{if_err}
use Rattle.hfs_shared.specs.Shareds.{IsStart}
use Rattle.hfs_runs.specs.Jobs.{has_viewer}
use Rattle.hfs_runs.specs.declared.script_fault.ScriptFault.{ScriptFault}
use Rattle.hfs_runs.specs.declared.script_fault.ScriptFault.TheVariants as run
use Rattle.hfs_runs.specs.Runs.{IsStartFault}
use Rattle.hfs_runs.proofs.Reasons.{read_start}
use Rattle.hfs_runs.proofs.Small.{viewers-none, viewers_within, workers_within}
use Rattle.hfs_runs.proofs.starting.start.Goals as goal

pub start_read-requires-clause-workers : goal.start_read-requires-clause-workers
start_read-requires-clause-workers g c = subst (λ (n : ℕ). (0 < n) × (n ≤ 8)) (sym c.workers.ensures) (workers_within c.args.script.now c.requires)

pub start_read-requires-clause-viewers : goal.start_read-requires-clause-viewers
start_read-requires-clause-viewers g c = subst (λ (n : ℕ). (0 < n) × (n ≤ 8)) (sym c.viewers.ensures) (viewers_within c.args.script.now c.requires)

pub start_unread-requires : goal.start_unread-requires
start_unread-requires g c = subst (λ (n : ℕ). (0 < n) × (n ≤ 8)) (sym c.workers-2.ensures) (workers_within c.args.script.now c.requires)

pub returns-clause-ok : goal.returns-clause-ok
returns-clause-ok g c =
    let none : has_viewer c.args.script.now ≡ false = sym (c.if-has_viewer.ensures ∙ ap has_viewer c.lines.ensures) in
    subst (λ (y : ℕ × ℕ). IfOk c.start_unread.result (λ r. IsStart c.args.volume.current y.0 y.1 r.0 r.1.items r.2.items))
    (λ i. (c.workers-2.ensures i, sym (viewers-none c.args.script.now none) i)) c.start_unread.ensures.ok

pub returns-then-has_viewer-clause-err : goal.returns-then-has_viewer-clause-err
returns-then-has_viewer-clause-err g c =
    let used : has_viewer c.args.script.now ≡ true = sym (c.if-has_viewer.ensures ∙ ap has_viewer c.lines.ensures) in
    if_err c.start_read.result _ (IsStartFault c.args.script.now) (read_start c.args.script.now used) c.start_read.ensures.err

pub returns-clause-err : goal.returns-clause-err
returns-clause-err g c =
    if_err c.start_unread.result (λ (fault : ScriptFault). fault ≡ run.Memory) (IsStartFault c.args.script.now) (λ fault is. inr is) c.start_unread.ensures.err
