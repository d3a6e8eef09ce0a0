-- What a run made of the copy, and what goes out.
use Rattle.std.proofs.Common.{◌≡◌, ℕ, List, ap, subst, sym, ◌∙◌}
use Rattle.std.specs.List.{flat_map}
use Rattle.std.specs.Prelude.{MatchOption, false}
use Rattle.hfs_blocks.specs.declared.run.Run.{Run}
use Rattle.hfs_blocks.specs.Blocks.{block_count, run_of}
use Rattle.hfs_runs.specs.Pieces.{text_of_pieces}
use Rattle.hfs_runs.specs.Runs.{AreLinesRun}
use Rattle.hfs_scripts.specs.declared.lines.ScriptLine.{ScriptLine}
use Rattle.hfs_source.specs.Sparse.{sparse}
use Rattle.hfs_runs.specs.NamedForks.{AreScriptFiles}
use Rattle.hfs_runs.specs.Naming.{read_forks}
use Rattle.hfs_copy.specs.GivenBack.{AreKeptOf}
use Rattle.hfs_copy.specs.Keeping.{LieIn}
use Rattle.hfs_runs.proofs.RunOver.{among-base, lie-in, passed-on, run-over}
use Rattle.hfs_runs.proofs.needed_running.run_needed_at.Goals as goal

pub kept_blocks-requires-clause-forks : goal.kept_blocks-requires-clause-forks
kept_blocks-requires-clause-forks g c =
    subst (λ (runs : List Run). LieIn (block_count c.in_ok-volume.field-0.volume.base) runs) (sym c.deref.ensures.value)
    (lie-in _ c.args.script c.in_ok-volume.field-0.volume (text_of_pieces c.in_ok-volume.field-0.answers) c.in_ok-volume.field-0.whole c.in_ok-volume.field-0.shown c.in_ok-volume.field-0.answers.replies.workers.items
    c.in_ok-volume.ensures.ok c.in_ok-files.files c.in_ok-forks.forks.items c.in_ok-forks.ensures.forks c.in_ok-forks.ensures.none)

pub kept_blocks-requires-clause-free : goal.kept_blocks-requires-clause-free
kept_blocks-requires-clause-free g c =
    subst (λ (runs : List Run). LieIn (block_count c.in_ok-volume.field-0.volume.base) runs) (sym c.deref-2.ensures.value)
    (among-base _ c.args.script c.in_ok-volume.field-0.volume (text_of_pieces c.in_ok-volume.field-0.answers) c.in_ok-volume.field-0.whole c.in_ok-volume.field-0.shown c.in_ok-volume.field-0.answers.replies.workers.items
    c.in_ok-volume.ensures.ok c.in_ok-free.free.items c.in_ok-free.ensures.free.within)

pub returns-clause-ran : goal.returns-clause-ran
returns-clause-ran g c =
    let made = run-over c.args.working.read c.args.len c.args.working.count c.args.working.sound.mdb c.args.working.sound.trees c.requires.working c.requires.sound c.args.script
    c.in_ok-volume.field-0.volume (text_of_pieces c.in_ok-volume.field-0.answers) c.in_ok-volume.field-0.whole c.in_ok-volume.field-0.shown c.in_ok-volume.field-0.answers.replies.workers.items
    (subst (λ (base : List ℕ). AreLinesRun base c.args.script c.in_ok-volume.field-0.volume (text_of_pieces c.in_ok-volume.field-0.answers) c.in_ok-volume.field-0.whole
    c.in_ok-volume.field-0.shown c.in_ok-volume.field-0.answers.replies.workers.items) c.in-Ok.ensures.current c.in_ok-volume.ensures.ok)
    c.in_ok-forks.forks.items c.in_ok-free.free.items c.in_ok-patch.patch c.in_ok-patch.ensures.makes
    (subst (λ (runs : List Run × List Run). AreKeptOf c.in_ok-volume.field-0.volume (flat_map run_of runs.0) (flat_map run_of runs.1) c.in_ok-patch.patch)
    (λ i. (c.deref.ensures.value i, c.deref-2.ensures.value i)) c.in_ok-patch.ensures.kept)
    c.in_ok-files.files
    (subst (λ (lines : List ScriptLine). MatchOption c.in_ok-files.files (read_forks lines ≡ false) (AreScriptFiles (sparse c.args.working.read) lines)) c.lines.ensures
    c.in_ok-files.ensures)
    c.in_ok-forks.ensures.forks c.in_ok-forks.ensures.none c.in_ok-free.ensures.free c.in_ok-free.ensures.none in
    made.0

pub returns-clause-within : goal.returns-clause-within
returns-clause-within g c =
    let made = run-over c.args.working.read c.args.len c.args.working.count c.args.working.sound.mdb c.args.working.sound.trees c.requires.working c.requires.sound c.args.script
    c.in_ok-volume.field-0.volume (text_of_pieces c.in_ok-volume.field-0.answers) c.in_ok-volume.field-0.whole c.in_ok-volume.field-0.shown c.in_ok-volume.field-0.answers.replies.workers.items
    (subst (λ (base : List ℕ). AreLinesRun base c.args.script c.in_ok-volume.field-0.volume (text_of_pieces c.in_ok-volume.field-0.answers) c.in_ok-volume.field-0.whole
    c.in_ok-volume.field-0.shown c.in_ok-volume.field-0.answers.replies.workers.items) c.in-Ok.ensures.current c.in_ok-volume.ensures.ok)
    c.in_ok-forks.forks.items c.in_ok-free.free.items c.in_ok-patch.patch c.in_ok-patch.ensures.makes
    (subst (λ (runs : List Run × List Run). AreKeptOf c.in_ok-volume.field-0.volume (flat_map run_of runs.0) (flat_map run_of runs.1) c.in_ok-patch.patch)
    (λ i. (c.deref.ensures.value i, c.deref-2.ensures.value i)) c.in_ok-patch.ensures.kept)
    c.in_ok-files.files
    (subst (λ (lines : List ScriptLine). MatchOption c.in_ok-files.files (read_forks lines ≡ false) (AreScriptFiles (sparse c.args.working.read) lines)) c.lines.ensures
    c.in_ok-files.ensures)
    c.in_ok-forks.ensures.forks c.in_ok-forks.ensures.none c.in_ok-free.ensures.free c.in_ok-free.ensures.none in
    made.1

pub returns-in_err-forks-clause-err : goal.returns-in_err-forks-clause-err
returns-in_err-forks-clause-err g c = passed-on c.args.script c.from_residual-in_err-forks.result _ (λ fault is. is) c.from_residual-in_err-forks.ensures.1

pub returns-in_err-free-clause-err : goal.returns-in_err-free-clause-err
returns-in_err-free-clause-err g c = passed-on c.args.script c.from_residual-in_err-free.result _ (λ fault is. is) c.from_residual-in_err-free.ensures.1

pub returns-in_err-patch-clause-err : goal.returns-in_err-patch-clause-err
returns-in_err-patch-clause-err g c = passed-on c.args.script c.from_residual-in_err-patch.result _ (λ fault is. is) c.from_residual-in_err-patch.ensures.1
