-- Extent by extent.
use Rattle.std.proofs.Common.{ℕ, ◌+◌, ◌++◌, [], List, Option, get_or, ap, sym, subst, ◌∙◌}
use Rattle.std.specs.List.{cons_option}
use Rattle.std.proofs.lemmas.List.{get_or_default}
use Rattle.hfs_fields.specs.declared.extent.Extent.{Extent}
use Rattle.hfs_put_sources.specs.declared.fork_run.ForkRun.{ForkRun}
use Rattle.hfs_put.proofs.ForkRunLists.{AreRunsSoFar, runs_end, runs_next}
use Rattle.hfs_put.proofs.extent_runs.push_extents.Goals as goal

-- what a list answers behind its end
abbrev none : Extent
none = record { first = 0; count = 0 }

pub loop-extent-preserved : goal.loop-extent-preserved
loop-extent-preserved c =
    let i = c.loop-extent.extent-index in
    let e : Extent = get_or c.args.extents.now i none in
    let runs : List ForkRun = c.loop-extent.runs.items in
    let more : List ForkRun = c.push_run.new.runs.items in
    let step : AreRunsSoFar c.args.mdb.now c.args.item c.args.fork c.args.extents.now c.args.runs.now.items (c.loop-extent.before + e.count) (i + 1) more =
    runs_next c.args.mdb.now c.args.item c.args.fork c.args.extents.now c.args.runs.now.items runs more c.loop-extent.before i e c.loop-extent-test.true
    (get_or_default c.args.extents.now i none e c.loop-extent-test.true)
    (c.in_ok-push_run.ensures ∙ ap (λ (o : Option ForkRun). runs ++ cons_option o []) c.run_at.ensures) c.loop-extent.invariant in
    subst (λ (n : ℕ). AreRunsSoFar c.args.mdb.now c.args.item c.args.fork c.args.extents.now c.args.runs.now.items (c.loop-extent.before + n) (i + 1) more)
    (sym c.from-before.ensures) step

pub returns : goal.returns
returns c =
    runs_end c.args.mdb.now c.args.item c.args.fork c.args.extents.now c.args.runs.now.items c.loop-extent.runs.items c.loop-extent.before c.loop-extent.extent-index
    c.loop-extent-test.false c.loop-extent.invariant
