-- The runs are taken extent by extent.
use Rattle.std.proofs.Common.{◌≡◌, ◌+◌, ◌-◌, ◌∷◌, [], ◌++◌, sym, ap, subst, ◌∙◌, arith}
use Rattle.std.specs.List.{flat_map}
use Rattle.hfs_fields.specs.declared.extent.Extent.{Extent}
use Rattle.hfs_blocks.specs.Blocks.{run_of}
use Rattle.hfs_space.specs.TreeFiles.{tree_blocks}
use Rattle.hfs_space.proofs.TreeFileLemmas.{nodes_in-tree_blocks}
use Rattle.hfs_space.proofs.TreeRuns.{AreRunsOf, one-more, none-more, runs-end}
use Rattle.hfs_space.proofs.tree_file.tree_runs.Goals as goal
use Rattle.hfs_space.proofs.tree_file.tree_runs.Goals.{then-run-gt0+in_ok-push, else-run-gt0}

abbrev none : Extent
none = record { first = 0; count = 0 }

pub loop-extent-preserved : goal.loop-extent-preserved
loop-extent-preserved g c =
    let mdb = c.args.mdb.now in
    let extents = c.args.extents.now in
    let total = g.B.Blocks.total c.args.blocks.now in
    let i = c.loop-extent.extent-index in
    let rest = c.loop-extent.rest in
    let run = c.first_blocks-run.result in
    let runs = c.loop-extent.runs.items in
    let found = c.first_blocks-run.ensures in
    elim c.if-run-gt0.branch [
      | then-run-gt0+in_ok-push w ↦
          let k = c.div_ceil-nodes.result - rest in
          let items : c.if-run-gt0.runs.items ≡ runs ++ record { first = run.first; count = run.count; before = k } ∷ [] = ap (λ v. v.items) w.runs-is ∙ w.in_ok-push.ensures.items in
          subst (λ l. AreRunsOf mdb extents c.args.size total l c.if-run-gt0.rest (i + 1)) (sym items)
          (subst (λ n. AreRunsOf mdb extents c.args.size total (runs ++ record { first = run.first; count = run.count; before = k } ∷ []) n (i + 1)) (sym w.rest-is)
          (one-more mdb extents c.args.size total runs rest i none run c.loop-extent.invariant c.loop-extent-test.true found.run found.count k (omega (arith, c.loop-extent.invariant.few, c.div_ceil-nodes.ensures)) found.inside))
      | else-run-gt0 w ↦
          subst (λ l. AreRunsOf mdb extents c.args.size total l c.if-run-gt0.rest (i + 1)) (sym (ap (λ v. v.items) w.runs-is))
          (subst (λ n. AreRunsOf mdb extents c.args.size total runs n (i + 1)) (sym w.rest-is)
          (none-more mdb extents c.args.size total runs rest i none run c.loop-extent.invariant c.loop-extent-test.true found.run found.count (omega (arith, w.if-run-gt0.false))))
    ]

pub returns-clause-numbers : goal.returns-clause-numbers
unfolding tree_blocks
returns-clause-numbers g c =
    sym (runs-end c.args.mdb.now c.args.extents.now c.loop-extent.extent-index c.loop-extent.rest (flat_map run_of c.loop-extent.runs.items) (omega (arith, c.loop-extent-test.false))) ∙ c.loop-extent.invariant.all

pub returns-clause-nodes : goal.returns-clause-nodes
unfolding tree_blocks
returns-clause-nodes g c =
    nodes_in-tree_blocks (g.B.Blocks.blocks c.args.blocks.now) c.args.mdb.now c.args.extents.now c.args.size c.loop-extent.runs.items
    (sym (runs-end c.args.mdb.now c.args.extents.now c.loop-extent.extent-index c.loop-extent.rest (flat_map run_of c.loop-extent.runs.items) (omega (arith, c.loop-extent-test.false))) ∙ c.loop-extent.invariant.all)
