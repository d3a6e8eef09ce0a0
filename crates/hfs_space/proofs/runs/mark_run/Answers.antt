-- The walk through the fork's records marks its run.
use Rattle.std.proofs.Common.{◌≡◌, ◌+◌, Bool, List, length, get_or, sym, ap, ◌∙◌, arith}
use Rattle.std.proofs.lemmas.List.{get_or_default}
use Rattle.hfs_space.specs.Extents.{block_total, record_extents, goes_on, run_on}
use Rattle.hfs_space.specs.Runs.{is_of_fork}
use Rattle.hfs_space.proofs.RunSteps.{Record, end-begins, marks-begin, end-more, end-same, run-same, marks-more, run-ends, marks-end}
use Rattle.hfs_space.proofs.ForkOrder.{away_behind}
use Rattle.hfs_space.proofs.runs.mark_run.Goals as goal
use Rattle.hfs_space.proofs.runs.mark_run.Goals.{then-goes_on, else-goes_on}

pub loop-i-init : goal.loop-i-init
loop-i-init c =
    let first = block_total c.args.first.now in
    let byte = c.fork_byte-fork.result in
    record {
      ends = c.block_total-block.ensures.total ∙ sym (end-begins c.args.overflow.now c.requires.rises c.args.file byte first c.first_of_fork-i.result c.first_of_fork-i.ensures.bound c.first_of_fork-i.ensures.before);
      marked = marks-begin c.args.overflow.now c.requires.rises c.args.file byte first c.first_of_fork-i.result c.first_of_fork-i.ensures.bound c.first_of_fork-i.ensures.before c.args.marks.now;
    }

pub returns-then-not-is_of_fork : goal.returns-then-not-is_of_fork
returns-then-not-is_of_fork c =
    let xs = c.args.overflow.now in
    let first = block_total c.args.first.now in
    let byte = c.fork_byte-fork.result in
    let away = λ (d : Record). ap (is_of_fork c.args.file byte) (get_or_default xs c.loop-i.i d c.index-overflow-i.result c.loop-i-test.true ∙ sym c.index-overflow-i.is) ∙ sym c.is_of_fork.ensures ∙ c.if-not-is_of_fork.true in
    let run = run-ends xs c.requires.rises c.args.file byte first c.loop-i.i
    (λ k d le lt. away_behind xs c.requires.rises c.args.file byte c.loop-i.i k d le lt (c.first_of_fork-i.ensures.behind c.loop-i.i d (omega arith) c.loop-i-test.true) (away d)) in
    marks-end xs _ _ c.args.marks.now c.loop-i.marks (run ∙ ap (λ n. run_on c.args.file n first xs) c.fork_byte-fork.ensures) c.loop-i.invariant.marked

pub loop-i-preserved : goal.loop-i-preserved
loop-i-preserved c =
    let xs = c.args.overflow.now in
    let first = block_total c.args.first.now in
    let byte = c.fork_byte-fork.result in
    let d = c.index-overflow-i.result in
    let long : length c.loop-i.marks ≡ length c.args.overflow.now = omega arith in
    let test = sym (λ j. goes_on c.args.file byte (c.loop-i.invariant.ends j) (c.index-overflow-i.is j)) ∙ sym c.goes_on.ensures in
    elim c.if-goes_on.branch [
      | then-goes_on w ↦
          let e = test ∙ w.if-goes_on.true in
          let blocks = w.blocks_in-block.ensures.count ∙ ap (λ (r : Record). block_total (record_extents r.1)) c.index-overflow-i.is in
          record {
            ends = w.block-is ∙ (λ j. c.loop-i.invariant.ends j + blocks j) ∙ sym (end-more xs c.requires.rises c.args.file byte first c.loop-i.i d c.loop-i-test.true e);
            marked = λ k d' b lt. ap (λ (l : List Bool). get_or l k b) w.marks-is
                ∙ marks-more xs c.requires.rises c.args.file byte first c.loop-i.i d c.loop-i-test.true c.args.marks.now c.loop-i.marks long e c.loop-i.invariant.marked k d' b lt;
          }
      | else-goes_on w ↦
          let e = test ∙ w.if-goes_on.false in
          let same = sym (run-same xs c.requires.rises c.args.file byte first c.loop-i.i d c.loop-i-test.true e) in
          record {
            ends = w.block-is ∙ c.loop-i.invariant.ends ∙ sym (end-same xs c.requires.rises c.args.file byte first c.loop-i.i d c.loop-i-test.true e);
            marked = λ k d' b lt. ap (λ (l : List Bool). get_or l k b) w.marks-is ∙ marks-end xs _ _ c.args.marks.now c.loop-i.marks same c.loop-i.invariant.marked k d' b lt;
          }
    ]

pub returns : goal.returns
returns c =
    let xs = c.args.overflow.now in
    let first = block_total c.args.first.now in
    let run = run-ends xs c.requires.rises c.args.file c.fork_byte-fork.result first c.loop-i.i (λ k d le lt. absurd (omega arith)) in
    marks-end xs _ _ c.args.marks.now c.loop-i.marks (run ∙ ap (λ n. run_on c.args.file n first xs) c.fork_byte-fork.ensures) c.loop-i.invariant.marked
