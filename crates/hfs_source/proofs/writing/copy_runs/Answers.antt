-- Run by run.
use Rattle.std.proofs.Common.{◌≡◌, Some, ◌+◌, ℕ, List, take, drop, length, refl, get_or, subst, ◌∙◌, arith, rules}
use Rattle.std.specs.List.{flat_map}
use Rattle.std.proofs.lemmas.List.FromFn.{length-range_with_len}
use Rattle.hfs_fields.proofs.OutcomeLemmas.{on_err}
use Rattle.hfs_blocks.specs.declared.run.Run.{Run}
use Rattle.hfs_blocks.specs.Blocks.{run_of}
use Rattle.hfs_source.specs.Seen.{EachKnown}
use Rattle.hfs_source.specs.Writing.{WritesSomeRuns, blocks_of}
use Rattle.hfs_source.proofs.Written.{GoesOnWith, with-next, with-part, split-runs, runs-written, filled-room}
use Rattle.hfs_source.proofs.writing.copy_runs.Goals as goal

-- what a list answers behind its end
abbrev none : Run
none = record { first = 0; count = 0; before = 0 }

pub returns-in_err-left-clause-part : goal.returns-in_err-left-clause-part
returns-in_err-left-clause-part g c =
    let known = g.S.BlockSource.image c.args.source.now in
    let runs = c.args.runs.now in
    let i = c.loop-run.run-index in
    let old = g.W.Write.contents c.args.writer.now in
    let now = g.W.Write.contents c.loop-run.writer in
    let whole : List ℕ → List ℕ = λ image. take c.args.size (blocks_of image (flat_map run_of runs)) in
    on_err _ _ (with-part known (g.S.BlockSource.image c.loop-run.source) c.loop-run.invariant.image old now (g.W.Write.contents c.copy_run.new.writer)
    (run_of (get_or runs i none)) (flat_map run_of (drop (i + 1) runs)) c.loop-run.left whole
    (subst (λ (ns : List ℕ). GoesOnWith known old now ns c.loop-run.left whole) (split-runs runs i none c.loop-run-test.true) c.loop-run.invariant.on)
    c.in_err-left.ensures.part)

pub returns-in_err-left-clause-each_part : goal.returns-in_err-left-clause-each_part
returns-in_err-left-clause-each_part g c =
    let runs = c.args.runs.now in
    let i = c.loop-run.run-index in
    let old = g.W.Write.contents c.args.writer.now in
    let now = g.W.Write.contents c.loop-run.writer in
    let whole : List ℕ → List ℕ = λ image. take c.args.size (blocks_of image (flat_map run_of runs)) in
    let each : EachKnown (g.S.BlockSource.Holds c.copy_run.new.source)
    (λ known. WritesSomeRuns known old (g.W.Write.contents c.copy_run.new.writer) runs c.args.size) = λ image h. with-part (Some image) (Some image) refl old now (g.W.Write.contents c.copy_run.new.writer)
    (run_of (get_or runs i none)) (flat_map run_of (drop (i + 1) runs)) c.loop-run.left whole
    (subst (λ (ns : List ℕ). GoesOnWith (Some image) old now ns c.loop-run.left whole) (split-runs runs i none c.loop-run-test.true) (c.loop-run.invariant.on_each image (c.in_err-left.ensures.narrows image h)))
    (c.in_err-left.ensures.each_part image h) in
    on_err _ _ each

pub loop-run-preserved : goal.loop-run-preserved
loop-run-preserved g c =
    let known = g.S.BlockSource.image c.args.source.now in
    let runs = c.args.runs.now in
    let i = c.loop-run.run-index in
    let run = get_or runs i none in
    let old = g.W.Write.contents c.args.writer.now in
    let now = g.W.Write.contents c.loop-run.writer in
    let whole : List ℕ → List ℕ = λ image. take c.args.size (blocks_of image (flat_map run_of runs)) in
    let length-is : c.loop-run.buffer.len ≡ length c.loop-run.buffer.items = search rules in
    let fits : length c.copy_run.new.buffer ≡ length c.loop-run.buffer.items = search rules in
    record {
      few = omega (arith, c.in_ok-left.ensures.left, c.loop-run.invariant.few);
      on = with-next known (g.S.BlockSource.image c.loop-run.source) c.loop-run.invariant.image old now (g.W.Write.contents c.copy_run.new.writer)
          (run_of run) (flat_map run_of (drop (i + 1) runs)) c.loop-run.left c.in_ok-left.left whole
          (omega (arith, c.in_ok-left.ensures.left, length-range_with_len run.first run.count))
          (subst (λ (ns : List ℕ). GoesOnWith known old now ns c.loop-run.left whole) (split-runs runs i none c.loop-run-test.true) c.loop-run.invariant.on)
          c.in_ok-left.ensures.written;
      on_each = λ image h. with-next (Some image) (Some image) refl old now (g.W.Write.contents c.copy_run.new.writer)
          (run_of run) (flat_map run_of (drop (i + 1) runs)) c.loop-run.left c.in_ok-left.left whole
          (omega (arith, c.in_ok-left.ensures.left, length-range_with_len run.first run.count))
          (subst (λ (ns : List ℕ). GoesOnWith (Some image) old now ns c.loop-run.left whole) (split-runs runs i none c.loop-run-test.true)
          (c.loop-run.invariant.on_each image (c.in_ok-left.ensures.narrows image h))) (c.in_ok-left.ensures.each image h);
      narrows = λ image h. c.loop-run.invariant.narrows image (c.in_ok-left.ensures.narrows image h);
      none = λ e. c.in_ok-left.ensures.still e
          ∙ c.loop-run.invariant.none (let same : c.loop-run.left ≡ c.args.size = omega (arith, e, c.in_ok-left.ensures.left, c.loop-run.invariant.few) in same);
      room = filled-room 65536 c.loop-run.buffer.len c.loop-run.buffer.items c.copy_run.new.buffer length-is fits c.loop-run.invariant.room;
      image = c.in_ok-left.ensures.image ∙ c.loop-run.invariant.image;
    }

pub returns-clause-written : goal.returns-clause-written
returns-clause-written g c =
    runs-written (g.S.BlockSource.image c.args.source.now) (g.W.Write.contents c.args.writer.now) (g.W.Write.contents c.loop-run.writer) c.args.runs.now
    c.loop-run.run-index c.loop-run.left c.args.size (omega (arith, c.loop-run-test.false)) c.loop-run.invariant.on

pub returns-clause-each : goal.returns-clause-each
returns-clause-each g c = λ image h.
    runs-written (Some image) (g.W.Write.contents c.args.writer.now) (g.W.Write.contents c.loop-run.writer) c.args.runs.now
    c.loop-run.run-index c.loop-run.left c.args.size (omega (arith, c.loop-run-test.false)) (c.loop-run.invariant.on_each image h)
