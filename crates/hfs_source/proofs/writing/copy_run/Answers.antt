-- Piece by piece.
use Rattle.std.proofs.Common.{◌≡◌, Some, ◌+◌, ◌-◌, ◌<◌, ◌≤◌, ℕ, List, take, refl, subst, ◌∙◌, arith}
use Rattle.std.specs.List.{range_with_len}
use Rattle.std.proofs.lemmas.List.FromFn.{length-range_with_len}
use Rattle.hfs_fields.proofs.OutcomeLemmas.{on_err}
use Rattle.hfs_blocks.specs.Blocks.{run_of}
use Rattle.hfs_source.specs.Seen.{EachKnown}
use Rattle.hfs_source.specs.Writing.{WritesSome, blocks_of}
use Rattle.hfs_source.proofs.Written.{GoesOnWith, with-next, with-part, more-whole, split-behind, run-written}
use Rattle.hfs_source.proofs.writing.copy_run.Goals as goal

pub returns-in_err-rest-clause-part : goal.returns-in_err-rest-clause-part
returns-in_err-rest-clause-part g c =
    let known = g.S.BlockSource.image c.args.source.now in
    let run = c.args.run.now in
    let behind = c.loop-behind.behind in
    let step = c.min-count.result in
    let few : step ≤ behind = omega (arith, c.min-count.ensures) in
    let old = g.W.Write.contents c.args.writer.now in
    let now = g.W.Write.contents c.loop-behind.writer in
    let whole : List ℕ → List ℕ = λ image. take c.args.left (blocks_of image (run_of run)) in
    on_err _ _ (with-part known (g.S.BlockSource.image c.loop-behind.source) c.loop-behind.invariant.image old now (g.W.Write.contents c.copy_piece.new.writer)
    (range_with_len (run.first + (run.count - behind)) step) (range_with_len (run.first + (run.count - (behind - step))) (behind - step)) c.loop-behind.rest whole
    (subst (λ (ns : List ℕ). GoesOnWith known old now ns c.loop-behind.rest whole) (split-behind run.first run.count behind step c.loop-behind.invariant.few few)
    c.loop-behind.invariant.on) c.in_err-rest.ensures.part)

pub returns-in_err-rest-clause-each_part : goal.returns-in_err-rest-clause-each_part
returns-in_err-rest-clause-each_part g c =
    let run = c.args.run.now in
    let behind = c.loop-behind.behind in
    let step = c.min-count.result in
    let few : step ≤ behind = omega (arith, c.min-count.ensures) in
    let old = g.W.Write.contents c.args.writer.now in
    let now = g.W.Write.contents c.loop-behind.writer in
    let whole : List ℕ → List ℕ = λ image. take c.args.left (blocks_of image (run_of run)) in
    let each : EachKnown (g.S.BlockSource.Holds c.copy_piece.new.source)
    (λ known. WritesSome known old (g.W.Write.contents c.copy_piece.new.writer) (run_of run) c.args.left) = λ image h. with-part (Some image) (Some image) refl old now (g.W.Write.contents c.copy_piece.new.writer)
    (range_with_len (run.first + (run.count - behind)) step) (range_with_len (run.first + (run.count - (behind - step))) (behind - step)) c.loop-behind.rest whole
    (subst (λ (ns : List ℕ). GoesOnWith (Some image) old now ns c.loop-behind.rest whole) (split-behind run.first run.count behind step c.loop-behind.invariant.few few)
    (c.loop-behind.invariant.on_each image (c.in_err-rest.ensures.narrows image h))) (c.in_err-rest.ensures.each_part image h) in
    on_err _ _ each

pub loop-behind-preserved : goal.loop-behind-preserved
loop-behind-preserved g c =
    let known = g.S.BlockSource.image c.args.source.now in
    let run = c.args.run.now in
    let behind = c.loop-behind.behind in
    let step = c.min-count.result in
    let few : step ≤ behind = omega (arith, c.min-count.ensures) in
    let some : 0 < step = omega (arith, c.min-count.ensures, c.loop-behind-test.true) in
    let old = g.W.Write.contents c.args.writer.now in
    let now = g.W.Write.contents c.loop-behind.writer in
    let whole : List ℕ → List ℕ = λ image. take c.args.left (blocks_of image (run_of run)) in
    record {
      few = omega (arith, c.loop-behind.invariant.few);
      rest = omega (arith, few, c.loop-behind.invariant.few, c.loop-behind.invariant.rest, c.in_ok-rest.ensures.left);
      whole = more-whole known (g.S.BlockSource.image c.loop-behind.source) c.loop-behind.invariant.image run.first (run.count - behind) step
          (run.first + (run.count - behind)) (run.count - (behind - step)) refl
          (let e : run.count - (behind - step) ≡ run.count - behind + step = omega (arith, few, c.loop-behind.invariant.few) in e)
          now (g.W.Write.contents c.copy_piece.new.writer) c.loop-behind.rest c.loop-behind.invariant.whole c.in_ok-rest.ensures.written;
      on = with-next known (g.S.BlockSource.image c.loop-behind.source) c.loop-behind.invariant.image old now (g.W.Write.contents c.copy_piece.new.writer)
          (range_with_len (run.first + (run.count - behind)) step) (range_with_len (run.first + (run.count - (behind - step))) (behind - step)) c.loop-behind.rest
          c.in_ok-rest.rest whole
          (omega (arith, c.in_ok-rest.ensures.left, length-range_with_len (run.first + (run.count - behind)) step))
          (subst (λ (ns : List ℕ). GoesOnWith known old now ns c.loop-behind.rest whole) (split-behind run.first run.count behind step c.loop-behind.invariant.few few)
          c.loop-behind.invariant.on) c.in_ok-rest.ensures.written;
      whole_each = λ image h. more-whole (Some image) (Some image) refl run.first (run.count - behind) step
          (run.first + (run.count - behind)) (run.count - (behind - step)) refl
          (let e : run.count - (behind - step) ≡ run.count - behind + step = omega (arith, few, c.loop-behind.invariant.few) in e)
          now (g.W.Write.contents c.copy_piece.new.writer) c.loop-behind.rest (c.loop-behind.invariant.whole_each image (c.in_ok-rest.ensures.narrows image h))
          (c.in_ok-rest.ensures.each image h);
      on_each = λ image h. with-next (Some image) (Some image) refl old now (g.W.Write.contents c.copy_piece.new.writer)
          (range_with_len (run.first + (run.count - behind)) step) (range_with_len (run.first + (run.count - (behind - step))) (behind - step)) c.loop-behind.rest
          c.in_ok-rest.rest whole
          (omega (arith, c.in_ok-rest.ensures.left, length-range_with_len (run.first + (run.count - behind)) step))
          (subst (λ (ns : List ℕ). GoesOnWith (Some image) old now ns c.loop-behind.rest whole)
          (split-behind run.first run.count behind step c.loop-behind.invariant.few few)
          (c.loop-behind.invariant.on_each image (c.in_ok-rest.ensures.narrows image h))) (c.in_ok-rest.ensures.each image h);
      narrows = λ image h. c.loop-behind.invariant.narrows image (c.in_ok-rest.ensures.narrows image h);
      none = λ e. absurd (omega (arith, e, some, c.in_ok-rest.ensures.left, c.loop-behind.invariant.rest, c.requires.few, c.requires.some));
      room = c.in_ok-rest.ensures.room ∙ c.loop-behind.invariant.room;
      image = c.in_ok-rest.ensures.image ∙ c.loop-behind.invariant.image;
    }

pub returns-clause-written : goal.returns-clause-written
returns-clause-written g c =
    run-written (g.S.BlockSource.image c.args.source.now) (g.W.Write.contents c.args.writer.now) (g.W.Write.contents c.loop-behind.writer) c.args.run.now.first
    c.args.run.now.count c.loop-behind.behind c.args.left c.loop-behind.rest
    (let e : c.loop-behind.behind ≡ 0 = omega (arith, c.loop-behind-test.false) in e) c.loop-behind.invariant.whole c.loop-behind.invariant.on

pub returns-clause-each : goal.returns-clause-each
returns-clause-each g c = λ image h.
    run-written (Some image) (g.W.Write.contents c.args.writer.now) (g.W.Write.contents c.loop-behind.writer) c.args.run.now.first
    c.args.run.now.count c.loop-behind.behind c.args.left c.loop-behind.rest
    (let e : c.loop-behind.behind ≡ 0 = omega (arith, c.loop-behind-test.false) in e) (c.loop-behind.invariant.whole_each image h) (c.loop-behind.invariant.on_each image h)
