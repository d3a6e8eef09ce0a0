-- Piece by piece.
use Rattle.std.proofs.Common.{◌≡◌, ◌+◌, ◌/◌, ◌%◌, ◌≤◌, refl, ◌∙◌, arith}
use Rattle.hfs_fields.proofs.OutcomeLemmas.{on_err}
use Rattle.hfs_volume.proofs.WrittenLemmas.{written-next, written-part, written-all}
use Rattle.hfs_volume.proofs.writing.write_pieces.Goals as goal

pub returns-in_err-write_piece-clause-part : goal.returns-in_err-write_piece-clause-part
returns-in_err-write_piece-clause-part g c =
    let done = c.loop-done.done in
    let count = c.min-count.result in
    on_err _ _ (written-part c.args.len c.args.changed.now done count (done / 512) refl (c.loop-done.invariant.even c.loop-done-test.true)
    (omega (arith, c.min-count.ensures, c.loop-done.invariant.few)) (λ lt. omega (arith, lt, c.min-count.ensures)) c.requires.within
    (g.S.BlockSource.Holds c.loop-done.source) (g.S.BlockSource.Holds c.write_piece.new.source) c.write_piece.ensures.narrows
    (g.W.Write.contents c.args.writer.now) (g.W.Write.contents c.loop-done.writer) (g.W.Write.contents c.write_piece.new.writer) c.loop-done.invariant.written c.in_err-write_piece.ensures.part)

pub loop-done-preserved : goal.loop-done-preserved
loop-done-preserved g c =
    let done = c.loop-done.done in
    let count = c.min-count.result in
    let even : done % 512 ≡ 0 = c.loop-done.invariant.even c.loop-done-test.true in
    let fits : done + count ≤ c.args.len = omega (arith, c.min-count.ensures, c.loop-done.invariant.few) in
    record {
      few = fits;
      even = λ lt. omega (arith, lt, c.min-count.ensures, even);
      room = c.in_ok-write_piece.ensures.room ∙ c.loop-done.invariant.room;
      written = written-next c.args.len c.args.changed.now done count (done / 512) refl even fits (λ lt. omega (arith, lt, c.min-count.ensures)) c.requires.within
          (g.S.BlockSource.Holds c.loop-done.source) (g.S.BlockSource.Holds c.write_piece.new.source) c.in_ok-write_piece.ensures.narrows
          (g.W.Write.contents c.args.writer.now) (g.W.Write.contents c.loop-done.writer) (g.W.Write.contents c.write_piece.new.writer)
          c.loop-done.invariant.written c.in_ok-write_piece.ensures.written;
      narrows = λ image held. c.loop-done.invariant.narrows image (c.in_ok-write_piece.ensures.narrows image held);
      image = c.in_ok-write_piece.ensures.image ∙ c.loop-done.invariant.image;
    }

pub returns-clause-written : goal.returns-clause-written
returns-clause-written g c =
    written-all (g.S.BlockSource.Holds c.loop-done.source) c.args.len c.args.changed.now c.loop-done.done (g.W.Write.contents c.args.writer.now)
    (g.W.Write.contents c.loop-done.writer) (omega (arith, c.loop-done-test.false)) c.requires.within c.loop-done.invariant.written
