-- Piece by piece.
use Rattle.std.proofs.Common.{◌≡◌, ℕ, ◌+◌, ◌/◌, ◌%◌, ◌≤◌, ◌++◌, length, take, drop, refl, arith, subst}
use Rattle.std.specs.Io.KnownBytes.{Appends}
use Rattle.std.proofs.lemmas.List.{length-append, length-drop, length-take}
use Rattle.hfs_fields.proofs.OutcomeLemmas.{on_err}
use Rattle.hfs_source.specs.Images.{IsRangeOf}
use Rattle.hfs_texts.specs.Writing.{AppendsFront}
use Rattle.hfs_volume.specs.InFile.{OfRangePiece}
use Rattle.hfs_volume.proofs.RangePieces.{range-narrows}
use Rattle.hfs_volume.proofs.WrittenLemmas.{written-next, written-part, written-all}
use Rattle.hfs_volume.proofs.range.write_range.Goals as goal

pub returns-in_err-write_piece-clause-part : goal.returns-in_err-write_piece-clause-part
returns-in_err-write_piece-clause-part g c =
    let done = c.loop-done.done in
    let count = c.min-count.result in
    let range = c.args.range in
    let long : length (take count c.loop-done.buffer) ≡ count =
    omega (arith, c.min-count.ensures, length-take count c.loop-done.buffer, c.loop-done.invariant.room, c.requires.room) in
    let Held = g.S.PlacedBytes.Holds c.loop-done.source in
    let Holds = g.S.PlacedBytes.Holds c.write_piece.new.source in
    let now = g.W.Write.contents c.loop-done.writer in
    let next = g.W.Write.contents c.write_piece.new.writer in
    on_err _ _ (written-part range.len c.args.changed.now done count (done / 512) refl (c.loop-done.invariant.even c.loop-done-test.true)
    (omega (arith, c.min-count.ensures, c.loop-done.invariant.few)) (λ lt. omega (arith, lt, c.min-count.ensures)) c.requires.within
    (IsRangeOf Held range.start range.len) (IsRangeOf Holds range.start range.len)
    (range-narrows Holds Held range.start range.len c.in_err-write_piece.ensures.narrows)
    (g.W.Write.contents c.args.writer.now) now next c.loop-done.invariant.written
    (subst (λ (n : ℕ). OfRangePiece Holds range c.args.changed.now (done / 512) n (AppendsFront now next)) long c.in_err-write_piece.ensures.part))

pub loop-done-preserved : goal.loop-done-preserved
loop-done-preserved g c =
    let done = c.loop-done.done in
    let count = c.min-count.result in
    let range = c.args.range in
    let even : done % 512 ≡ 0 = c.loop-done.invariant.even c.loop-done-test.true in
    let fits : done + count ≤ range.len = omega (arith, c.min-count.ensures, c.loop-done.invariant.few) in
    let long : length (take count c.loop-done.buffer) ≡ count =
    omega (arith, c.min-count.ensures, length-take count c.loop-done.buffer, c.loop-done.invariant.room, c.requires.room) in
    let Held = g.S.PlacedBytes.Holds c.loop-done.source in
    let Holds = g.S.PlacedBytes.Holds c.write_piece.new.source in
    let now = g.W.Write.contents c.loop-done.writer in
    let next = g.W.Write.contents c.write_piece.new.writer in
    record {
      few = fits;
      even = λ lt. omega (arith, lt, c.min-count.ensures, even);
      room = (let whole : length (c.write_piece.new.piece ++ drop count c.loop-done.buffer) ≡ length c.args.buffer.now =
          omega (
            arith,
            length-append c.write_piece.new.piece (drop count c.loop-done.buffer),
            length-drop count c.loop-done.buffer,
            c.in_ok-write_piece.ensures.room,
            long,
            c.min-count.ensures,
            c.loop-done.invariant.room,
            c.requires.room,
          ) in whole);
      written = written-next range.len c.args.changed.now done count (done / 512) refl even fits (λ lt. omega (arith, lt, c.min-count.ensures))
          c.requires.within (IsRangeOf Held range.start range.len) (IsRangeOf Holds range.start range.len)
          (range-narrows Holds Held range.start range.len c.in_ok-write_piece.ensures.narrows)
          (g.W.Write.contents c.args.writer.now) now next c.loop-done.invariant.written
          (subst (λ (n : ℕ). OfRangePiece Holds range c.args.changed.now (done / 512) n (Appends now next)) long c.in_ok-write_piece.ensures.written);
      narrows = λ file held. c.loop-done.invariant.narrows file (c.in_ok-write_piece.ensures.narrows file held);
    }

pub returns-clause-written : goal.returns-clause-written
returns-clause-written g c =
    written-all (IsRangeOf (g.S.PlacedBytes.Holds c.loop-done.source) c.args.range.start c.args.range.len) c.args.range.len c.args.changed.now
    c.loop-done.done (g.W.Write.contents c.args.writer.now) (g.W.Write.contents c.loop-done.writer) (omega (arith, c.loop-done-test.false)) c.requires.within
    c.loop-done.invariant.written
