-- Piece by piece.
use Rattle.std.proofs.Common.{◌≡◌, ℕ, ◌+◌, ◌≤◌, ◌++◌, length, take, drop, arith, subst}
use Rattle.std.proofs.lemmas.List.{length-append, length-drop, length-take}
use Rattle.hfs_fields.proofs.OutcomeLemmas.{on_err}
use Rattle.hfs_volume.specs.InFile.{WritesAt, WritesFrontAt}
use Rattle.hfs_volume.proofs.Spans.{span-next, span-part}
use Rattle.hfs_volume.proofs.span.write_span.Goals as goal

pub returns-in_err-write_at-clause-part : goal.returns-in_err-write_at-clause-part
returns-in_err-write_at-clause-part g c =
    let done = c.loop-done.done in
    let count = c.min-more.result in
    let long : length (take count c.loop-done.buffer) ≡ count =
    omega (arith, c.min-more.ensures, length-take count c.loop-done.buffer, c.loop-done.invariant.room, c.requires.room) in
    let fits : done + count ≤ c.args.count = omega (arith, c.min-more.ensures, c.loop-done.invariant.few) in
    let Holds = g.S.PlacedBytes.Holds c.write_at.new.source in
    on_err _ _ (span-part Holds (g.S.PlacedBytes.Holds c.loop-done.source) c.in_err-write_at.ensures.narrows c.args.place done count
    (g.W.Write.contents c.args.writer.now) (g.W.Write.contents c.loop-done.writer) (g.W.Write.contents c.write_at.new.writer)
    c.loop-done.invariant.written c.args.count fits
    (subst (λ (n : ℕ). WritesFrontAt Holds (c.args.place + done) n (g.W.Write.contents c.loop-done.writer) (g.W.Write.contents c.write_at.new.writer))
    long c.in_err-write_at.ensures.part))

pub loop-done-preserved : goal.loop-done-preserved
loop-done-preserved g c =
    let done = c.loop-done.done in
    let count = c.min-more.result in
    let long : length (take count c.loop-done.buffer) ≡ count =
    omega (arith, c.min-more.ensures, length-take count c.loop-done.buffer, c.loop-done.invariant.room, c.requires.room) in
    let Holds = g.S.PlacedBytes.Holds c.write_at.new.source in
    record {
      few = omega (arith, c.min-more.ensures, c.loop-done.invariant.few);
      room = (let whole : length (c.write_at.new.piece ++ drop count c.loop-done.buffer) ≡ length c.args.buffer.now =
          omega (
            arith,
            length-append c.write_at.new.piece (drop count c.loop-done.buffer),
            length-drop count c.loop-done.buffer,
            c.in_ok-write_at.ensures.room,
            long,
            c.min-more.ensures,
            c.loop-done.invariant.room,
            c.requires.room,
          ) in whole);
      written = span-next Holds (g.S.PlacedBytes.Holds c.loop-done.source) c.in_ok-write_at.ensures.narrows c.args.place done count
          (g.W.Write.contents c.args.writer.now) (g.W.Write.contents c.loop-done.writer) (g.W.Write.contents c.write_at.new.writer)
          c.loop-done.invariant.written
          (subst (λ (n : ℕ). WritesAt Holds (c.args.place + done) n (g.W.Write.contents c.loop-done.writer) (g.W.Write.contents c.write_at.new.writer))
          long c.in_ok-write_at.ensures.written);
      narrows = λ file held. c.loop-done.invariant.narrows file (c.in_ok-write_at.ensures.narrows file held);
    }
