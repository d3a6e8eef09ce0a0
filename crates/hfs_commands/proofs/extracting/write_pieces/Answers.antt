-- Piece by piece.
use Rattle.std.proofs.Common.{◌≡◌, ℕ, ◌*◌, ◌/◌, ◌%◌, ◌∙◌, ◌++◌, length, take, drop, arith, rules, subst}
use Rattle.std.proofs.lemmas.List.{length-append, length-drop, length-take}
use Rattle.hfs_fields.proofs.OutcomeLemmas.{on_err}
use Rattle.hfs_commands.specs.Extracts.{WritesAt, WritesFrontAt}
use Rattle.hfs_commands.proofs.Extracted.{written-next, written-part}
use Rattle.hfs_commands.proofs.extracting.write_pieces.Goals as goal

pub returns-in_err-write_piece-clause-part : goal.returns-in_err-write_piece-clause-part
returns-in_err-write_piece-clause-part g c =
    let done = c.loop-done.done in
    let count = c.min-count.result in
    let even : done % 512 ≡ 0 = c.loop-done.invariant.even c.loop-done-test.true in
    let at : c.in-Ok.first ≡ done / 512 = search rules in
    let long : length (take count c.loop-done.buffer) ≡ count =
    omega (arith, c.min-count.ensures, length-take count c.loop-done.buffer, c.loop-done.invariant.room, c.requires.room) in
    let Holds = g.S.BlockSource.Holds c.write_piece.new.source in
    on_err _ _ (written-part Holds (g.S.BlockSource.Holds c.loop-done.source) c.in_err-write_piece.ensures.narrows done count c.in-Ok.first at even
    (g.W.Write.contents c.args.writer.now) (g.W.Write.contents c.loop-done.writer) (g.W.Write.contents c.write_piece.new.writer)
    c.loop-done.invariant.written c.args.len
    (subst (λ (n : ℕ). WritesFrontAt Holds (512 * c.in-Ok.first) n (g.W.Write.contents c.loop-done.writer) (g.W.Write.contents c.write_piece.new.writer))
    long c.in_err-write_piece.ensures.part))

pub loop-done-preserved : goal.loop-done-preserved
loop-done-preserved g c =
    let done = c.loop-done.done in
    let count = c.min-count.result in
    let even : done % 512 ≡ 0 = c.loop-done.invariant.even c.loop-done-test.true in
    let at : c.in-Ok.first ≡ done / 512 = search rules in
    let long : length (take count c.loop-done.buffer) ≡ count =
    omega (arith, c.min-count.ensures, length-take count c.loop-done.buffer, c.loop-done.invariant.room, c.requires.room) in
    let Holds = g.S.BlockSource.Holds c.write_piece.new.source in
    record {
      few = omega (arith, c.min-count.ensures, c.loop-done.invariant.few);
      even = λ lt. omega (arith, lt, c.min-count.ensures, even);
      room = (let whole : length (c.write_piece.new.piece ++ drop count c.loop-done.buffer) ≡ length c.args.buffer.now =
          omega (
            arith,
            length-append c.write_piece.new.piece (drop count c.loop-done.buffer),
            length-drop count c.loop-done.buffer,
            c.in_ok-write_piece.ensures.room,
            long,
            c.min-count.ensures,
            c.loop-done.invariant.room,
            c.requires.room,
          ) in whole);
      written = written-next Holds (g.S.BlockSource.Holds c.loop-done.source) c.in_ok-write_piece.ensures.narrows done count c.in-Ok.first at even
          (g.W.Write.contents c.args.writer.now) (g.W.Write.contents c.loop-done.writer) (g.W.Write.contents c.write_piece.new.writer)
          c.loop-done.invariant.written
          (subst (λ (n : ℕ). WritesAt Holds (512 * c.in-Ok.first) n (g.W.Write.contents c.loop-done.writer) (g.W.Write.contents c.write_piece.new.writer))
          long c.in_ok-write_piece.ensures.written);
      narrows = λ image held. c.loop-done.invariant.narrows image (c.in_ok-write_piece.ensures.narrows image held);
      image = c.in_ok-write_piece.ensures.image ∙ c.loop-done.invariant.image;
    }
