-- Piece by piece.
use Rattle.std.proofs.Common.{rules, ◌≡◌, ◌∙◌, ℕ, ◌+◌, ◌-◌, ◌≤◌, List, length, take, drop, arith}
use Rattle.std.proofs.lemmas.List.{length-take, length-drop}
use Rattle.hfs_fields.proofs.OutcomeLemmas.{on_err}
use Rattle.hfs_put.proofs.FailureLemmas.{fails-part, told-part}
use Rattle.hfs_put.proofs.FilledLemmas.{read-more}
use borrow.Rule.Slice.PartMut.{put_mid}
use Rattle.hfs_put.proofs.reading.LaidForksPlacedBytes.read_at.Goals as goal

pub loop-done-preserved : goal.loop-done-preserved
loop-done-preserved g c =
    let old = c.loop-done.into in
    let done = c.loop-done.done in
    let count = c.len-count.result in
    let part = c.read_piece.new.into in
    let sized : length part ≡ count = search rules in
    let long : length (put_mid done (done + count - done) old part) ≡ length old = search rules in
    let fits : count ≤ length old - done = omega (arith, c.len-count.ensures, c.piece_at-piece.ensures.few) in
    record {
      long = long ∙ c.loop-done.invariant.long;
      few = omega (arith, long, fits, c.loop-done-test.true);
      laid = λ image held.
          read-more c.args.place done count (done + count - done) old part image (c.in_ok-read_piece.ensures.read image held) sized c.loop-done.invariant.few
          (c.loop-done.invariant.laid image (c.in_ok-read_piece.ensures.held image held));
      later = λ place count fails. c.loop-done.invariant.later place count (c.in_ok-read_piece.ensures.later place count fails);
      own = λ place count fails. c.loop-done.invariant.own place count (c.in_ok-read_piece.ensures.own place count fails);
      held = λ image held. c.loop-done.invariant.held image (c.in_ok-read_piece.ensures.held image held);
    }

pub returns-in_err-read_piece-clause-fails : goal.returns-in_err-read_piece-clause-fails
returns-in_err-read_piece-clause-fails g c =
    let done = c.loop-done.done in
    let count = c.len-count.result in
    let part : List ℕ = take (done + count - done) (drop done c.loop-done.into) in
    let size : length part ≤ length c.loop-done.into - done = omega (arith, length-take (done + count - done) (drop done c.loop-done.into), length-drop done c.loop-done.into) in
    on_err _ _ (c.loop-done.invariant.later c.args.place (length c.args.into.now)
    (fails-part (g.B.PlacedBytes.Fails c.loop-done.self.bytes) c.loop-done.self.start c.loop-done.self.runs.items (c.args.place + done) (length part) c.args.place
    (length c.args.into.now) (omega arith) (omega (arith, size, c.loop-done.invariant.long, c.loop-done-test.true)) c.in_err-read_piece.ensures.fails))

pub returns-in_err-read_piece-clause-later : goal.returns-in_err-read_piece-clause-later
returns-in_err-read_piece-clause-later g c = λ place count fails. c.loop-done.invariant.later place count (c.in_err-read_piece.ensures.later place count fails)

pub returns-in_err-read_piece-clause-told : goal.returns-in_err-read_piece-clause-told
returns-in_err-read_piece-clause-told g c =
    let done = c.loop-done.done in
    let count = c.len-count.result in
    let part : List ℕ = take (done + count - done) (drop done c.loop-done.into) in
    let size : length part ≤ length c.loop-done.into - done = omega (arith, length-take (done + count - done) (drop done c.loop-done.into), length-drop done c.loop-done.into) in
    on_err _ _ (told-part (g.B.PlacedBytes.Fails c.loop-done.self.bytes) (g.B.PlacedBytes.Fails c.args.self.now.bytes) c.read_piece.new.self.fault
    (c.args.place + done) (length part) c.args.place (length c.args.into.now) (omega arith)
    (omega (arith, size, c.loop-done.invariant.long, c.loop-done-test.true)) c.loop-done.invariant.own c.in_err-read_piece.ensures.told)

pub returns-in_err-read_piece-clause-held : goal.returns-in_err-read_piece-clause-held
returns-in_err-read_piece-clause-held g c = λ image held. c.loop-done.invariant.held image (c.in_err-read_piece.ensures.held image held)
