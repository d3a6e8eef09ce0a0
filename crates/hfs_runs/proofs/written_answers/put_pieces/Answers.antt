-- The pieces one behind the other, and the text behind them.
use Rattle.std.proofs.Common.{rules, ◌≡◌, ◌<◌, ◌≤◌, List, length, get_or, take_all, string_bytes, subst}
use Rattle.std.specs.List.{flat_map}
use Rattle.std.specs.Io.KnownBytes.{Appends}
use Rattle.hfs_fields.proofs.OutcomeLemmas.{on_err_then, on_err}
use Rattle.hfs_texts.proofs.FrontLemmas.{front_next}
use Rattle.hfs_texts.specs.Writing.{AppendsFront}
use Rattle.hfs_runs.specs.declared.pieces.Piece.{Piece}
use Rattle.hfs_runs.specs.Pieces.{piece_text}
use Rattle.hfs_runs.proofs.Digits.{text-front}
use Rattle.hfs_runs.proofs.written_answers.put_pieces.Goals as goal

pub returns-in_err-put_piece-clause-err : goal.returns-in_err-put_piece-clause-err
returns-in_err-put_piece-clause-err g c =
    let pieces = c.args.answers.now.pieces.items in
    let a = g.W.Write.contents c.args.writer.now in
    let b = g.W.Write.contents c.loop-piece.writer in
    let d = g.W.Write.contents c.put_piece.new.writer in
    let within : c.loop-piece.piece-index < length pieces = search rules in
    let is : c.piece-item.result ≡ get_or pieces c.loop-piece.piece-index c.piece-item.result = search rules in
    on_err _ _ (text-front (piece_text c.args.answers.now.replies) pieces (string_bytes c.args.answers.now.last) a b d c.loop-piece.piece-index c.piece-item.result within is
    c.loop-piece.invariant.written c.in_err-put_piece.ensures.err)

pub returns-clause-err : goal.returns-clause-err
returns-clause-err g c =
    let pieces = c.args.answers.now.pieces.items in
    let f = piece_text c.args.answers.now.replies in
    let a = g.W.Write.contents c.args.writer.now in
    let b = g.W.Write.contents c.loop-piece.writer in
    let d = g.W.Write.contents c.put.new.writer in
    let over : length pieces ≤ c.loop-piece.piece-index = search rules in
    let all : Appends a b (flat_map f pieces) = subst (λ (l : List Piece). Appends a b (flat_map f l)) (take_all c.loop-piece.piece-index pieces over) c.loop-piece.invariant.written in
    on_err_then _ _ _ (λ front. front_next a b d (flat_map f pieces) (string_bytes c.args.answers.now.last) all (subst (AppendsFront b d) c.as_bytes.ensures.value front))
    c.put.ensures.err
