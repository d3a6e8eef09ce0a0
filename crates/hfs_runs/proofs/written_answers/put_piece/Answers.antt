-- A piece's text, and its digits behind it.
use Rattle.std.proofs.Common.{List, ℕ, string_bytes, subst}
use Rattle.std.specs.Io.KnownBytes.{Appends}
use Rattle.hfs_fields.proofs.OutcomeLemmas.{on_err_then, on_err}
use Rattle.hfs_texts.proofs.FrontLemmas.{front_first, front_next}
use Rattle.hfs_texts.specs.Lines.{hex_text}
use Rattle.hfs_texts.specs.Writing.{AppendsFront}
use Rattle.hfs_runs.specs.Answers.{kept_replies, reply_to}
use Rattle.hfs_runs.specs.Pieces.{bytes_in}
use Rattle.hfs_runs.proofs.written_answers.put_piece.Goals as goal

pub returns-in_err-put-clause-err : goal.returns-in_err-put-clause-err
returns-in_err-put-clause-err g c =
    let a = g.W.Write.contents c.args.writer.now in
    let b = g.W.Write.contents c.put.new.writer in
    on_err _ _ (front_first a b (string_bytes c.args.piece.now.text) (hex_text (bytes_in (reply_to (kept_replies c.args.replies.now) c.args.piece.now.asked)))
    (subst (AppendsFront a b) c.as_bytes.ensures.value c.in_err-put.ensures.err))

pub returns-clause-err : goal.returns-clause-err
returns-clause-err g c =
    let a = g.W.Write.contents c.args.writer.now in
    let b = g.W.Write.contents c.put.new.writer in
    let d = g.W.Write.contents c.put_digits.new.writer in
    on_err_then _ _ _ (λ front. front_next a b d (string_bytes c.args.piece.now.text) (hex_text (bytes_in (reply_to (kept_replies c.args.replies.now) c.args.piece.now.asked)))
    (subst (Appends a b) c.as_bytes.ensures.value c.in_ok-put.ensures.ok) (subst (λ (bytes : List ℕ). AppendsFront b d (hex_text bytes)) c.bytes_to.ensures front))
    c.put_digits.ensures.err
