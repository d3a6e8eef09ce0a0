use Rattle.std.proofs.Common.{◌∙◌, ap, sym, subst}
use Rattle.hfs_runs.specs.Answers.{answers_text, is_whole, kept_replies}
use Rattle.hfs_runs.specs.declared.replies.Replies.{Replies}
use Rattle.hfs_runs.specs.Pieces.{text_of_pieces}
use Rattle.hfs_runs.specs.Runs.{AreLinesRun}
use Rattle.hfs_runs.proofs.OneRun.{retold}
use Rattle.hfs_runs.proofs.running.run_volume_in_pieces.Goals as goal

pub returns-clause-ok : goal.returns-clause-ok
returns-clause-ok g c =
    let made = c.in_ok-volume.field-0 in
    let replies = kept_replies made.replies in
    let answers = c.in_ok-answers.answers in
    let all = c.in_ok-answers.whole in
    subst (λ (r : Replies). AreLinesRun c.args.volume.current c.args.script made.volume (text_of_pieces answers) all made.shown r.workers.items) (sym c.in_ok-answers.ensures.replies)
    (retold c.args.volume.current c.args.script made.volume (answers_text replies made.lines.items) (text_of_pieces answers) (is_whole replies made.lines.items) all made.shown made.replies.workers.items
    (c.in_ok-answers.ensures.text ∙ ap (answers_text replies) c.deref.ensures.value) (c.in_ok-answers.ensures.whole ∙ ap (is_whole replies) c.deref.ensures.value) c.in_ok-volume.ensures.ok)
