use Rattle.std.proofs.Common.{◌∙◌, ap, string_bytes}
use Rattle.hfs_runs.specs.Answers.{answers_text, is_whole, kept_replies}
use Rattle.hfs_runs.proofs.OneRun.{retold}
use Rattle.hfs_runs.proofs.running.run_volume_at.Goals as goal

pub returns-clause-ok : goal.returns-clause-ok
returns-clause-ok g c =
    let made = c.in_ok-volume.field-0 in
    let replies = kept_replies made.replies in
    let told = made.replies.workers.items in (
      told,
      retold c.args.volume.current c.args.script made.volume (answers_text replies made.lines.items) (string_bytes c.in_ok-text.text) (is_whole replies made.lines.items) c.in_ok-text.whole made.shown told
          (c.in_ok-text.ensures.text ∙ ap (answers_text replies) c.deref.ensures.value) (c.in_ok-text.ensures.whole ∙ ap (is_whole replies) c.deref.ensures.value) c.in_ok-volume.ensures.ok,
    )
