use Rattle.std.proofs.Common.{◌≡◌, ℕ, true, List, sym, subst, rules}
use Rattle.logbook.specs.Pages.{Book}
use Rattle.hfs_model.specs.declared.journal.Entry.{Entry}
use Rattle.hfs_model.specs.declared.reply.Reply.{Reply}
use Rattle.hfs_shared.specs.declared.done.Done.{Done}
use Rattle.hfs_shared.specs.Closings.{IsClosed}
use Rattle.hfs_shared.specs.Desks.{PassState}
use Rattle.hfs_runs.specs.Answers.{told_replies}
use Rattle.hfs_runs.specs.Codes.{AreCoded}
use Rattle.hfs_runs.specs.Tellings.{AllBegin, AreOf, OfEach, ToldReplies}
use Rattle.hfs_runs.proofs.KeptReplies.{same-told}
use Rattle.hfs_runs.proofs.Late.{when_true}
use Rattle.hfs_runs.proofs.closing.close_by.Goals as goal

pub learn_all-requires : goal.learn_all-requires
learn_all-requires g c =
    subst (λ (ds : List Done). OfEach (AreOf c.args.viewer.now.book) ds) (sym c.deref.ensures.value)
    (subst (λ (b : Book). OfEach (AreOf b) c.args.dones.items) (sym c.requires.book) c.requires.told)

pub returns-clause-ok : goal.returns-clause-ok
returns-clause-ok g c =
    let closed = c.in-Ok.closed in
    let before = c.learn_all.new.viewer in
    let afterwards = c.close.new.viewer in
    let yes : c.are_coded.result ≡ true = search rules in
    let coded : AreCoded (told_replies c.in_ok-passes.replies.items) closed.journal.items =
    subst (λ (y : ToldReplies × List Entry). AreCoded (told_replies y.0) y.1) (λ i. (c.deref-2.ensures.value i, c.deref-3.ensures.value i))
    (when_true {P = AreCoded (told_replies c.deref-2.result.now) c.deref-3.result.now} c.are_coded.result yes c.are_coded.ensures) in
    record {
      journal = closed.journal.items;
      shown = closed.shown;
      before = before;
      afterwards = afterwards;
      closed = subst (λ (ps : List PassState). IsClosed g.K.Session.base closed.volume closed.journal.items closed.shown ps before afterwards) c.in_ok-passes.ensures.passes c.in-Ok.ensures.ok;
      planned = c.in-Ok.ensures.planned;
      coded = subst (λ (replies : ℕ → List Reply). AreCoded replies closed.journal.items) (same-told c.in_ok-passes.replies.items c.args.dones.items c.in_ok-passes.ensures.replies) coded;
      learned = subst (λ (ds : List Done). OfEach (AllBegin before.list) ds) c.deref.ensures.value c.learn_all.ensures.told;
    }
