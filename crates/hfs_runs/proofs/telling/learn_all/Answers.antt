use Rattle.std.proofs.Common.{List, ◌∙◌, subst, arith}
use Rattle.hfs_model.specs.declared.reply.Reply.{Reply}
use Rattle.hfs_shared.specs.Tolds.{ToldState}
use Rattle.hfs_shared.proofs.Prefixes.{prefix_trans}
use Rattle.hfs_shared.specs.declared.done.Done.{Done}
use Rattle.hfs_runs.specs.Tellings.{AllBegin, OfEach}
use Rattle.hfs_runs.proofs.Learning.{each_begin_more, whole_taken}
use Rattle.hfs_runs.proofs.telling.learn_all.Goals as goal

pub loop-done-preserved : goal.loop-done-preserved
loop-done-preserved c =
    let i = c.loop-done.invariant in
    let at = c.loop-done.done-index in
    let done = c.done-item.result in
    let dones = c.args.dones.now in
    let list = c.learn.new.viewer.list in
    record {
      told = each_begin_more c.loop-done.viewer.list list dones at done (omega arith) c.learn.ensures.saw i.told
          (subst (λ (d : Done). AllBegin list d.replies.items) c.done-item.is
          (subst (λ (answers : List (Reply × ToldState)). AllBegin list answers) c.as_slice.ensures.value c.learn.ensures.told));
      saw = prefix_trans c.args.viewer.now.list c.loop-done.viewer.list list i.saw c.learn.ensures.saw;
      book = c.learn.ensures.book ∙ i.book;
    }

pub returns-clause-told : goal.returns-clause-told
returns-clause-told c =
    subst (λ (l : List Done). OfEach (AllBegin c.loop-done.viewer.list) l)
    (whole_taken c.loop-done.done-index c.args.dones.now (omega (arith, c.loop-done-test.false))) c.loop-done.invariant.told
