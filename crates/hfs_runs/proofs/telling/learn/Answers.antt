use Rattle.std.proofs.Common.{◌≡◌, List, sym, ◌∙◌, subst, arith}
use mathlib.Core.List.{IsPrefix}
use Rattle.hfs_model.specs.declared.reply.Reply.{Reply}
use Rattle.hfs_shared.specs.Tolds.{ToldState}
use Rattle.hfs_shared.proofs.Prefixes.{prefix_trans}
use Rattle.hfs_runs.specs.Tellings.{AllBegin}
use Rattle.hfs_runs.proofs.Learning.{begin_more, whole_taken}
use Rattle.hfs_runs.proofs.telling.learn.Goals as goal

pub learn-requires : goal.learn-requires
learn-requires c =
    let at = c.loop-answer.answer-index in
    let answer = c.answer-item.result in
    subst (λ (a : Reply × ToldState). a.1.book ≡ c.loop-answer.viewer.book) (sym c.answer-item.is)
    (c.requires at answer (omega arith) ∙ sym c.loop-answer.invariant.book)

pub loop-answer-preserved : goal.loop-answer-preserved
loop-answer-preserved c =
    let i = c.loop-answer.invariant in
    let at = c.loop-answer.answer-index in
    let answer = c.answer-item.result in
    let answers = c.args.answers.now in
    record {
      told = begin_more c.loop-answer.viewer.list c.learn.new.self.list answers at answer (omega arith) c.learn.ensures.saw i.told
          (subst (λ (a : Reply × ToldState). IsPrefix a.1.list c.learn.new.self.list) c.answer-item.is c.learn.ensures.told);
      saw = prefix_trans c.args.viewer.now.list c.loop-answer.viewer.list c.learn.new.self.list i.saw c.learn.ensures.saw;
      book = c.learn.ensures.book ∙ i.book;
    }

pub returns-clause-told : goal.returns-clause-told
returns-clause-told c =
    subst (λ (l : List (Reply × ToldState)). AllBegin c.loop-answer.viewer.list l)
    (whole_taken c.loop-answer.answer-index c.args.answers.now (omega (arith, c.loop-answer-test.false))) c.loop-answer.invariant.told
