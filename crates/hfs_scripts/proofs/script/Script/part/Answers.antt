-- Each line goes to one side.
use Rattle.std.proofs.Common.{◌∙◌, sym, ap, List, ◌++◌, ◌∷◌, []}
use Rattle.hfs_model.specs.declared.call.Call.{Call}
use Rattle.hfs_scripts.specs.declared.lines.ScriptLine.{ScriptLine}
use Rattle.hfs_scripts.proofs.Parting.{calls_of-none, calls_of-one, calls_of-other, lines_of_others-none, lines_of_others-one, lines_of_others-other}
use Rattle.hfs_scripts.proofs.script.Script.part.Goals as goal

pub loop-line-init : goal.loop-line-init
loop-line-init c = record { calls = c.new-calls.ensures.items ∙ calls_of-none c.args.caller; others = c.new-others.ensures.items ∙ lines_of_others-none c.args.caller }

pub loop-line-preserved-in-Continue-1 : goal.loop-line-preserved-in-Continue-1
loop-line-preserved-in-Continue-1 c =
    let same = sym c.is_same.ensures ∙ c.if-is_same.true in
    record {
      calls = c.in_ok-push.ensures.items ∙ ap (λ (calls : List Call). calls ++ c.in-Some.line.call ∷ []) c.loop-line.invariant.calls ∙ sym (calls_of-one c.args.caller c.loop-line.yielded c.in-Some.line same);
      others = c.loop-line.invariant.others ∙ sym (lines_of_others-one c.args.caller c.loop-line.yielded c.in-Some.line same);
    }

pub loop-line-preserved : goal.loop-line-preserved
loop-line-preserved c =
    let other = sym c.is_same.ensures ∙ c.if-is_same.false in
    record {
      calls = c.loop-line.invariant.calls ∙ sym (calls_of-other c.args.caller c.loop-line.yielded c.in-Some.line other);
      others = c.in_ok-push-2.ensures.items ∙ ap (λ (lines : List ScriptLine). lines ++ c.in-Some.line ∷ []) c.loop-line.invariant.others ∙ sym (lines_of_others-other c.args.caller c.loop-line.yielded c.in-Some.line other);
    }
