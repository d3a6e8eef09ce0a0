-- The parameters are the volume's number and the values.
use Rattle.std.proofs.Common.{◌≡◌, inr, List, ◌∷◌, ◌∙◌, map, ap, subst, rules, to_z, of_z, w64}
use Rattle.std.specs.Prelude.{IfErr, OnOk}
use Rattle.sqlite.specs.declared.types.Value.{Value}
use Rattle.sqlite.specs.declared.types.Value.TheVariants.{Int}
use Rattle.sqlite.specs.Held.{state}
use Rattle.sqlite.specs.Values.{bound}
use Rattle.hfs_database.specs.Doing.{HasRunAll}
use Rattle.hfs_database.specs.Refusals.{FailsToAsk, IsUntaken}
use Rattle.hfs_database.specs.StatementTexts.{put_item_text}
use Rattle.hfs_database.specs.Values.{sql_value}
use Rattle.hfs_database.proofs.RefusalLemmas.{untaken_as}
use Rattle.hfs_database.proofs.statements.put_item.Goals as goal

pub returns-clause-done : goal.returns-clause-done
unfolding put_item_text
returns-clause-done g c =
    let same : to_z w64 (of_z w64 c.args.volume) ≡ c.args.volume = search rules in
    subst (λ (values : List Value). OnOk c.run.result (HasRunAll (state g.S.Store c.args.conn.now) (state g.S.Store c.run.new.conn) put_item_text values))
    (ap bound c.deref.ensures.value ∙ c.in_ok-parameters.ensures.parameters ∙ ap (λ id. Int id ∷ map sql_value c.args.values.now) same) c.run.ensures.done

pub returns-clause-fails : goal.returns-clause-fails
unfolding put_item_text
returns-clause-fails g c =
    untaken_as c.run.result inr (
    let same : to_z w64 (of_z w64 c.args.volume) ≡ c.args.volume = search rules in
    subst (λ (values : List Value). IfErr c.run.result (IsUntaken (FailsToAsk g.S.Store c.args.conn.now c.run.new.conn put_item_text values)))
    (ap bound c.deref.ensures.value ∙ c.in_ok-parameters.ensures.parameters ∙ ap (λ id. Int id ∷ map sql_value c.args.values.now) same) c.run.ensures.fails)
