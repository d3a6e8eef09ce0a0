-- The parameters are the image's number and the values.
use Rattle.std.proofs.Common.{◌≡◌, inr, List, ◌∷◌, ◌∙◌, map, ap, subst, rules, to_z, of_z, w64}
use Rattle.std.specs.Prelude.{IfErr, IfOk}
use Rattle.sqlite.specs.declared.types.Value.{Value}
use Rattle.sqlite.specs.declared.types.Value.TheVariants.{Int}
use Rattle.sqlite.specs.Held.{state}
use Rattle.sqlite.specs.Values.{bound}
use Rattle.hfs_database.specs.Doing.{HasFound}
use Rattle.hfs_database.specs.Refusals.{FailsToShowNumber, IsUntaken}
use Rattle.hfs_database.specs.StatementTexts.{put_volume_text}
use Rattle.hfs_database.specs.Values.{sql_value}
use Rattle.hfs_database.proofs.RefusalLemmas.{untaken_as}
use Rattle.hfs_database.proofs.statements.put_volume.Goals as goal

pub returns-clause-done : goal.returns-clause-done
unfolding put_volume_text
returns-clause-done g c =
    let same : to_z w64 (of_z w64 c.args.image) ≡ c.args.image = search rules in
    subst (λ (values : List Value). IfOk c.put.result (HasFound (state g.S.Store c.args.conn.now) (state g.S.Store c.put.new.conn) put_volume_text values))
    (ap bound c.deref.ensures.value ∙ c.in_ok-parameters.ensures.parameters ∙ ap (λ id. Int id ∷ map sql_value c.args.values.now) same) c.put.ensures.done

pub returns-clause-fails : goal.returns-clause-fails
unfolding put_volume_text
returns-clause-fails g c =
    untaken_as c.put.result inr (
    let same : to_z w64 (of_z w64 c.args.image) ≡ c.args.image = search rules in
    subst (λ (values : List Value). IfErr c.put.result (IsUntaken (FailsToShowNumber g.S.Store c.args.conn.now c.put.new.conn put_volume_text values)))
    (ap bound c.deref.ensures.value ∙ c.in_ok-parameters.ensures.parameters ∙ ap (λ id. Int id ∷ map sql_value c.args.values.now) same) c.put.ensures.fails)
