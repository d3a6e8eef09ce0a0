-- The parameter is the image's number.
use Rattle.std.proofs.Common.{◌≡◌, [], ◌∷◌, ℤ, subst, rules, to_z, of_z, w64}
use Rattle.std.specs.Prelude.{IfErr, OnOk}
use Rattle.sqlite.specs.declared.types.Value.TheVariants.{Int}
use Rattle.sqlite.specs.Held.{state}
use Rattle.hfs_database.specs.Doing.{HasRunAll}
use Rattle.hfs_database.specs.Refusals.{FailsToAsk, IsUntaken}
use Rattle.hfs_database.specs.StatementTexts.{drop_volumes_text}
use Rattle.hfs_database.proofs.statements.drop_volumes.Goals as goal

pub returns-clause-done : goal.returns-clause-done
unfolding drop_volumes_text
returns-clause-done g c =
    let same : to_z w64 (of_z w64 c.args.image) ≡ c.args.image = search rules in
    subst (λ (id : ℤ). OnOk c.run.result (HasRunAll (state g.S.Store c.args.conn.now) (state g.S.Store c.run.new.conn) drop_volumes_text (Int id ∷ []))) same c.run.ensures.done

pub returns-clause-fails : goal.returns-clause-fails
unfolding drop_volumes_text
returns-clause-fails g c =
    let same : to_z w64 (of_z w64 c.args.image) ≡ c.args.image = search rules in
    subst (λ (id : ℤ). IfErr c.run.result (IsUntaken (FailsToAsk g.S.Store c.args.conn.now c.run.new.conn drop_volumes_text (Int id ∷ [])))) same c.run.ensures.fails
