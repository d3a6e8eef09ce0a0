-- A volume is refused under the image that was put last.
use Rattle.std.proofs.Common.{◌≡◌, ◌∷◌, ℤ, inl, inr, map, sym, subst, rules, to_z, of_z, w64}
use Rattle.sqlite.specs.Held.{state}
use Rattle.sqlite.specs.declared.types.Value.TheVariants.{Int}
use Rattle.hfs_database.specs.declared.value.Table.{Table}
use Rattle.hfs_database.specs.Refusals.{FailsToShowNumber, RefusesRow}
use Rattle.hfs_database.specs.StatementTexts.{put_volume_text}
use Rattle.hfs_database.specs.Values.{sql_value}
use Rattle.hfs_database.proofs.RefusalLemmas.{untaken_of}
use Rattle.hfs_database.proofs.statements.put_row.Goals as goal

pub returns-in_err-last-in-Volume-clause-refused : goal.returns-in_err-last-in-Volume-clause-refused
returns-in_err-last-in-Volume-clause-refused g c =
    let same : to_z w64 (of_z w64 c.args.last.now.image) ≡ c.args.last.now.image = search rules in
    untaken_of c.from_residual-in_err-last-in-Volume.result c.in_err-last-in-Volume.field-0.0 c.from_residual-in_err-last-in-Volume.ensures.1
    (λ why. subst (λ (table : Table). RefusesRow g.S.Store table c.args.values.now c.args.conn.now c.put_volume.new.conn c.args.last.now) (sym c.in-Volume.is)
    (elim why [
      | inl large ↦ inl large
      | inr fails ↦ inr (subst (λ (id : ℤ). FailsToShowNumber g.S.Store c.args.conn.now c.put_volume.new.conn put_volume_text (Int id ∷ map sql_value c.args.values.now)) same fails)
    ]))
    c.in_err-last-in-Volume.ensures.fails
