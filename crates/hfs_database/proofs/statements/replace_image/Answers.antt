-- The row is put, and its volumes go.
use Rattle.std.proofs.Common.{◌≡◌, inl, inr, ◌++◌, ◌∙◌, ap, sym, subst, map, rules, to_z, of_z, w64}
use Rattle.sqlite.specs.Held.{state}
use Rattle.sqlite.specs.Values.{bound}
use Rattle.hfs_database.specs.Doing.{HasFound}
use Rattle.hfs_database.specs.Refusals.{FailsToShowNumber}
use Rattle.hfs_database.specs.StatementTexts.{put_image_text}
use Rattle.hfs_database.specs.Values.{sql_value}
use Rattle.hfs_database.proofs.RefusalLemmas.{untaken_of}
use Rattle.hfs_database.proofs.statements.replace_image.Goals as goal

pub returns-clause-done : goal.returns-clause-done
unfolding put_image_text
returns-clause-done g c =
    let same : to_z w64 (of_z w64 c.in_ok-id.id) ≡ c.in_ok-id.id = search rules in
    let pushed : bound c.push_parameters.new.parameters.items ≡ map sql_value c.args.values.now =
    c.in_ok-push_parameters.ensures.pushed ∙ ap (λ front. bound front ++ map sql_value c.args.values.now) c.new-parameters.ensures.items in
    let sent : bound c.deref.result.now ≡ map sql_value c.args.values.now = ap bound c.deref.ensures.value ∙ pushed in
    record {
      put = c.put.new.conn;
      puts = subst (λ values. HasFound (state g.S.Store c.args.conn.now) (state g.S.Store c.put.new.conn) put_image_text values (to_z w64 (of_z w64 c.in_ok-id.id))) sent
          (subst (λ id. HasFound (state g.S.Store c.args.conn.now) (state g.S.Store c.put.new.conn) put_image_text (bound c.deref.result.now) id) (sym same) c.in_ok-id.ensures.done);
      drops = c.in_ok-drop_volumes.ensures.done;
    }

pub returns-in_err-id-clause-fails : goal.returns-in_err-id-clause-fails
unfolding put_image_text
returns-in_err-id-clause-fails g c =
    let pushed : bound c.push_parameters.new.parameters.items ≡ map sql_value c.args.values.now =
    c.in_ok-push_parameters.ensures.pushed ∙ ap (λ front. bound front ++ map sql_value c.args.values.now) c.new-parameters.ensures.items in
    let sent : bound c.deref.result.now ≡ map sql_value c.args.values.now = ap bound c.deref.ensures.value ∙ pushed in
    untaken_of c.from_residual-in_err-id.result c.in_err-id.field-0.0 c.from_residual-in_err-id.ensures.1
    (λ why. inr (inl (subst (FailsToShowNumber g.S.Store c.args.conn.now c.put.new.conn put_image_text) sent why))) c.in_err-id.ensures.fails

pub returns-in_err-drop_volumes-clause-fails : goal.returns-in_err-drop_volumes-clause-fails
unfolding put_image_text
returns-in_err-drop_volumes-clause-fails g c =
    let same : to_z w64 (of_z w64 c.in_ok-id.id) ≡ c.in_ok-id.id = search rules in
    let pushed : bound c.push_parameters.new.parameters.items ≡ map sql_value c.args.values.now =
    c.in_ok-push_parameters.ensures.pushed ∙ ap (λ front. bound front ++ map sql_value c.args.values.now) c.new-parameters.ensures.items in
    let sent : bound c.deref.result.now ≡ map sql_value c.args.values.now = ap bound c.deref.ensures.value ∙ pushed in
    let found = subst (λ values. HasFound (state g.S.Store c.args.conn.now) (state g.S.Store c.put.new.conn) put_image_text values (to_z w64 (of_z w64 c.in_ok-id.id))) sent
    (subst (λ id. HasFound (state g.S.Store c.args.conn.now) (state g.S.Store c.put.new.conn) put_image_text (bound c.deref.result.now) id) (sym same) c.in_ok-id.ensures.done) in
    untaken_of c.from_residual-in_err-drop_volumes.result c.in_err-drop_volumes.field-0.0 c.from_residual-in_err-drop_volumes.ensures.1
    (λ why. inr (inr (c.put.new.conn, to_z w64 (of_z w64 c.in_ok-id.id), c.put.ensures.keeps, found, c.drop_volumes.ensures.keeps, why))) c.in_err-drop_volumes.ensures.fails
