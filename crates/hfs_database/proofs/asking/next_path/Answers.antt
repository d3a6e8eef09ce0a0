-- The parameter is the last path, and what was found is the answer's first row.
use Rattle.std.proofs.Common.{◌∷◌, [], Some, subst, inl, inr}
use Rattle.sqlite.specs.declared.types.Value.{Value}
use Rattle.sqlite.specs.Held.{state}
use Rattle.hfs_database.specs.Asking.{IsAnswered, next_path_text, text_or_null}
use Rattle.hfs_database.specs.declared.fault.DatabaseFault.{DatabaseFault}
use Rattle.hfs_database.specs.Faults.{FailsToAnswer, FailsToTell, IsUnreadPath}
use Rattle.hfs_database.proofs.FaultLemmas.{passed_on}
use Rattle.hfs_database.proofs.asking.next_path.Goals as goal

pub returns-in_ok-path_in-in-Some-clause-next : goal.returns-in_ok-path_in-in-Some-clause-next
unfolding next_path_text
returns-in_ok-path_in-in-Some-clause-next g c =
    let asked : IsAnswered (state g.S.Store c.args.collection.now.conn) (state g.S.Store c.first_row.new.conn) next_path_text (text_or_null c.args.last.now ∷ []) c.in_ok-row.field-0 =
    subst (λ (value : Value). IsAnswered (state g.S.Store c.args.collection.now.conn) (state g.S.Store c.first_row.new.conn) next_path_text (value ∷ []) c.in_ok-row.field-0)
    c.parameter.ensures c.in_ok-row.ensures.answered in
    let found : IsAnswered (state g.S.Store c.args.collection.now.conn) (state g.S.Store c.first_row.new.conn) next_path_text (text_or_null c.args.last.now ∷ []) (Some c.in-Some.row) =
    subst (IsAnswered (state g.S.Store c.args.collection.now.conn) (state g.S.Store c.first_row.new.conn) next_path_text (text_or_null c.args.last.now ∷ [])) c.in-Some.is asked in
    λ clean. (c.in-Some.row, found clean, c.in_ok-path_in-in-Some.ensures.path)

pub returns-in-None-clause-next : goal.returns-in-None-clause-next
unfolding next_path_text
returns-in-None-clause-next g c =
    let asked : IsAnswered (state g.S.Store c.args.collection.now.conn) (state g.S.Store c.first_row.new.conn) next_path_text (text_or_null c.args.last.now ∷ []) c.in_ok-row.field-0 =
    subst (λ (value : Value). IsAnswered (state g.S.Store c.args.collection.now.conn) (state g.S.Store c.first_row.new.conn) next_path_text (value ∷ []) c.in_ok-row.field-0)
    c.parameter.ensures c.in_ok-row.ensures.answered in
    subst (IsAnswered (state g.S.Store c.args.collection.now.conn) (state g.S.Store c.first_row.new.conn) next_path_text (text_or_null c.args.last.now ∷ [])) c.in-None.is asked

pub returns-in_err-row-clause-fault : goal.returns-in_err-row-clause-fault
unfolding next_path_text
returns-in_err-row-clause-fault g c =
    let failed : FailsToAnswer (state g.S.Store c.args.collection.now.conn) (state g.S.Store c.first_row.new.conn) next_path_text (text_or_null c.args.last.now ∷ []) c.in_err-row.field-0.0 =
    subst (λ (value : Value). FailsToAnswer (state g.S.Store c.args.collection.now.conn) (state g.S.Store c.first_row.new.conn) next_path_text (value ∷ []) c.in_err-row.field-0.0)
    c.parameter.ensures c.in_err-row.ensures.fault in
    passed_on c.from_residual.result c.in_err-row.field-0.0
    (λ (fault : DatabaseFault). FailsToTell IsUnreadPath (state g.S.Store c.args.collection.now.conn) (state g.S.Store c.first_row.new.conn) next_path_text (text_or_null c.args.last.now ∷ []) fault)
    c.from_residual.ensures.1 (inl failed)

pub returns-in_err-path_in-in-Some-clause-fault : goal.returns-in_err-path_in-in-Some-clause-fault
unfolding next_path_text
returns-in_err-path_in-in-Some-clause-fault g c =
    let asked : IsAnswered (state g.S.Store c.args.collection.now.conn) (state g.S.Store c.first_row.new.conn) next_path_text (text_or_null c.args.last.now ∷ []) c.in_ok-row.field-0 =
    subst (λ (value : Value). IsAnswered (state g.S.Store c.args.collection.now.conn) (state g.S.Store c.first_row.new.conn) next_path_text (value ∷ []) c.in_ok-row.field-0)
    c.parameter.ensures c.in_ok-row.ensures.answered in
    let found : IsAnswered (state g.S.Store c.args.collection.now.conn) (state g.S.Store c.first_row.new.conn) next_path_text (text_or_null c.args.last.now ∷ []) (Some c.in-Some.row) =
    subst (IsAnswered (state g.S.Store c.args.collection.now.conn) (state g.S.Store c.first_row.new.conn) next_path_text (text_or_null c.args.last.now ∷ [])) c.in-Some.is asked in
    passed_on c.from_residual-in_err-path_in-in-Some.result c.in_err-path_in-in-Some.field-0.0
    (λ (fault : DatabaseFault). FailsToTell IsUnreadPath (state g.S.Store c.args.collection.now.conn) (state g.S.Store c.first_row.new.conn) next_path_text (text_or_null c.args.last.now ∷ []) fault)
    c.from_residual-in_err-path_in-in-Some.ensures.1 (inr (c.in-Some.row, found, c.in_err-path_in-in-Some.ensures.fault))
