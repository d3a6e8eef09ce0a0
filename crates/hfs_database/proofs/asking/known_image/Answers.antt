-- The parameter is the path, and what was found is the answer's first row.
use Rattle.std.proofs.Common.{◌∷◌, [], List, ℕ, Some, subst, inl, inr}
use Rattle.sqlite.specs.declared.types.Value.TheVariants.{Text}
use Rattle.sqlite.specs.Held.{state}
use Rattle.hfs_database.specs.Asking.{IsAnswered, known_image_text}
use Rattle.hfs_database.specs.declared.fault.DatabaseFault.{DatabaseFault}
use Rattle.hfs_database.specs.Faults.{FailsToAnswer, FailsToTell, IsUnreadImage}
use Rattle.hfs_database.proofs.FaultLemmas.{passed_on}
use Rattle.hfs_database.proofs.asking.known_image.Goals as goal

pub returns-in_ok-image_of-in-Some-clause-known : goal.returns-in_ok-image_of-in-Some-clause-known
unfolding known_image_text
returns-in_ok-image_of-in-Some-clause-known g c =
    let asked : IsAnswered (state g.S.Store c.args.collection.now.conn) (state g.S.Store c.first_row.new.conn) known_image_text (Text c.args.path.now ∷ []) c.in_ok-row.field-0 =
    subst (λ (path : List ℕ). IsAnswered (state g.S.Store c.args.collection.now.conn) (state g.S.Store c.first_row.new.conn) known_image_text (Text path ∷ []) c.in_ok-row.field-0)
    c.as_bytes.ensures.value c.in_ok-row.ensures.answered in
    let found : IsAnswered (state g.S.Store c.args.collection.now.conn) (state g.S.Store c.first_row.new.conn) known_image_text (Text c.args.path.now ∷ []) (Some c.in-Some.row) =
    subst (IsAnswered (state g.S.Store c.args.collection.now.conn) (state g.S.Store c.first_row.new.conn) known_image_text (Text c.args.path.now ∷ [])) c.in-Some.is asked in
    λ clean. (c.in-Some.row, found clean, c.in_ok-image_of-in-Some.ensures.image)

pub returns-in-None-clause-known : goal.returns-in-None-clause-known
unfolding known_image_text
returns-in-None-clause-known g c =
    let asked : IsAnswered (state g.S.Store c.args.collection.now.conn) (state g.S.Store c.first_row.new.conn) known_image_text (Text c.args.path.now ∷ []) c.in_ok-row.field-0 =
    subst (λ (path : List ℕ). IsAnswered (state g.S.Store c.args.collection.now.conn) (state g.S.Store c.first_row.new.conn) known_image_text (Text path ∷ []) c.in_ok-row.field-0)
    c.as_bytes.ensures.value c.in_ok-row.ensures.answered in
    subst (IsAnswered (state g.S.Store c.args.collection.now.conn) (state g.S.Store c.first_row.new.conn) known_image_text (Text c.args.path.now ∷ [])) c.in-None.is asked

pub returns-in_err-row-clause-fault : goal.returns-in_err-row-clause-fault
unfolding known_image_text
returns-in_err-row-clause-fault g c =
    let failed : FailsToAnswer (state g.S.Store c.args.collection.now.conn) (state g.S.Store c.first_row.new.conn) known_image_text (Text c.args.path.now ∷ []) c.in_err-row.field-0.0 =
    subst (λ (path : List ℕ). FailsToAnswer (state g.S.Store c.args.collection.now.conn) (state g.S.Store c.first_row.new.conn) known_image_text (Text path ∷ []) c.in_err-row.field-0.0)
    c.as_bytes.ensures.value c.in_err-row.ensures.fault in
    passed_on c.from_residual.result c.in_err-row.field-0.0
    (λ (fault : DatabaseFault). FailsToTell IsUnreadImage (state g.S.Store c.args.collection.now.conn) (state g.S.Store c.first_row.new.conn) known_image_text (Text c.args.path.now ∷ []) fault)
    c.from_residual.ensures.1 (inl failed)

pub returns-in_err-image_of-in-Some-clause-fault : goal.returns-in_err-image_of-in-Some-clause-fault
unfolding known_image_text
returns-in_err-image_of-in-Some-clause-fault g c =
    let asked : IsAnswered (state g.S.Store c.args.collection.now.conn) (state g.S.Store c.first_row.new.conn) known_image_text (Text c.args.path.now ∷ []) c.in_ok-row.field-0 =
    subst (λ (path : List ℕ). IsAnswered (state g.S.Store c.args.collection.now.conn) (state g.S.Store c.first_row.new.conn) known_image_text (Text path ∷ []) c.in_ok-row.field-0)
    c.as_bytes.ensures.value c.in_ok-row.ensures.answered in
    let found : IsAnswered (state g.S.Store c.args.collection.now.conn) (state g.S.Store c.first_row.new.conn) known_image_text (Text c.args.path.now ∷ []) (Some c.in-Some.row) =
    subst (IsAnswered (state g.S.Store c.args.collection.now.conn) (state g.S.Store c.first_row.new.conn) known_image_text (Text c.args.path.now ∷ [])) c.in-Some.is asked in
    passed_on c.from_residual-in_err-image_of-in-Some.result c.in_err-image_of-in-Some.field-0.0
    (λ (fault : DatabaseFault). FailsToTell IsUnreadImage (state g.S.Store c.args.collection.now.conn) (state g.S.Store c.first_row.new.conn) known_image_text (Text c.args.path.now ∷ []) fault)
    c.from_residual-in_err-image_of-in-Some.ensures.1 (inr (c.in-Some.row, found, c.in_err-image_of-in-Some.ensures.fault))
