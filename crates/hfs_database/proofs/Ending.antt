-- How a transaction begins and ends.
use Rattle.std.proofs.Common.{◌≡◌, ◌∙◌, ◌≤◌, refl, sym, ap, subst, ℕ, Bool, true, false, not, List, [], length, codes, None, Ok, Err, Result, IsSome, IsTrue, arith, inl, inr, true≢false}
use Rattle.sqlite.specs.Command.{Command}
use Rattle.sqlite.specs.Command.TheVariants.{Begin, Commit, Rollback, Release, RollbackTo}
use Rattle.sqlite.specs.Held.{Held, state}
use Rattle.sqlite.specs.Listing.{understood}
use Rattle.sqlite.specs.Schema.{Schema}
use Rattle.sqlite.specs.Calls.{IsWrite}
use Rattle.sqlite.specs.Effect.{is_query}
use Rattle.sqlite.specs.State.{CommitsBy, Executes, ExecutesIn, HasCleanDisk, IsMisplaced, IsNoStatement, IsNotRun, IsRolledBack, KeepsCommit, State, Survives, is_pragma, shows_rows}
use Rattle.sqlite.specs.declared.error.Error.{Error}
use Rattle.sqlite.specs.declared.error.Error.TheVariants.{SqliteFailure}
use Rattle.sqlite.specs.declared.error.ErrorCode.TheVariants.{SystemIoFailure}
use Rattle.sqlite_resolve.specs.declared.compiled.Compiled.{Compiled}
use Rattle.sqlite_resolve.specs.declared.error.CompileError.{CompileError}
use Rattle.sqlite.specs.Store.{Ghosts}
use Rattle.sqlite.specs.Tree.{Trees}
use Rattle.sqlite.specs.View.{doubt}
use Rattle.sqlite.proofs.Callers.{IsPlain, command_of, runs_as}
use Rattle.sqlite.proofs.StateLemmas.{survives_weaker}
use Rattle.sqlite_tied.specs.Compute.{everything}
use Rattle.hfs_database.specs.Refusals.{IsNotRolledBack}
use Rattle.hfs_database.specs.Transactions.{IsAsBefore, IsBegun, IsCommitted, IsSettled, IsUndone, KeepsFile}
use Rattle.hfs_database.proofs.Keeping.{commit_rolled_back, keeps_itself, not_outside}

-- ---- what the texts mean, whatever the schema

begin_is : (schema : Schema) → (command_of (understood schema (codes "BEGIN")) ≡ Begin) × IsPlain (understood schema (codes "BEGIN"))
unfolding understood everything
begin_is schema = (refl, (refl, refl))

commit_is : (schema : Schema) → (command_of (understood schema (codes "COMMIT")) ≡ Commit) × IsPlain (understood schema (codes "COMMIT"))
unfolding understood everything
commit_is schema = (refl, (refl, refl))

rollback_is : (schema : Schema) → (command_of (understood schema (codes "ROLLBACK")) ≡ Rollback) × IsPlain (understood schema (codes "ROLLBACK"))
unfolding understood everything
rollback_is schema = (refl, (refl, refl))

-- ---- which of them commit

begin_commits_nothing : (s : State) (db : Trees) → CommitsBy (codes "BEGIN") [] s db → ⊥
unfolding CommitsBy
begin_commits_nothing s db commits =
    let it = begin_is s.now.schema in
    let known = commits.1.is in
    let command : commits.0.command ≡ Begin = sym (ap command_of known) ∙ it.0 in
    let plain : IsPlain (Ok commits.0) = subst IsPlain known it.1 in
    elim commits.2 [
      | inl ends ↦ elim ends.0 [
        | inl is ↦ absurd (let e : Begin ≡ Commit = sym command ∙ is in cc)
        | inr is ↦ absurd (let e : Begin ≡ Release is.0 = sym command ∙ is.2 in cc)
      ]
      | inr writes ↦ absurd (let e = rw (plain.0, command) at writes.3 in cc)
    ]

rollback_commits_nothing : (s : State) (db : Trees) → not s.in_transaction ≡ false → CommitsBy (codes "ROLLBACK") [] s db → ⊥
unfolding CommitsBy
rollback_commits_nothing s db within commits =
    let command : commits.0.command ≡ Rollback = sym (ap command_of commits.1.is) ∙ (rollback_is s.now.schema).0 in
    elim commits.2 [
      | inl ends ↦ elim ends.0 [
        | inl is ↦ absurd (let e : Rollback ≡ Commit = sym command ∙ is in cc)
        | inr is ↦ absurd (let e : Rollback ≡ Release is.0 = sym command ∙ is.2 in cc)
      ]
      | inr writes ↦ not_outside s.in_transaction within writes.0
    ]

commit_commits_all : (s : State) (db : Trees) → not s.in_transaction ≡ false → CommitsBy (codes "COMMIT") [] s db → db ≡ s.now.trees
unfolding CommitsBy
commit_commits_all s db within commits =
    elim commits.2 [
      | inl ends ↦ ends.1
      | inr writes ↦ not_outside s.in_transaction within writes.0
    ]

-- ---- where they fail

-- a whole statement without values and RETURNING, of this length
abbrev IsWhole : ℕ → Result Compiled CompileError → Type 0
IsWhole len (Ok c) = (c.tail ≡ len) × (c.names ≡ []) × (c.formats ≡ []) × (c.returning ≡ None)
IsWhole len (Err e) = ⊥

begin_is_whole : (schema : Schema) → IsWhole 5 (understood schema (codes "BEGIN"))
unfolding understood everything
begin_is_whole schema = (refl, refl, refl, refl)

commit_is_whole : (schema : Schema) → IsWhole 6 (understood schema (codes "COMMIT"))
unfolding understood everything
commit_is_whole schema = (refl, refl, refl, refl)

rollback_is_whole : (schema : Schema) → IsWhole 8 (understood schema (codes "ROLLBACK"))
unfolding understood everything
rollback_is_whole schema = (refl, refl, refl, refl)

-- it writes nothing by itself, and shows no rows
record IsQuiet (command : Command) : Type 0 where
  query : is_query command ≡ false
  pragma : is_pragma command ≡ false
  write : IsWrite command → ⊥

module _ (sql : List ℕ) (old new : State) (command : Command) (is : command_of (understood old.now.schema sql) ≡ command) (len : ℕ) (long : length sql ≤ len)
    (whole : IsWhole len (understood old.now.schema sql)) (quiet : IsQuiet command) (e : Error) where
  is_statement : IsNoStatement old sql [] e → ⊥
  is_statement (inl none) = subst (IsWhole len) none.1 whole
  is_statement (inr none) =
      let of : IsWhole len (Ok none.0) = subst (IsWhole len) none.1 whole in
      elim none.2 [
        | inl more ↦ more.0 (omega (arith, of.0, long))
        | inr rest ↦ elim rest [ inl count ↦ count.0 (sym (ap length of.1)) | inr timed ↦ timed.0 of.2 ]
      ]

  -- it is in its place, so that a fault undoes what was not committed
  undone_by_fault : (IsMisplaced old command e → ⊥) → Executes sql [] old new (Err e) → IsRolledBack old new
  unfolding ExecutesIn IsNotRun
  undone_by_fault placed (inl (inl none)) = absurd (is_statement none.0)
  undone_by_fault placed (inl (inr fails)) = fails.3
  undone_by_fault placed (inr ran) =
      let known = ran.1.is in
      let of : IsWhole len (Ok ran.0) = subst (IsWhole len) known whole in
      let same : ran.0.command ≡ command = sym (ap command_of known) ∙ is in
      let silent : shows_rows false ran.0 ≡ false = rw (same, quiet.query, quiet.pragma, of.3) in
      elim (rw silent at ran.2) [
        | inl refused ↦ elim refused.0 [
          | inl misplaced ↦ absurd (placed (subst (λ (k : Command). IsMisplaced old k e) same misplaced))
          | inr changes ↦ elim changes.0 [ inl write ↦ absurd (quiet.write (subst IsWrite same write)) | inr returns ↦ absurd (true≢false (sym (subst IsSome of.3 returns))) ]
        ]
        | inr fails ↦ fails.3
      ]

-- ---- each in its place

begin_in_place : (s : State) (e : Error) → s.in_transaction ≡ false → IsMisplaced s Begin e → ⊥
begin_in_place s e outside (inl wrong) = elim wrong.1 [
  | inl within ↦ absurd (true≢false (sym within.1 ∙ outside))
  | inr ends ↦ elim ends.0 [ inl is ↦ absurd (let e : Begin ≡ Commit = is in cc) | inr is ↦ absurd (let e : Begin ≡ Rollback = is in cc) ]
]
begin_in_place s e outside (inr marks) = elim marks.2 [
  | inl is ↦ absurd (let e : Begin ≡ Release marks.1 = is in cc)
  | inr is ↦ absurd (let e : Begin ≡ RollbackTo marks.1 = is in cc)
]

commit_in_place : (s : State) (e : Error) → not s.in_transaction ≡ false → IsMisplaced s Commit e → ⊥
commit_in_place s e within (inl wrong) = elim wrong.1 [
  | inl begins ↦ absurd (let e : Commit ≡ Begin = begins.0 in cc)
  | inr ends ↦ not_outside s.in_transaction within ends.1
]
commit_in_place s e within (inr marks) = elim marks.2 [
  | inl is ↦ absurd (let e : Commit ≡ Release marks.1 = is in cc)
  | inr is ↦ absurd (let e : Commit ≡ RollbackTo marks.1 = is in cc)
]

rollback_in_place : (s : State) (e : Error) → not s.in_transaction ≡ false → IsMisplaced s Rollback e → ⊥
rollback_in_place s e within (inl wrong) = elim wrong.1 [
  | inl begins ↦ absurd (let e : Rollback ≡ Begin = begins.0 in cc)
  | inr ends ↦ not_outside s.in_transaction within ends.1
]
rollback_in_place s e within (inr marks) = elim marks.2 [
  | inl is ↦ absurd (let e : Rollback ≡ Release marks.1 = is in cc)
  | inr is ↦ absurd (let e : Rollback ≡ RollbackTo marks.1 = is in cc)
]

-- ---- what they leave

outside_of : (autocommit inside : Bool) → autocommit ≡ not inside → not autocommit ≡ false → inside ≡ false
outside_of autocommit false is fine = refl
outside_of true true is fine = is
outside_of false true is fine = fine

module _ {S : Type 0} (g : Ghosts S) (old new : Held S) where
  begin_undone : (e : Error) → old.in_transaction ≡ false → Executes (codes "BEGIN") [] (state g old) (state g new) (Err e) → IsRolledBack (state g old) (state g new)
  begin_undone e outside ran =
      undone_by_fault (codes "BEGIN") (state g old) (state g new) Begin (begin_is (state g old).now.schema).0 5 (omega arith) (begin_is_whole (state g old).now.schema)
      (record { query = refl; pragma = refl; write = λ no. no }) e (begin_in_place (state g old) e outside) ran

  begun_or_undone : (r : Result ℕ Error) → old.in_transaction ≡ false → Executes (codes "BEGIN") [] (state g old) (state g new) r → KeepsCommit (state g old) (state g new)
  begun_or_undone (Ok count) outside ran =
      let it = begin_is (state g old).now.schema in
      let shown = (runs_as (codes "BEGIN") [] (state g old) (state g new) (state g old).now.schema refl Begin it.0 it.1 count ran).1 in
      record { was_open = λ _. shown.was_open; committed = λ _. shown.committed_is }
  begun_or_undone (Err e) outside ran =
      commit_rolled_back (state g old) (state g new) (begin_undone e outside ran)

  commit_undone : (e : Error) → not old.in_transaction ≡ false → Executes (codes "COMMIT") [] (state g old) (state g new) (Err e) → IsRolledBack (state g old) (state g new)
  commit_undone e within ran =
      undone_by_fault (codes "COMMIT") (state g old) (state g new) Commit (commit_is (state g old).now.schema).0 6 (omega arith) (commit_is_whole (state g old).now.schema)
      (record { query = refl; pragma = refl; write = λ no. no }) e (commit_in_place (state g old) e within) ran

  rolled_back : (r : Result ℕ Error) → not old.in_transaction ≡ false → Executes (codes "ROLLBACK") [] (state g old) (state g new) r → IsRolledBack (state g old) (state g new)
  rolled_back (Ok count) within ran =
      let it = rollback_is (state g old).now.schema in
      (runs_as (codes "ROLLBACK") [] (state g old) (state g new) (state g old).now.schema refl Rollback it.0 it.1 count ran).1
  rolled_back (Err e) within ran =
      undone_by_fault (codes "ROLLBACK") (state g old) (state g new) Rollback (rollback_is (state g old).now.schema).0 8 (omega arith) (rollback_is_whole (state g old).now.schema)
      (record { query = refl; pragma = refl; write = λ no. no }) e (rollback_in_place (state g old) e within) ran

  undone_of : doubt (state g old).is_clean ≤ doubt (state g new).is_clean → (HasCleanDisk (state g new) → IsRolledBack (state g old) (state g new)) → IsUndone g old new
  undone_of clean back = record {
    clean = clean;
    outside = λ h. (back h).autocommit;
    was_open = λ h. (back h).was_open;
    shows = λ h is_open. (back h).undone is_open;
  }

module _ {S : Type 0} (g : Ghosts S) (old new : Held S) (autocommit : Bool) (is : autocommit ≡ not old.in_transaction) (r : Result ℕ Error) where
  pub keeps_begin : not autocommit ≡ false → (HasCleanDisk (state g new) → Executes (codes "BEGIN") [] (state g old) (state g new) r)
      → Survives (state g old) (state g new) (CommitsBy (codes "BEGIN") [] (state g old)) → KeepsFile g old new
  keeps_begin outside ran survives = record {
    survives = survives_weaker (state g old) (state g new) (CommitsBy (codes "BEGIN") [] (state g old)) (λ _. ⊥) (λ clean db commits. begin_commits_nothing (state g old) db commits) survives;
    committed = λ clean. begun_or_undone g old new r (outside_of autocommit old.in_transaction is outside) (ran clean);
  }

  pub keeps_undo : autocommit ≡ false → (HasCleanDisk (state g new) → Executes (codes "ROLLBACK") [] (state g old) (state g new) r)
      → Survives (state g old) (state g new) (CommitsBy (codes "ROLLBACK") [] (state g old)) → KeepsFile g old new
  keeps_undo within ran survives = record {
    survives = survives_weaker (state g old) (state g new) (CommitsBy (codes "ROLLBACK") [] (state g old)) (λ _. ⊥) (λ clean db commits. rollback_commits_nothing (state g old) db (sym is ∙ within) commits) survives;
    committed = λ clean. commit_rolled_back (state g old) (state g new) (rolled_back g old new r (sym is ∙ within) (ran clean));
  }

  pub undoes : autocommit ≡ false → (HasCleanDisk (state g new) → Executes (codes "ROLLBACK") [] (state g old) (state g new) r)
      → Survives (state g old) (state g new) (CommitsBy (codes "ROLLBACK") [] (state g old)) → IsUndone g old new
  undoes within ran survives = undone_of g old new survives.clean (λ clean. rolled_back g old new r (sym is ∙ within) (ran clean))

module _ {S : Type 0} (g : Ghosts S) (old new : Held S) (autocommit : Bool) (is : autocommit ≡ not old.in_transaction) where
  pub leaves_commit : autocommit ≡ false → Survives (state g old) (state g new) (CommitsBy (codes "COMMIT") [] (state g old)) → Survives (state g old) (state g new) (λ db. db ≡ (state g old).now.trees)
  leaves_commit within survives =
      survives_weaker (state g old) (state g new) (CommitsBy (codes "COMMIT") [] (state g old)) (λ db. db ≡ (state g old).now.trees) (λ clean db commits. commit_commits_all (state g old) db (sym is ∙ within) commits) survives

  -- a commit that fails undoes what it was to commit
  pub undone_by_commit : autocommit ≡ false → (e : Error) → (HasCleanDisk (state g new) → Executes (codes "COMMIT") [] (state g old) (state g new) (Err e))
      → Survives (state g old) (state g new) (CommitsBy (codes "COMMIT") [] (state g old)) → IsUndone g old new
  undone_by_commit within e ran survives = undone_of g old new survives.clean (λ clean. commit_undone g old new e (sym is ∙ within) (ran clean))

  -- a transaction that doesn't begin leaves all as it was
  pub back_by_begin : not autocommit ≡ false → (IsTrue autocommit → IsTrue (state g old).is_open → (state g old).now ≡ (state g old).committed) → (e : Error)
      → (HasCleanDisk (state g new) → Executes (codes "BEGIN") [] (state g old) (state g new) (Err e)) → IsAsBefore g old new
  back_by_begin outside settled e ran =
      let none = outside_of autocommit old.in_transaction is outside in
      let back : HasCleanDisk (state g new) → IsRolledBack (state g old) (state g new) = λ clean. begin_undone g old new e none (ran clean) in
      let auto : IsTrue autocommit = is ∙ ap not none in
      record {
        mode = λ clean. (back clean).autocommit ∙ sym none;
        was_open = λ clean. (back clean).was_open;
        shows = λ clean is_open.
            let was = (back clean).was_open is_open in
            (((back clean).undone is_open).0 ∙ sym (settled auto was), ((back clean).undone is_open).1);
      }

-- nothing is under way where autocommit is on
module _ {S : Type 0} (g : Ghosts S) (held : Held S) (autocommit : Bool) (is : autocommit ≡ not held.in_transaction)
    (settled : IsTrue autocommit → IsTrue (state g held).is_open → (state g held).now ≡ (state g held).committed) where
  pub settles : not autocommit ≡ false → IsSettled g held
  settles outside =
      let none = outside_of autocommit held.in_transaction is outside in
      record { outside = none; shows = settled (is ∙ ap not none) }

  pub undone_already : autocommit ≡ true → IsUndone g held held
  undone_already auto = record {
    clean = omega arith;
    outside = λ _. outside_of autocommit held.in_transaction is (ap not auto);
    was_open = λ _ h. h;
    shows = λ _ is_open. (settled auto is_open, refl);
  }

module _ {S : Type 0} (g : Ghosts S) (old new : Held S) (count : ℕ) where
  pub begins : (HasCleanDisk (state g new) → Executes (codes "BEGIN") [] (state g old) (state g new) (Ok count)) → IsBegun g old new
  begins ran clean =
      let it = begin_is (state g old).now.schema in
      (runs_as (codes "BEGIN") [] (state g old) (state g new) (state g old).now.schema refl Begin it.0 it.1 count (ran clean)).1

  pub commits : (HasCleanDisk (state g new) → Executes (codes "COMMIT") [] (state g old) (state g new) (Ok count)) → IsCommitted g old new
  commits ran clean =
      let it = commit_is (state g old).now.schema in
      (runs_as (codes "COMMIT") [] (state g old) (state g new) (state g old).now.schema refl Commit it.0 it.1 count (ran clean)).1

-- where nothing was done
pub leaves_itself : {S : Type 0} (g : Ghosts S) (held : Held S) → Survives (state g held) (state g held) (λ db. db ≡ (state g held).now.trees)
leaves_itself g held = survives_weaker (state g held) (state g held) (λ _. ⊥) (λ db. db ≡ (state g held).now.trees) (λ clean db never. absurd never) (keeps_itself g held).survives

-- where autocommit is off a transaction is under way
pub inside_of : (inside : Bool) → not inside ≡ false → IsTrue inside
inside_of true off = refl
inside_of false off = absurd (true≢false off)

-- after a rollback a transaction is under way still
pub still_begun : {S : Type 0} (g : Ghosts S) (old new : Held S) (before : Bool) → before ≡ not old.in_transaction → before ≡ false → false ≡ not new.in_transaction
    → (count : ℕ) → (HasCleanDisk (state g new) → Executes (codes "ROLLBACK") [] (state g old) (state g new) (Ok count)) → IsNotRolledBack g old new
still_begun g old new before was within still count ran =
    let none : HasCleanDisk (state g new) → ⊥ = λ clean.
    let back = rolled_back g old new (Ok count) (sym was ∙ within) (ran clean) in true≢false (sym (ap not back.autocommit) ∙ sym still) in
    (inside_of old.in_transaction (sym was ∙ within), (SqliteFailure SystemIoFailure, refl, λ clean. absurd (none clean)))
