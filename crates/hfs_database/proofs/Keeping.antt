-- What keeps the file.
use Rattle.std.proofs.Common.{◌≡◌, ◌∙◌, refl, sym, subst, ℕ, Bool, true, false, not, if◌then◌else◌, IsTrue, List, [], Some, None, Result, Ok, Err, arith, inl, inr, true≢false}
use Rattle.std.specs.Prelude.{IfErr, IfOk}
use Rattle.sqlite.specs.Held.{Held, state}
use Rattle.sqlite.specs.State.{CommitsShowing, ExecutesInside, FailsToQuery, FailsToShow, HasCleanDisk, IsNotRun, IsRolledBack, IsUnchanged, KeepsCommit, QueriesRow, Shown, ShowsRows, State, Survives}
use Rattle.sqlite.specs.declared.error.Error.{Error}
use Rattle.sqlite.specs.declared.error.Error.TheVariants.{SqliteFailure}
use Rattle.sqlite.specs.declared.error.ErrorCode.TheVariants.{TransactionState}
use Rattle.sqlite_resolve.specs.declared.compiled.Compiled.{Compiled}
use Rattle.sqlite.specs.declared.types.Value.{Value}
use Rattle.sqlite.specs.Store.{Ghosts}
use Rattle.sqlite.proofs.StateLemmas.{survives_then, survives_weaker}
use Rattle.hfs_database.specs.Transactions.{IsAsBefore, KeepsFile, begun}

pub keeps_itself : {S : Type 0} (g : Ghosts S) (held : Held S) → KeepsFile g held held
keeps_itself g held = record {
  survives = record {
    clean = omega arith;
    shield = λ h. h;
    counts = omega arith;
    limit = refl;
    closes = λ clean still. inl still;
    crash = λ clean db h. inl h;
  };
  committed = λ clean. record { was_open = λ h. h; committed = λ _. refl };
}

pub as_itself : {S : Type 0} (g : Ghosts S) (held : Held S) → IsAsBefore g held held
as_itself g held = record { mode = λ _. refl; was_open = λ _ h. h; shows = λ _ _. (refl, refl) }

-- two such states are one, and the disk was as clean before
pub commit_then : (a b c : State) (clean : HasCleanDisk b) → KeepsCommit a b → KeepsCommit b c → KeepsCommit a c
commit_then a b c clean one two = record {
  was_open = λ h. one.was_open (two.was_open h);
  committed = λ h. two.committed h ∙ one.committed (two.was_open h);
}

pub keeps_then : {S : Type 0} (g : Ghosts S) (old mid new : Held S) → KeepsFile g old mid → KeepsFile g mid new → KeepsFile g old new
keeps_then g old mid new one two = record {
  survives = survives_then (state g old) (state g mid) (state g new) (λ _. ⊥) (λ _. ⊥) (λ _. ⊥) (λ clean db h. h) (λ clean db h. h) one.survives two.survives;
  committed = λ clean.
      let earlier : HasCleanDisk (state g mid) = omega (arith, two.survives.clean, clean) in
      commit_then (state g old) (state g mid) (state g new) earlier (one.committed earlier) (two.committed clean);
}

-- a transaction begins, and commits nothing by that
pub keeps_begun : {S : Type 0} (g : Ghosts S) (start new : Held S) → KeepsFile g (begun start) new → KeepsFile g start new
keeps_begun g start new keeps = record {
  survives = record {
    clean = keeps.survives.clean;
    shield = keeps.survives.shield;
    counts = keeps.survives.counts;
    limit = keeps.survives.limit;
    closes = keeps.survives.closes;
    crash = keeps.survives.crash;
  };
  committed = λ clean. record { was_open = (keeps.committed clean).was_open; committed = (keeps.committed clean).committed };
}

-- what is within a transaction isn't outside one
pub not_outside : {X : Type 0} (inside : Bool) → not inside ≡ false → inside ≡ false → X
not_outside true within outside = absurd (true≢false outside)
not_outside false within outside = absurd (true≢false within)

-- ---- what was committed last is the same

commit_unchanged : (old new : State) → IsUnchanged old new → KeepsCommit old new
commit_unchanged old new same = record { was_open = λ _. same.0.was_open; committed = λ _. same.0.committed_is }

pub commit_rolled_back : (old new : State) → IsRolledBack old new → KeepsCommit old new
commit_rolled_back old new back = record { was_open = back.was_open; committed = λ is_open. (back.undone is_open).1 }

commit_not_run : (old new : State) (sql : List ℕ) (params : List Value) (e : Error) → IsNotRun old new sql params e → KeepsCommit old new
unfolding IsNotRun
commit_not_run old new sql params e (inl refused) = commit_unchanged old new refused.1
commit_not_run old new sql params e (inr fails) = commit_rolled_back old new fails.3

module _ (sql : List ℕ) (old new : State) where
  commit_failing : (c : Compiled) (p : List Value) (e : Error) (o : _) → FailsToShow old new sql c p e o → KeepsCommit old new
  commit_failing c p e None h = commit_unchanged old new h.3
  commit_failing c p e (Some what) (inl refused) = commit_unchanged old new refused.1
  commit_failing c p e (Some what) (inr failed) = commit_rolled_back old new failed.3

  within_is : {X : Type 0} (b : Bool) (x y : X) → not b ≡ false → (if b then x else y) ≡ x
  within_is true x y within = refl
  within_is false x y wrong = absurd (true≢false wrong)

  commit_showing : (c : Compiled) (p : List Value) (rows : List (List Value)) (o : _) → not old.in_transaction ≡ false → ShowsRows old new sql c p rows o → KeepsCommit old new
  commit_showing c p rows None within h = commit_unchanged old new h.3
  commit_showing c p rows (Some what) within h =
      record { was_open = λ _. h.1.shown.was_open; committed = λ _. h.1.shown.committed_is ∙ within_is old.in_transaction old.committed new.now within }

module _ (sql : List ℕ) (params : List Value) (old new : State) where
  commit_failed : (e : Error) → FailsToQuery sql params old new e → KeepsCommit old new
  unfolding FailsToQuery
  commit_failed e (inl not_run) = commit_not_run old new sql params e not_run
  commit_failed e (inr h) = commit_failing sql old new h.0 _ e h.0.returning h.2

  commit_shown : (rows : List (List Value)) → not old.in_transaction ≡ false → Shown sql params old new rows → KeepsCommit old new
  unfolding Shown
  commit_shown rows within h = commit_showing sql old new h.0 _ rows h.0.returning within h.2

  pub commit_row : (r : Result (List Value) Error) → not old.in_transaction ≡ false → QueriesRow sql params old new r → KeepsCommit old new
  unfolding QueriesRow
  commit_row (Ok row) within (inl begins) = commit_unchanged old new begins.1
  commit_row (Ok row) within (inr shown) = commit_shown shown.0 within shown.1
  commit_row (Err e) within (inl failed) = commit_failed e failed
  commit_row (Err e) within (inr none) = commit_shown [] within none.1

  commit_inside : (r : Result ℕ Error) → ExecutesInside 0 sql params old new r → KeepsCommit old new
  commit_inside (Ok count) h = record { was_open = λ _. h.1.was_open; committed = λ _. h.1.committed_is }
  commit_inside (Err e) (inl h) = elim h.1 [ inl same ↦ commit_unchanged old new same | inr back ↦ commit_rolled_back old new back ]
  commit_inside (Err e) (inr h) = commit_unchanged old new h.2

-- a statement that only shows rows commits nothing in a transaction
pub keeps_inside : {S : Type 0} (g : Ghosts S) (old new : Held S) (autocommit : Bool) (sql : List ℕ) (params : List Value)
    → autocommit ≡ not old.in_transaction → autocommit ≡ false → Survives (state g old) (state g new) (CommitsShowing sql params (state g old))
    → (HasCleanDisk (state g new) → not old.in_transaction ≡ false → KeepsCommit (state g old) (state g new)) → KeepsFile g old new
unfolding CommitsShowing
keeps_inside g old new autocommit sql params is within survives committed = record {
  survives = survives_weaker (state g old) (state g new) (CommitsShowing sql params (state g old)) (λ _. ⊥)
      (λ clean db commits. not_outside old.in_transaction (sym is ∙ within) commits.3.0) survives;
  committed = λ clean. committed clean (sym is ∙ within);
}

-- all rows of a question, or why there are none
pub commit_rows : {S X : Type 0} (g : Ghosts S) (old new : Held S) (sql : List ℕ) (params : List Value) (shown : X → List (List Value)) (r : Result X Error)
    → (HasCleanDisk (state g new) → IfOk r (λ rows. Shown sql params (state g old) (state g new) (shown rows))) → (HasCleanDisk (state g new) → IfErr r (FailsToQuery sql params (state g old) (state g new)))
    → HasCleanDisk (state g new) → not old.in_transaction ≡ false → KeepsCommit (state g old) (state g new)
commit_rows g old new sql params shown (Ok rows) ok err clean within = commit_shown sql params (state g old) (state g new) (shown rows) within (ok clean)
commit_rows g old new sql params shown (Err e) ok err clean within = commit_failed sql params (state g old) (state g new) e (err clean)

-- a statement of a transaction
pub keeps_made : {S : Type 0} (g : Ghosts S) (old new : Held S) (sql : List ℕ) (params : List Value) (r : Result ℕ Error)
    → ((state g old).in_transaction ≡ false → (r ≡ Err (SqliteFailure TransactionState)) × (new ≡ old)) → (HasCleanDisk (state g new) → IsTrue (state g old).in_transaction → ExecutesInside 0 sql params (state g old) (state g new) r)
    → Survives (state g old) (state g new) (λ _. ⊥) → KeepsFile g old new
keeps_made {S = S} g old new sql params r ended runs survives = record { survives = survives; committed = by_mode old.in_transaction refl }
  where
    by_mode : (b : Bool) → old.in_transaction ≡ b → HasCleanDisk (state g new) → KeepsCommit (state g old) (state g new)
    by_mode true is clean = commit_inside sql params (state g old) (state g new) r (runs clean is)
    by_mode false is clean = subst (λ (held : Held S). KeepsCommit (state g old) (state g held)) (sym (ended is).1) (record { was_open = λ h. h; committed = λ _. refl })
