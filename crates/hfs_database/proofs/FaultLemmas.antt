-- Which fault tells an error.
use Rattle.std.proofs.Common.{◌≡◌, ◌≢◌, ◌∙◌, ◌<◌, ap, refl, length, ◌⊎◌, ℕ, List, Result, Ok, Err, IsErrAnd, inl, inr, subst, sym}
use Rattle.std.proofs.lemmas.Bool.{cases_lt}
use Rattle.std.specs.Prelude.{IfErr}
use Rattle.sqlite.specs.declared.error.Error.{Error}
use Rattle.sqlite.specs.declared.error.Error.TheVariants.{QueryReturnedNoRows, SqliteFailure}
use Rattle.sqlite.specs.declared.error.ErrorCode.TheVariants.{OutOfMemory}
use Rattle.sqlite.specs.declared.types.Value.{Value}
use Rattle.sqlite.specs.Reading.{IsReadError}
use Rattle.sqlite.specs.Values.{IsInt}
use Rattle.sqlite.specs.State.{State, FailsToQuery, HasCleanDisk, QueriesRow}
use Rattle.sqlite_value.specs.Order.{column}
use Rattle.hfs_database.specs.declared.fault.DatabaseFault.{DatabaseFault}
use Rattle.hfs_database.specs.declared.fault.DatabaseFault.TheVariants.{CannotOpen, CannotWrite}
use Rattle.hfs_database.specs.declared.fault.Obstacle.TheVariants.{Unreadable}
use Rattle.hfs_database.specs.Faults.{FailsToAnswer, FailsToTell, IsUnreadable, IsUnreadAt, opening_fault, writing_fault}
use Rattle.hfs_database.specs.Tables.{IsUntoldAt}

module _ (old new : State) (text : List ℕ) (params : List Value) where
  pub fails_to_answer : (fault : DatabaseFault) (error : Error) → fault ≡ writing_fault error → (HasCleanDisk new → FailsToQuery text params old new error) → FailsToAnswer old new text params fault
  fails_to_answer fault error is asked = ∣ (error, is, asked) ∣₁

  -- the error isn't that there is no row
  unanswered : (error : Error) → error ≢ QueryReturnedNoRows → QueriesRow text params old new (Err error) → FailsToQuery text params old new error
  unfolding QueriesRow
  unanswered error is (inl failed) = failed
  unanswered error is (inr none) = absurd (is none.0)

  pub fails_but_for_rows : (fault : DatabaseFault) (error : Error) → fault ≡ writing_fault error → error ≢ QueryReturnedNoRows
      → (HasCleanDisk new → QueriesRow text params old new (Err error)) → FailsToAnswer old new text params fault
  fails_but_for_rows fault error told is asked = fails_to_answer fault error told (λ clean. unanswered error is (asked clean))

  -- it could not answer
  pub told_unanswered : {X : Type 0} (IsUnread : List Value → DatabaseFault → Type 0) (r : Result X DatabaseFault) → IfErr r (FailsToAnswer old new text params) → IfErr r (FailsToTell IsUnread old new text params)
  told_unanswered IsUnread (Ok x) fails = tt
  told_unanswered IsUnread (Err fault) fails = inl fails

  -- its row can't be read
  pub told_unread : {X : Type 0} (IsUnread : List Value → DatabaseFault → Type 0) (r : Result X DatabaseFault) (row : List Value) → (HasCleanDisk new → QueriesRow text params old new (Ok row))
      → IfErr r (IsUnread row) → IfErr r (FailsToTell IsUnread old new text params)
  told_unread IsUnread (Ok x) row asked unread = tt
  told_unread IsUnread (Err fault) row asked unread = inr (row, asked, unread)

-- there is no such column, or it can't be read so, where memory was not refused
unreadable : (IsRead : Value → Type 0) (row : List Value) (at : ℕ) → (at < length row → ¬ IsRead (column row at)) → IsUnreadable IsRead row at
unreadable IsRead row at unread = elim (cases_lt at (length row)) [ inl within ↦ inr (unread within) | inr past ↦ inl past ]

-- where a column isn't read, memory was refused, or these are its faults
record IsPlainError (error : Error) : Type 0 where
  enough : error ≢ SqliteFailure OutOfMemory
  writing : writing_fault error ≡ CannotWrite
  opening : opening_fault error ≡ CannotOpen Unreadable

told_by : (at : ℕ) (value : Value) (error : Error) → IsReadError at value error → (error ≡ SqliteFailure OutOfMemory) ⊎ IsPlainError error
told_by at value error (inl index) = inr (rw index (record { enough = λ e. cc; writing = refl; opening = refl }))
told_by at value error (inr (inl kind)) = inr (rw kind (record { enough = λ e. cc; writing = refl; opening = refl }))
told_by at value error (inr (inr (inl range))) = inr (rw range (record { enough = λ e. cc; writing = refl; opening = refl }))
told_by at value error (inr (inr (inr (inl text)))) = inr (rw text (record { enough = λ e. cc; writing = refl; opening = refl }))
told_by at value error (inr (inr (inr (inr memory)))) = inl memory

module _ (row : List Value) (at : ℕ) (fault : DatabaseFault) (error : Error) where
  -- this column can't be read
  pub unread_at : (IsRead : Value → Type 0) → fault ≡ writing_fault error → IsReadError at (column row at) error
      → (error ≢ SqliteFailure OutOfMemory → at < length row → ¬ IsRead (column row at)) → IsUnreadAt IsRead row at fault
  unread_at IsRead is named unread =
      elim (told_by at (column row at) error named) [
        | inl memory ↦ inl (is ∙ ap writing_fault memory)
        | inr plain ↦ inr (is ∙ plain.writing, unreadable IsRead row at (unread plain.enough))
      ]

  -- this column is no integer
  pub untold_at : fault ≡ opening_fault error → IsReadError at (column row at) error
      → (error ≢ SqliteFailure OutOfMemory → at < length row → ¬ IsInt (column row at)) → IsUntoldAt row at fault
  untold_at is named unread =
      elim (told_by at (column row at) error named) [
        | inl memory ↦ inl (is ∙ ap opening_fault memory)
        | inr plain ↦ inr (is ∙ plain.opening, unreadable IsInt row at (unread plain.enough))
      ]

-- a fault that is handed on
pub passed_on : {X : Type 0} (r : Result X DatabaseFault) (fault : DatabaseFault) (P : DatabaseFault → Type 0) → IsErrAnd r (λ x. x ≡ fault) → P fault → IfErr r P
passed_on (Ok x) fault P is p = tt
passed_on (Err why) fault P is p = subst P (sym is) p
