-- Faults that are handed on with their cause.
use Rattle.std.proofs.Common.{◌≡◌, ◌∙◌, Result, Ok, Err, IsErrAnd, Option, Some, None, false, inl, inr, List, [], ◌∷◌, ◌++◌, map, sym, subst}
use Rattle.std.proofs.Math.Logic.{∥∥₁_map}
use Rattle.std.specs.Prelude.{IfErr, OnOk}
use Rattle.std.specs.Result.{result_err}
use Rattle.sqlite.specs.Held.{Held}
use Rattle.sqlite.specs.Store.{Ghosts}
use Rattle.hfs_database.specs.declared.fault.DatabaseFault.{DatabaseFault}
use Rattle.hfs_database.specs.declared.fault.DatabaseFault.TheVariants.{CannotOpen, CannotWrite, NoMemory}
use Rattle.hfs_database.specs.declared.fault.PutFault.{PutFault}
use Rattle.hfs_database.specs.declared.fault.PutFault.TheVariants.{Database, Source}
use Rattle.hfs_database.specs.declared.statements.LastRows.{LastRows}
use Rattle.hfs_database.specs.Faults.{untaken_fault}
use Rattle.hfs_database.specs.Rows.{PutsRow}
use Rattle.hfs_database.specs.Taken.{TakenRow}
use Rattle.hfs_database.specs.Transactions.{HasPutSince, IsBegun, IsUndone, KeepsFile, LeavesFile, PutsAll, no_rows}
use Rattle.hfs_database.specs.Values.{sql_value}
use Rattle.hfs_database.proofs.RowLemmas.{puts_one_more}
use Rattle.hfs_database.specs.declared.row_fault.TakerFault.{TakerFault}
use Rattle.hfs_database.specs.declared.row_fault.TakerFault.TheVariants as taker
use Rattle.hfs_database.specs.Refusals.{FailsToPut, HasRefusedLast, IsNotRolledBack, IsUncommitted, IsUnput, IsUntaken, IsUnwritten, RefusesOne, RefusesRow}

-- a cause of the cause
untaken_by : {Why More : Type 0} (fault : TakerFault) → (Why → More) → IsUntaken Why fault → IsUntaken More fault
untaken_by taker.CannotWrite more why = more why
untaken_by taker.NoMemory more why = tt

pub untaken_as : {X Why More : Type 0} (r : Result X TakerFault) → (Why → More) → IfErr r (IsUntaken Why) → IfErr r (IsUntaken More)
untaken_as (Ok x) more why = tt
untaken_as (Err fault) more why = untaken_by fault more why

-- a fault that is handed on
pub untaken_of : {X Why More : Type 0} (r : Result X TakerFault) (fault : TakerFault) → IsErrAnd r (λ told. told ≡ fault) → (Why → More) → IsUntaken Why fault → IfErr r (IsUntaken More)
untaken_of (Ok x) fault is more why = tt
untaken_of (Err told) fault is more why = subst (IsUntaken _) (sym is) (untaken_by fault more why)

-- ---- a row that comes to a taker

took : {X : Type 0} {P : Type 0} (r : Result X TakerFault) → result_err r ≡ None → OnOk r P → P
took (Ok x) none p = p
took (Err fault) none p = absurd (let e : Some fault ≡ None = none in cc)

lost : {X : Type 0} {P : Type 0} (r : Result X TakerFault) → result_err r ≡ Some taker.CannotWrite → IfErr r (IsUntaken P) → P
lost (Ok x) some p = absurd (let e : None ≡ Some taker.CannotWrite = some in cc)
lost (Err taker.CannotWrite) some p = p
lost (Err taker.NoMemory) some p = absurd (let e : Some taker.NoMemory ≡ Some taker.CannotWrite = some in cc)

module _ {S : Type 0} (g : Ghosts S) (start before now : Held S) (put rows : List TakenRow) (row : TakenRow) (last after : LastRows) (is : rows ≡ put ++ row ∷ [])
    (r : Result (Unit {0}) TakerFault) (failed : Option TakerFault) (told : failed ≡ result_err r) where
  -- it was taken
  pub put_on : OnOk r (PutsRow g row.table (map sql_value row.values) before now last after) → HasPutSince g start put before last → failed ≡ None → HasPutSince g start rows now after
  put_on done puts none =
      subst (λ (all : List TakenRow). HasPutSince g start all now after) (sym is) (puts_one_more g put row start before now no_rows last after puts (took r (sym told ∙ none) done))

  -- it was refused
  pub refused_last : IfErr r (IsUntaken (RefusesRow g row.table row.values before now last)) → KeepsFile g start before → KeepsFile g before now → HasPutSince g start put before last
      → failed ≡ Some taker.CannotWrite → HasRefusedLast g start rows now
  refused_last why keeps kept puts some = record {
    put = put;
    row = row;
    rows_are = is;
    before = before;
    last = last;
    puts = puts;
    keeps = keeps;
    kept = kept;
    refuses = lost r (sym told ∙ some) why;
  }

-- what was refused is the last row that came of a source
pub refused_one : {S : Type 0} (g : Ghosts S) (Begins : List TakenRow → List TakenRow → Type 0) (start begun now : Held S) (before rows : List TakenRow) (failed : Option TakerFault)
    (fault : TakerFault) → before ≡ [] → begun ≡ start → Begins before rows → failed ≡ Some fault → ∥ (failed ≡ Some taker.CannotWrite → HasRefusedLast g begun rows now) ∥₁
    → IsUnwritten (RefusesOne g (Begins []) start now) (untaken_fault fault)
refused_one g Begins start begun now before rows failed taker.NoMemory none is begins some refused = tt
refused_one g Begins start begun now before rows failed taker.CannotWrite none is begins some refused =
    ∥∥₁_map refused (λ was. (rows, subst (λ (first : List TakenRow). Begins first rows) none begins, subst (λ (held : Held _). HasRefusedLast g held rows now) is (was some)))

-- ---- a transaction that fails

unwritten_by : {Why More : Type 0} (fault : DatabaseFault) → (Why → More) → IsUnwritten Why fault → IsUnwritten More fault
unwritten_by (CannotOpen obstacle) more why = elim why [ ]
unwritten_by CannotWrite more why = more why
unwritten_by NoMemory more why = tt

module _ {S : Type 0} (g : Ghosts S) (AreGiven AreRows : List TakenRow → Type 0) (start first given new : Held S) (begins : IsBegun g start first) (begun : KeepsFile g start first) where
  pub failed_commit : (fault : DatabaseFault) → PutsAll g AreRows first given → LeavesFile g first given → IsUnwritten (IsUncommitted g given new) fault
      → IsUnwritten (FailsToPut g AreGiven AreRows start new) fault
  failed_commit fault puts leaves fails = unwritten_by fault (λ why. ∣ inr (first, given, begins, begun, inr (inl (puts, leaves, why))) ∣₁) fails

  pub failed_undo : (fault : DatabaseFault) → LeavesFile g first given → KeepsFile g given new → IsUnwritten (IsNotRolledBack g given new) fault
      → IsUnwritten (FailsToPut g AreGiven AreRows start new) fault
  failed_undo fault leaves kept fails = unwritten_by fault (λ why. ∣ inr (first, given, begins, begun, inr (inr (leaves, why, kept))) ∣₁) fails

  pub refused_and_undone : {F : Type 0} (Fails : F → Type 0) (fault : PutFault F) → IsUndone g given new → KeepsFile g given new → new.in_transaction ≡ false → IsUnput Fails (RefusesOne g AreGiven first given) fault
      → IsUnput Fails (FailsToPut g AreGiven AreRows start new) fault
  refused_and_undone Fails (Source why) undone kept ended fails = fails
  refused_and_undone Fails (Database why) undone kept ended fails = unwritten_by why (λ refused. ∣ inr (first, given, begins, begun, inl (refused, undone, kept, ended)) ∣₁) fails
