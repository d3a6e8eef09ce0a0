-- Rows that are put one behind the other, in one transaction.
use Rattle.std.proofs.Common.{◌≡◌, ◌∙◌, Option, None, false, refl, sym, subst, List, [], ◌∷◌, ◌++◌, map, arith}
use Rattle.std.proofs.Math.Logic.{∥∥₁_map}
use Rattle.sqlite.specs.Held.{Held, state}
use Rattle.sqlite.specs.State.{HasCleanDisk, Survives}
use Rattle.sqlite.specs.Store.{Ghosts}
use Rattle.sqlite.proofs.StateLemmas.{survives_then, survives_weaker}
use Rattle.hfs_database.specs.Taken.{TakenRow}
use Rattle.hfs_database.specs.declared.fault.PutFault.{PutFault}
use Rattle.hfs_database.specs.declared.fault.PutFault.TheVariants.{Database, Source}
use Rattle.hfs_database.specs.declared.row_fault.TakerFault.{TakerFault}
use Rattle.hfs_database.specs.declared.statements.LastRows.{LastRows}
use Rattle.hfs_database.specs.Rows.{PutsRow}
use Rattle.hfs_database.specs.Transactions.{EndsAtSource, HasPutSince, HoldsAll, IsAsBefore, IsBegun, IsCommitted, IsSettled, IsUndone, KeepsAtSource, KeepsFile, LeavesAllOrNone, LeavesAsBefore, LeavesFile, PutsAll, PutsAllInOne, PutsRows, no_rows}
use Rattle.hfs_database.specs.Values.{sql_value}
use Rattle.hfs_database.proofs.Keeping.{keeps_then}

-- ---- row by row

-- a row more
pub puts_one_more : {S : Type 0} (g : Ghosts S) (rows : List TakenRow) (row : TakenRow) (old mid new : Held S) (first before after : LastRows)
    → PutsRows g rows old mid first before → PutsRow g row.table (map sql_value row.values) mid new before after → PutsRows g (rows ++ row ∷ []) old new first after
puts_one_more g [] row old mid new first before after puts one = (
  new,
  after,
  subst (λ (held : Held _). PutsRow g row.table (map sql_value row.values) held new first after) puts.0
      (subst (λ (last : LastRows). PutsRow g row.table (map sql_value row.values) mid new last after) puts.1 one),
  (refl, refl),
)
puts_one_more g (r ∷ rows) row old mid new first before after puts one =
    (puts.0, puts.1, puts.2, puts_one_more g rows row puts.0 mid new puts.1 before after puts.3 one)

-- before the first row
pub puts_none : {S : Type 0} (g : Ghosts S) (start : Held S) (rows : List TakenRow) → rows ≡ [] → HasPutSince g start rows start no_rows
puts_none g start rows none = subst (λ (rows : List TakenRow). HasPutSince g start rows start no_rows) (sym none) (refl, refl)

-- the taker was given all rows, and none before them
pub puts_all : {S : Type 0} (g : Ghosts S) (Gives : List TakenRow → List TakenRow → Type 0) (start begun now : Held S) (before rows : List TakenRow) (last : LastRows) (failed : Option TakerFault)
    → before ≡ [] → begun ≡ start → Gives before rows → failed ≡ None → ∥ (failed ≡ None → HasPutSince g begun rows now last) ∥₁ → PutsAll g (Gives []) start now
puts_all g Gives start begun now before rows last failed none is gives fine put =
    ∥∥₁_map put (λ was. (rows, subst (λ (first : List TakenRow). Gives first rows) none gives, last, subst (λ (held : Held _). HasPutSince g held rows now last) is (was fine)))

-- ---- in one transaction

module _ {S : Type 0} (g : Ghosts S) (AreRows : List TakenRow → Type 0) (start first given new : Held S) where
  -- it was committed
  pub put_in_one : IsBegun g start first → PutsAll g AreRows first given → IsCommitted g given new → PutsAllInOne g AreRows start new
  put_in_one begins puts committed =
      ∥∥₁_map puts (λ p. (p.0, p.1, record { first = first; given = given; last = p.2; begins = begins; put = p.3; committed = committed }))

  -- it was to be committed
  pub left_by_commit : IsBegun g start first → KeepsFile g start first → LeavesFile g first given → PutsAll g AreRows first given
      → Survives (state g given) (state g new) (λ db. db ≡ (state g given).now.trees) → LeavesAllOrNone g AreRows start new
  left_by_commit begins begun kept puts survives =
      ∥∥₁_map kept (λ keeps. survives_then (state g start) (state g given) (state g new) (λ _. ⊥) (λ db. db ≡ (state g given).now.trees) (HoldsAll g AreRows start)
      (λ clean db never. absurd never) (λ clean db is. ∥∥₁_map puts (λ p. (p.0, p.1, first, given, p.2, begins, p.3, is)))
      (keeps_then g start first given begun keeps).survives survives)

  -- it was undone
  pub left_by_undo : KeepsFile g start first → LeavesFile g first given → KeepsFile g given new → LeavesAllOrNone g AreRows start new
  left_by_undo begun kept undone =
      ∥∥₁_map kept (λ keeps. survives_weaker (state g start) (state g new) (λ _. ⊥) (HoldsAll g AreRows start) (λ clean db never. absurd never)
      (keeps_then g start given new (keeps_then g start first given begun keeps) undone).survives)

-- it was not begun
pub left_alone : {S : Type 0} (g : Ghosts S) (AreRows : List TakenRow → Type 0) (start new : Held S) → KeepsFile g start new → LeavesAllOrNone g AreRows start new
left_alone g AreRows start new keeps = ∣ survives_weaker (state g start) (state g new) (λ _. ⊥) (HoldsAll g AreRows start) (λ clean db never. absurd never) keeps.survives ∣₁

-- it was undone, since the source did not give all rows
pub kept_by_undo : {S F : Type 0} (g : Ghosts S) (start first given new : Held S) (fault : PutFault F) → KeepsFile g start first → LeavesFile g first given → KeepsFile g given new
    → KeepsAtSource g start new fault
kept_by_undo g start first given new (Source why) begun kept undone =
    ∥∥₁_map kept (λ keeps. keeps_then g start given new (keeps_then g start first given begun keeps) undone)
kept_by_undo g start first given new (Database why) begun kept undone = tt

pub ended_by_undo : {S F : Type 0} (new : Held S) (fault : PutFault F) → new.in_transaction ≡ false → EndsAtSource new fault
ended_by_undo new (Source why) ended = ended
ended_by_undo new (Database why) ended = tt

-- ---- what a fault leaves

module _ {S : Type 0} (g : Ghosts S) (start first given new : Held S) where
  as_before : IsSettled g start → KeepsFile g start given → IsUndone g given new → IsAsBefore g start new
  as_before settled keeps undone =
      let earlier : HasCleanDisk (state g new) → HasCleanDisk (state g given) = λ clean. omega (arith, undone.clean, clean) in
      record {
        mode = λ clean. undone.outside clean ∙ sym settled.outside;
        was_open = λ clean is_open. (keeps.committed (earlier clean)).was_open (undone.was_open clean is_open);
        shows = λ clean is_open.
            let mid = undone.was_open clean is_open in
            let kept = keeps.committed (earlier clean) in
            let same = kept.committed mid in
            ((undone.shows clean is_open).0 ∙ same ∙ sym (settled.shows (kept.was_open mid)), (undone.shows clean is_open).1 ∙ same);
      }

  -- it was undone
  pub back_by_undo : IsSettled g start → KeepsFile g start first → LeavesFile g first given → IsUndone g given new → LeavesAsBefore g start new
  back_by_undo settled begun kept undone = ∥∥₁_map kept (λ keeps. as_before settled (keeps_then g start first given begun keeps) undone)

-- it was not begun
pub back_at_once : {S : Type 0} (g : Ghosts S) (start new : Held S) → IsAsBefore g start new → LeavesAsBefore g start new
back_at_once g start new back = ∣ back ∣₁
