-- What an accepted call that writes a fork has tested.
use Rattle.std.proofs.Common.{◌≡◌, ℕ, true, false, ltb, List, length, ap, subst, Option, Some, None, Ok}
use Rattle.std.specs.Option.{ok_or}
use Rattle.hfs_fields.specs.Names.{is_item_name}
use Rattle.hfs_model.specs.declared.codes.TheConstants.{NOT_FOUND}
use Rattle.hfs_model.specs.declared.call.Fork.{Fork}
use Rattle.hfs_model.specs.Volume.{Volume, Entry}
use Rattle.hfs_model.specs.Children.{entries_of, child_named, is_folder, is_folder_kind}
use Rattle.hfs_model.specs.Choices.{child_to_change, file_to_change, unless_locked_file, and_then, is_locked, lock_code}
use Rattle.hfs_model.proofs.Facts.{not_refused, not_not, either}
use Rattle.hfs_model.proofs.KeepsCalls.{same_entry, err_is_ok, chained, unlocked_is}
use Rattle.hfs_model.specs.ForkCalls.{to_set_eof, to_write_fork}

-- the item is the folder's one of that name
pub record IsNamed (v : Volume) (dir : ℕ) (name : List ℕ) (e : Entry) : Type 0 where
  pub named : is_item_name name ≡ true
  pub folder : is_folder (entries_of v) dir ≡ true
  pub child : child_named (entries_of v) dir name ≡ Some e

-- and a file
pub record IsFileNamed (v : Volume) (dir : ℕ) (name : List ℕ) (e : Entry) : Type 0 where
  pub item : IsNamed v dir name e
  pub file : is_folder_kind e.1.kind ≡ false

pub child_is : (v : Volume) (dir : ℕ) (name : List ℕ) (e : Entry) → child_to_change v dir name ≡ Ok e → IsNamed v dir name e
unfolding child_to_change
child_is v dir name e is =
    let a = not_refused (is_locked v) (lock_code v) _ e is in
    let b = not_refused _ _ _ e a.1 in
    let c = not_refused _ _ _ e b.1 in
    let here : child_named (entries_of v) dir name ≡ Some e = elim (child_named (entries_of v) dir name) as (λ (o : Option Entry). ok_or o NOT_FOUND ≡ Ok e → o ≡ Some e) [
      | None ↦ λ none. absurd (err_is_ok NOT_FOUND e none)
      | Some f ↦ λ same. ap (λ (x : Entry). Some x) (same_entry f e same)
    ] c.1 in
    record { named = not_not _ b.0; folder = not_not _ c.0; child = here }

file_is : (v : Volume) (dir : ℕ) (name : List ℕ) (e : Entry) → file_to_change v dir name ≡ Ok e → IsFileNamed v dir name e
unfolding file_to_change
file_is v dir name e is =
    let step = chained _ _ e is in
    let test = not_refused _ _ _ e step.2 in
    subst (λ (x : Entry). IsFileNamed v dir name x) (same_entry step.0 e test.1) (record { item = child_is v dir name step.0 step.1; file = test.0 })

open_is : (v : Volume) (dir : ℕ) (name : List ℕ) (e : Entry) → and_then (file_to_change v dir name) unless_locked_file ≡ Ok e → IsFileNamed v dir name e
open_is v dir name e is =
    let step = chained _ _ e is in
    subst (λ (x : Entry). IsFileNamed v dir name x) (unlocked_is e step.0 step.2) (file_is v dir name step.0 step.1)

pub set_eof_tested : (v : Volume) (dir : ℕ) (name : List ℕ) (length : ℕ) (e : Entry) → to_set_eof v dir name length ≡ Ok e → IsFileNamed v dir name e
unfolding to_set_eof
set_eof_tested v dir name length e is = open_is v dir name e (not_refused _ _ _ e is).1

-- of a file, and no more bytes than a read gives
pub record MayWrite (v : Volume) (dir : ℕ) (name bytes : List ℕ) (e : Entry) : Type 0 where
  pub file : IsFileNamed v dir name e
  pub few : ltb 65536 (length bytes) ≡ false

pub write_fork_tested : (v : Volume) (dir : ℕ) (name : List ℕ) (fork : Fork) (offset : ℕ) (bytes : List ℕ) (e : Entry) → to_write_fork v dir name fork offset bytes ≡ Ok e → MayWrite v dir name bytes e
unfolding to_write_fork
write_fork_tested v dir name fork offset bytes e is =
    let test = not_refused _ _ _ e is in
    let step = chained _ _ e test.1 in
    let within = not_refused _ _ _ e step.2 in
    record {
      file = subst (λ (x : Entry). IsFileNamed v dir name x) (same_entry step.0 e within.1) (open_is v dir name step.0 step.1);
      few = (either _ _ test.0).0;
    }
