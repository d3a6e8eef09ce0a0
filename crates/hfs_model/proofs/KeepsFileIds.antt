-- The calls on file IDs keep a volume lawful.
use Rattle.std.proofs.Common.{◌≡◌, ℕ, Bool, true, false, cond, List, refl, subst, Option, Some, None, Result, Ok, Err, ℤ}
use Rattle.std.specs.Option.{ok_or}
use Rattle.hfs_model.specs.declared.codes.TheConstants.{FILE_ID_NOT_FOUND, FILE_ID_EXISTS, NOT_A_FILE}
use Rattle.hfs_model.specs.declared.item.Kind.{Kind}
use Rattle.hfs_model.specs.declared.item.Kind.TheVariants as kind
use Rattle.hfs_model.specs.Volume.{Volume, Items, Entry}
use Rattle.hfs_model.specs.Children.{is_folder_kind, entries_of, entry_at}
use Rattle.hfs_model.specs.Replies.{has_thread}
use Rattle.hfs_model.specs.Lawful.{Has, IsLawful}
use Rattle.hfs_model.specs.Choices.{is_locked, lock_code}
use Rattle.hfs_model.specs.Changes.{change}
use Rattle.hfs_model.specs.FileIds.{with_thread, set_thread, unless_has_thread, if_has_thread, file_of_id, to_create_file_id, to_delete_file_id, change_to_id, create_file_id, delete_file_id}
use Rattle.hfs_model.proofs.Facts.{not_refused, has_entry}
use Rattle.hfs_model.proofs.KeepsCalls.{Edits, edit_keeps, chained, child_chosen, same_entry, err_is_ok}

same_sort : (there : Bool) (k : Kind) → is_folder_kind (with_thread there k) ≡ is_folder_kind k
same_sort there (kind.Folder kept) = refl
same_sort there (kind.File file) = refl

thread_edits : (there : Bool) → Edits (λ i. record i { kind = with_thread there i.kind })
thread_edits there = (λ i. refl, λ i. refl, λ i. same_sort there i.kind)

-- what is answered is another matter
pub same_change : (v : Volume) (chosen : Result Entry ℤ) (make : Entry → Items → Items) (now : ℕ) → (change v chosen make now).0 ≡ (change_to_id v chosen make now).0
same_change v (Ok e) make now = refl
same_change v (Err code) make now = refl

-- ---- the chosen file stands in the map

without_is : (e f : Entry) → unless_has_thread f ≡ Ok e → f ≡ e
without_is e f is = same_entry f e (not_refused _ FILE_ID_EXISTS (Ok f) e (not_refused (is_folder_kind f.1.kind) NOT_A_FILE _ e is).1).1

with_is : (e f : Entry) → if_has_thread f ≡ Ok e → f ≡ e
with_is e f is = chosen (has_thread f.1.kind) (not_refused (is_folder_kind f.1.kind) NOT_A_FILE _ e is).1
  where
    chosen : (b : Bool) → ◌≡◌ {A = Result Entry ℤ} (cond b (Ok f) (Err FILE_ID_NOT_FOUND)) (Ok e) → f ≡ e
    chosen true is = same_entry f e is
    chosen false is = absurd (err_is_ok FILE_ID_NOT_FOUND e is)

create_chosen : (v : Volume) (dir : ℕ) (name : List ℕ) (e : Entry) → to_create_file_id v dir name ≡ Ok e → Has v.items e.0 e.1
unfolding to_create_file_id
create_chosen v dir name e is =
    let step = chained _ _ e is in
    subst (λ (x : Entry). Has v.items x.0 x.1) (without_is e step.0 step.2) (child_chosen v dir name step.0 step.1).has

entry_chosen : (v : Volume) (id : ℕ) (e : Entry) → ok_or (entry_at (entries_of v) id) FILE_ID_NOT_FOUND ≡ Ok e → Has v.items e.0 e.1
entry_chosen v id e = elim (entry_at (entries_of v) id) as (λ (o : Option Entry). entry_at (entries_of v) id ≡ o → ok_or o FILE_ID_NOT_FOUND ≡ Ok e → Has v.items e.0 e.1) [
  | None ↦ λ found none. absurd (err_is_ok FILE_ID_NOT_FOUND e none)
  | Some f ↦ λ found same. subst (λ (x : Entry). Has v.items x.0 x.1) (same_entry f e same) (has_entry v.items id f found).1
] refl

delete_chosen : (v : Volume) (id : ℕ) (e : Entry) → to_delete_file_id v id ≡ Ok e → Has v.items e.0 e.1
unfolding to_delete_file_id file_of_id
delete_chosen v id e is =
    let step = chained _ _ e (not_refused (is_locked v) (lock_code v) _ e is).1 in
    subst (λ (x : Entry). Has v.items x.0 x.1) (with_is e step.0 step.2) (entry_chosen v id step.0 step.1)

-- ---- the calls

pub create_file_id_keeps : (v : Volume) (dir : ℕ) (name : List ℕ) (now : ℕ) → IsLawful v → IsLawful (create_file_id v dir name now).0
unfolding create_file_id
create_file_id_keeps v dir name now h =
    subst IsLawful (same_change v (to_create_file_id v dir name) (set_thread true) now)
    (edit_keeps v (to_create_file_id v dir name) (λ i. record i { kind = with_thread true i.kind }) now (thread_edits true) (create_chosen v dir name) h)

pub delete_file_id_keeps : (v : Volume) (id now : ℕ) → IsLawful v → IsLawful (delete_file_id v id now).0
unfolding delete_file_id
delete_file_id_keeps v id now h =
    edit_keeps v (to_delete_file_id v id) (λ i. record i { kind = with_thread false i.kind }) now (thread_edits false) (delete_chosen v id) h
