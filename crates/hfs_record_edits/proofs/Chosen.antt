-- What the calls that remove and move an item have tested of the one that they choose.
use Rattle.std.proofs.Common.{◌≡◌, ℕ, true, false, not, ◌||◌, eqb, List, ◌∙◌, ap, subst, Option, Some, None}
use Rattle.std.specs.Prelude.{Result, Ok, ℤ}
use Rattle.std.specs.Option.{ok_or}
use Rattle.std.proofs.lemmas.Bool.{eqb-true, and_parts}
use Rattle.hfs_fields.specs.Names.{is_item_name}
use Rattle.hfs_fields.specs.Order.{same_name}
use Rattle.hfs_fields.proofs.MemberLemmas.{found_in}
use Rattle.hfs_model.specs.declared.codes.TheConstants.{FOLDER_FULL, BAD_NAME, NOT_FOUND, FILE_LOCKED, BUSY, DUPLICATE, NOT_A_FOLDER, BAD_MOVE}
use Rattle.hfs_model.specs.Volume.{Volume, Entry}
use Rattle.hfs_model.specs.Children.{is_folder, is_child_named, child_named, entries_of}
use Rattle.hfs_model.specs.Replies.{is_locked_file}
use Rattle.hfs_model.specs.Choices.{and_then, is_locked, lock_code, unless_locked_file, is_busy, is_held, is_taken, is_full, is_bad_move, child_to_change, to_create, to_delete, to_rename, to_move}
use Rattle.hfs_model.proofs.KeepsCalls.{err_is_ok, chained}
use Rattle.hfs_model.proofs.Facts.{not_not, not_refused, either}

pub same_ok : {A : Type 0} (x y : A) → ◌≡◌ {A = Result A ℤ} (Ok x) (Ok y) → x ≡ y
same_ok x y e = cc

there : (o : Option Entry) (code : ℤ) (e : Entry) → ok_or o code ≡ Ok e → o ≡ Some e
there None code e is = absurd (err_is_ok code e is)
there (Some f) code e is = ap Some (same_ok f e is)

-- the item is the folder's one of that name
pub record IsNamed (v : Volume) (dir : ℕ) (name : List ℕ) (e : Entry) : Type 0 where
  pub found : child_named (entries_of v) dir name ≡ Some e
  pub under : e.1.parent ≡ dir

child_chosen : (v : Volume) (dir : ℕ) (name : List ℕ) (e : Entry) → child_to_change v dir name ≡ Ok e → IsNamed v dir name e
unfolding child_to_change
child_chosen v dir name e is =
    let a = not_refused (is_locked v) (lock_code v) _ e is in
    let b = not_refused (not (is_item_name name)) BAD_NAME _ e a.1 in
    let c = not_refused (not (is_folder (entries_of v) dir)) NOT_A_FOLDER _ e b.1 in
    let found = there (child_named (entries_of v) dir name) NOT_FOUND e c.1 in
    record { found = found; under = eqb-true e.1.parent dir (and_parts (eqb e.1.parent dir) (same_name e.1.name name) (found_in (is_child_named dir name) (entries_of v) e found).1).0 }

pub delete_chosen : (v : Volume) (dir : ℕ) (name : List ℕ) (e : Entry) → to_delete v dir name ≡ Ok e → IsNamed v dir name e
unfolding to_delete
delete_chosen v dir name e is =
    let step = chained _ _ e is in
    let idle = not_refused (is_busy (entries_of v) step.0) BUSY _ e step.2 in
    let same = same_ok step.0 e (not_refused (is_locked_file step.0.1.kind) FILE_LOCKED _ e idle.1).1 in
    subst (λ (x : Entry). IsNamed v dir name x) same (child_chosen v dir name step.0 step.1)

-- what an accepted creation has tested
pub record MayCreate (v : Volume) (dir : ℕ) (name : List ℕ) (id : ℕ) : Type 0 where
  pub named : is_item_name name ≡ true
  pub free : is_held (entries_of v) dir name ≡ false
  pub room : is_full (entries_of v) dir ≡ false
  pub not_last : eqb v.next_id 4294967295 ≡ false
  pub id_is : v.next_id ≡ id

pub may_create : (v : Volume) (dir : ℕ) (name : List ℕ) (id : ℕ) → to_create v dir name ≡ Ok id → MayCreate v dir name id
unfolding to_create
may_create v dir name id is =
    let a = not_refused (is_locked v) (lock_code v) _ id is in
    let b = not_refused (not (is_item_name name)) BAD_NAME _ id a.1 in
    let c = not_refused (not (is_folder (entries_of v) dir)) NOT_A_FOLDER _ id b.1 in
    let d = not_refused (is_held (entries_of v) dir name) DUPLICATE _ id c.1 in
    let f = not_refused (is_full (entries_of v) dir || eqb v.next_id 4294967295) FOLDER_FULL _ id d.1 in
    let both = either (is_full (entries_of v) dir) (eqb v.next_id 4294967295) f.0 in
    record { named = not_not (is_item_name name) b.0; free = d.0; room = both.0; not_last = both.1; id_is = same_ok v.next_id id f.1 }

-- what an accepted renaming has tested
pub record MayRename (v : Volume) (dir : ℕ) (name new_name : List ℕ) (e : Entry) : Type 0 where
  pub named : is_item_name new_name ≡ true
  pub child : IsNamed v dir name e
  pub free : is_taken (entries_of v) dir new_name e.0 ≡ false

pub may_rename : (v : Volume) (dir : ℕ) (name new_name : List ℕ) (e : Entry) → to_rename v dir name new_name ≡ Ok e → MayRename v dir name new_name e
unfolding to_rename
may_rename v dir name new_name e is =
    let a = not_refused (is_locked v) (lock_code v) _ e is in
    let b = not_refused (not (is_item_name new_name)) BAD_NAME _ e a.1 in
    let c = chained (and_then (child_to_change v dir name) unless_locked_file) _ e b.1 in
    let d = chained (child_to_change v dir name) unless_locked_file c.0 c.1 in
    let f = not_refused (is_taken (entries_of v) dir new_name c.0.0) DUPLICATE _ e c.2 in
    let same = same_ok d.0 c.0 (not_refused (is_locked_file d.0.1.kind) FILE_LOCKED _ c.0 d.2).1 ∙ same_ok c.0 e f.1 in
    record {
      named = not_not (is_item_name new_name) b.0;
      child = subst (λ (x : Entry). IsNamed v dir name x) same (child_chosen v dir name d.0 d.1);
      free = subst (λ (x : Entry). is_taken (entries_of v) dir new_name x.0 ≡ false) (same_ok c.0 e f.1) f.0;
    }

-- what an accepted move has tested
pub record MayMove (v : Volume) (dir : ℕ) (name : List ℕ) (new_dir : ℕ) (e : Entry) : Type 0 where
  pub child : IsNamed v dir name e
  pub fine : is_bad_move (entries_of v) e new_dir ≡ false
  pub free : is_held (entries_of v) new_dir name ≡ false
  pub room : is_full (entries_of v) new_dir ≡ false

pub may_move : (v : Volume) (dir : ℕ) (name : List ℕ) (new_dir : ℕ) (e : Entry) → to_move v dir name new_dir ≡ Ok e → MayMove v dir name new_dir e
unfolding to_move
may_move v dir name new_dir e is =
    let a = chained _ _ e is in
    let b = not_refused (not (is_folder (entries_of v) new_dir)) NOT_A_FOLDER _ e a.2 in
    let c = not_refused (is_bad_move (entries_of v) a.0 new_dir) BAD_MOVE _ e b.1 in
    let f = not_refused (is_held (entries_of v) new_dir name) DUPLICATE _ e c.1 in
    let g = not_refused (is_full (entries_of v) new_dir) FOLDER_FULL _ e f.1 in
    let same = same_ok a.0 e g.1 in
    record {
      child = subst (λ (x : Entry). IsNamed v dir name x) same (child_chosen v dir name a.0 a.1);
      fine = subst (λ (x : Entry). is_bad_move (entries_of v) x new_dir ≡ false) same c.0;
      free = f.0;
      room = g.0;
    }
