-- What calls leave, and the codes that they never answer.
use Rattle.std.proofs.Common.{◌≡◌, ℕ, ◌+◌, ◌<◌, ◌≤◌, Bool, true, false, cond, ◌&&◌, eqb, ltb, IsTrue, List, [], ◌∷◌, ◌++◌, drop, length, refl, ap, subst, arith, Option, Some, None, Result, Ok, Err, ℤ, pos, negsuc}
use Rattle.std.specs.Option.{option_map_or, ok_or, is_some}
use Rattle.std.specs.FinMap as map
use Rattle.std.proofs.lemmas.Bool.{ltb-true}
use Rattle.hfs_model.specs.declared.codes.TheConstants.{DISK_FULL}
use Rattle.hfs_model.specs.declared.item.Kind.{Kind}
use Rattle.hfs_model.specs.declared.item.Kind.TheVariants as kind
use Rattle.hfs_model.specs.declared.call.Call.{Call}
use Rattle.hfs_model.specs.declared.call.Call.TheVariants as call
use Rattle.hfs_model.specs.declared.call.Fork.{Fork}
use Rattle.hfs_model.specs.declared.reply.Reply.{Reply}
use Rattle.hfs_model.specs.declared.reply.Value.{Value}
use Rattle.hfs_model.specs.declared.journal.Entry.{Entry as JournalEntry}
use Rattle.hfs_model.specs.declared.journal.Want.{Want}
use Rattle.hfs_model.specs.Volume.{Volume, Items, Entry}
use Rattle.hfs_model.specs.Children.{is_folder_kind, child_named, entry_at, entries_of}
use Rattle.hfs_model.specs.Replies.{refusal, success, is_accepted, has_thread}
use Rattle.hfs_model.specs.Reading.{get_dir_info, get_cat_info, get_indexed, list, read_fork, fork_part, fork_of}
use Rattle.hfs_model.specs.Choices.{and_then, lock_code, is_locked, child_to_change, file_to_change, unless_locked_file, to_create, to_delete, to_rename, to_move, to_set_f_info, to_set_cat_info}
use Rattle.hfs_model.specs.Changes.{Outcome, touched, moved, with_lock, new_item, change, add, create, delete, rename, cat_move, set_f_info, set_cat_info, set_lock, new_file, new_folder}
use Rattle.hfs_model.specs.FileIds.{set_thread, unless_has_thread, if_has_thread, file_of_id, to_create_file_id, to_delete_file_id, change_to_id, create_file_id, delete_file_id, place_reply, resolve_file_id}
use Rattle.hfs_model.specs.Step.{step, is_reading}
use Rattle.hfs_model.specs.Forks.{resized, written}
use Rattle.hfs_model.specs.ForkCalls.{file_to_write, to_set_eof, to_write_fork, unless_past_end, set_eof, write_fork}
use Rattle.hfs_model.specs.Runs.{after, after_entry}
use Rattle.hfs_model.specs.Need.{need, meets_want_of_nodes, step_within, full, wanting, step_wanting}
use Rattle.hfs_model.proofs.Facts.{true_false}
use Rattle.hfs_model.proofs.KeepsForks.{edits}

-- ---- the changes of the items

abbrev makes : Kind → ℕ → List ℕ → ℕ → ℕ → Items → Items
makes kind dir name now id m = touched (map.insert m id (new_item kind dir name now)) dir now

abbrev deletes : ℕ → ℕ → Entry → Items → Items
deletes dir now e m = touched (map.remove m e.0) dir now

abbrev renames : List ℕ → Entry → Items → Items
renames new_name e m = map.insert m e.0 (record e.1 { name = new_name })

abbrev moves : ℕ → ℕ → ℕ → Entry → Items → Items
moves dir new_dir now e m = moved m e dir new_dir now

abbrev sets_finder : List ℕ → Entry → Items → Items
sets_finder info e m = map.insert m e.0 (record e.1 { finder = info ++ drop 16 e.1.finder })

abbrev sets_info : ℕ → ℕ → ℕ → List ℕ → Entry → Items → Items
sets_info created modified backup info e m = map.insert m e.0 (record e.1 { created = created; modified = modified; backup = backup; finder = info })

abbrev sets_lock : Bool → Entry → Items → Items
sets_lock locked e m = map.insert m e.0 (record e.1 { kind = with_lock locked e.1.kind })

-- ---- what a refused call leaves

abbrev Leaves : Volume → Outcome → Type 0
Leaves v o = (o.1.code ≡ pos 0 → ⊥) → o.0 ≡ v

change_leaves : (v : Volume) (chosen : Result Entry ℤ) (make : Entry → Items → Items) (now : ℕ) → Leaves v (change v chosen make now)
change_leaves v (Ok e) make now refused = absurd (refused refl)
change_leaves v (Err code) make now refused = refl

add_leaves : (v : Volume) (chosen : Result ℕ ℤ) (make : ℕ → Items → Items) (now : ℕ) → Leaves v (add v chosen make now)
add_leaves v (Ok id) make now refused = absurd (refused refl)
add_leaves v (Err code) make now refused = refl

change_to_id_leaves : (v : Volume) (chosen : Result Entry ℤ) (make : Entry → Items → Items) (now : ℕ) → Leaves v (change_to_id v chosen make now)
change_to_id_leaves v (Ok e) make now refused = absurd (refused refl)
change_to_id_leaves v (Err code) make now refused = refl

pub refusal_leaves : (v : Volume) (c : Call) → Leaves v (step v c)
unfolding create delete rename cat_move set_f_info set_cat_info set_lock create_file_id delete_file_id set_eof write_fork
refusal_leaves v (call.GetDirInfo dir) refused = refl
refusal_leaves v (call.GetCatInfo dir name) refused = refl
refusal_leaves v (call.GetIndexed dir index) refused = refl
refusal_leaves v (call.List dir) refused = refl
refusal_leaves v (call.ReadFork dir name fork offset count) refused = refl
refusal_leaves v (call.Create dir name now) refused = add_leaves v (to_create v dir name) (makes new_file dir name now) now refused
refusal_leaves v (call.DirCreate dir name now) refused = add_leaves v (to_create v dir name) (makes new_folder dir name now) now refused
refusal_leaves v (call.Delete dir name now) refused = change_leaves v (to_delete v dir name) (deletes dir now) now refused
refusal_leaves v (call.Rename dir name new_name now) refused = change_leaves v (to_rename v dir name new_name) (renames new_name) now refused
refusal_leaves v (call.CatMove dir name new_dir now) refused = change_leaves v (to_move v dir name new_dir) (moves dir new_dir now) now refused
refusal_leaves v (call.SetFInfo dir name info now) refused = change_leaves v (to_set_f_info v dir name) (sets_finder info) now refused
refusal_leaves v (call.SetCatInfo dir name created modified backup info now) refused = change_leaves v (to_set_cat_info v dir name) (sets_info created modified backup info) now refused
refusal_leaves v (call.SetFLock dir name now) refused = change_leaves v (file_to_change v dir name) (sets_lock true) now refused
refusal_leaves v (call.RstFLock dir name now) refused = change_leaves v (file_to_change v dir name) (sets_lock false) now refused
refusal_leaves v (call.CreateFileId dir name now) refused = change_to_id_leaves v (to_create_file_id v dir name) (set_thread true) now refused
refusal_leaves v (call.DeleteFileId id now) refused = change_leaves v (to_delete_file_id v id) (set_thread false) now refused
refusal_leaves v (call.ResolveFileId id) refused = refl
refusal_leaves v (call.SetEof dir name fork length now) refused = change_leaves v (to_set_eof v dir name length) (edits v.block_size fork (resized length) now) now refused
refusal_leaves v (call.WriteFork dir name fork offset bytes now) refused = change_leaves v (to_write_fork v dir name fork offset bytes) (edits v.block_size fork (written offset bytes) now) now refused

-- ---- what no call changes

abbrev SameSize : Volume → Outcome → Type 0
SameSize v o = o.0.block_size ≡ v.block_size

change_size : (v : Volume) (chosen : Result Entry ℤ) (make : Entry → Items → Items) (now : ℕ) → SameSize v (change v chosen make now)
change_size v (Ok e) make now = refl
change_size v (Err code) make now = refl

add_size : (v : Volume) (chosen : Result ℕ ℤ) (make : ℕ → Items → Items) (now : ℕ) → SameSize v (add v chosen make now)
add_size v (Ok id) make now = refl
add_size v (Err code) make now = refl

change_to_id_size : (v : Volume) (chosen : Result Entry ℤ) (make : Entry → Items → Items) (now : ℕ) → SameSize v (change_to_id v chosen make now)
change_to_id_size v (Ok e) make now = refl
change_to_id_size v (Err code) make now = refl

pub block_size_stays : (v : Volume) (c : Call) → SameSize v (step v c)
unfolding create delete rename cat_move set_f_info set_cat_info set_lock create_file_id delete_file_id set_eof write_fork
block_size_stays v (call.GetDirInfo dir) = refl
block_size_stays v (call.GetCatInfo dir name) = refl
block_size_stays v (call.GetIndexed dir index) = refl
block_size_stays v (call.List dir) = refl
block_size_stays v (call.ReadFork dir name fork offset count) = refl
block_size_stays v (call.Create dir name now) = add_size v (to_create v dir name) (makes new_file dir name now) now
block_size_stays v (call.DirCreate dir name now) = add_size v (to_create v dir name) (makes new_folder dir name now) now
block_size_stays v (call.Delete dir name now) = change_size v (to_delete v dir name) (deletes dir now) now
block_size_stays v (call.Rename dir name new_name now) = change_size v (to_rename v dir name new_name) (renames new_name) now
block_size_stays v (call.CatMove dir name new_dir now) = change_size v (to_move v dir name new_dir) (moves dir new_dir now) now
block_size_stays v (call.SetFInfo dir name info now) = change_size v (to_set_f_info v dir name) (sets_finder info) now
block_size_stays v (call.SetCatInfo dir name created modified backup info now) = change_size v (to_set_cat_info v dir name) (sets_info created modified backup info) now
block_size_stays v (call.SetFLock dir name now) = change_size v (file_to_change v dir name) (sets_lock true) now
block_size_stays v (call.RstFLock dir name now) = change_size v (file_to_change v dir name) (sets_lock false) now
block_size_stays v (call.CreateFileId dir name now) = change_to_id_size v (to_create_file_id v dir name) (set_thread true) now
block_size_stays v (call.DeleteFileId id now) = change_size v (to_delete_file_id v id) (set_thread false) now
block_size_stays v (call.ResolveFileId id) = refl
block_size_stays v (call.SetEof dir name fork length now) = change_size v (to_set_eof v dir name length) (edits v.block_size fork (resized length) now) now
block_size_stays v (call.WriteFork dir name fork offset bytes now) = change_size v (to_write_fork v dir name fork offset bytes) (edits v.block_size fork (written offset bytes) now) now

-- ---- what a reading call leaves

pub reading_leaves : (v : Volume) (c : Call) → IsTrue (is_reading c) → (step v c).0 ≡ v
reading_leaves v (call.GetDirInfo dir) h = refl
reading_leaves v (call.GetCatInfo dir name) h = refl
reading_leaves v (call.GetIndexed dir index) h = refl
reading_leaves v (call.List dir) h = refl
reading_leaves v (call.ReadFork dir name fork offset count) h = refl
reading_leaves v (call.Create dir name now) h = absurd (true_false false h refl)
reading_leaves v (call.DirCreate dir name now) h = absurd (true_false false h refl)
reading_leaves v (call.Delete dir name now) h = absurd (true_false false h refl)
reading_leaves v (call.Rename dir name new_name now) h = absurd (true_false false h refl)
reading_leaves v (call.CatMove dir name new_dir now) h = absurd (true_false false h refl)
reading_leaves v (call.SetFInfo dir name info now) h = absurd (true_false false h refl)
reading_leaves v (call.SetCatInfo dir name created modified backup info now) h = absurd (true_false false h refl)
reading_leaves v (call.SetFLock dir name now) h = absurd (true_false false h refl)
reading_leaves v (call.RstFLock dir name now) h = absurd (true_false false h refl)
reading_leaves v (call.CreateFileId dir name now) h = absurd (true_false false h refl)
reading_leaves v (call.DeleteFileId id now) h = absurd (true_false false h refl)
reading_leaves v (call.ResolveFileId id) h = refl
reading_leaves v (call.SetEof dir name fork length now) h = absurd (true_false false h refl)
reading_leaves v (call.WriteFork dir name fork offset bytes now) h = absurd (true_false false h refl)

pub reading_needs_none : (c : Call) (depth : ℕ) → IsTrue (is_reading c) → need c depth ≡ 0
reading_needs_none (call.GetDirInfo dir) depth h = refl
reading_needs_none (call.GetCatInfo dir name) depth h = refl
reading_needs_none (call.GetIndexed dir index) depth h = refl
reading_needs_none (call.List dir) depth h = refl
reading_needs_none (call.ReadFork dir name fork offset count) depth h = refl
reading_needs_none (call.Create dir name now) depth h = absurd (true_false false h refl)
reading_needs_none (call.DirCreate dir name now) depth h = absurd (true_false false h refl)
reading_needs_none (call.Delete dir name now) depth h = refl
reading_needs_none (call.Rename dir name new_name now) depth h = absurd (true_false false h refl)
reading_needs_none (call.CatMove dir name new_dir now) depth h = absurd (true_false false h refl)
reading_needs_none (call.SetFInfo dir name info now) depth h = refl
reading_needs_none (call.SetCatInfo dir name created modified backup info now) depth h = refl
reading_needs_none (call.SetFLock dir name now) depth h = refl
reading_needs_none (call.RstFLock dir name now) depth h = refl
reading_needs_none (call.CreateFileId dir name now) depth h = absurd (true_false false h refl)
reading_needs_none (call.DeleteFileId id now) depth h = refl
reading_needs_none (call.ResolveFileId id) depth h = refl
reading_needs_none (call.SetEof dir name fork length now) depth h = refl
reading_needs_none (call.WriteFork dir name fork offset bytes now) depth h = refl

-- ---- -34 is none of the codes of step

-- 0 or another negative code
steps_below : ℤ → ℕ
steps_below (pos n) = 0
steps_below (negsuc n) = n

abbrev Other : ℤ → Type 0
Other code = code ≡ DISK_FULL → ⊥

negative : (n : ℕ) → eqb n 33 ≡ false → Other (negsuc n)
unfolding steps_below
negative n other e = true_false (eqb n 33) (ap (λ (k : ℕ). eqb k 33) (ap steps_below e)) other

numbers : (a b : ℕ) → a ≡ 0 → b ≡ 33 → a ≡ b → ⊥
numbers a b e f g = omega arith

none : Other (pos 0)
unfolding steps_below
none e = numbers 0 33 refl refl (ap steps_below e)

-- a choice, or its code, which is another
record OtherCode {A : Type 0} (r : Result A ℤ) : Type 0 where
  other : (code : ℤ) → r ≡ Err code → Other code

pub code_is : {A : Type 0} (x y : ℤ) → ◌≡◌ {A = Result A ℤ} (Err x) (Err y) → x ≡ y
code_is x y e = cc

pub no_code : {A : Type 0} (x : A) (y : ℤ) → Ok x ≡ Err y → ⊥
no_code x y e = cc

fine : {A : Type 0} (x : A) → OtherCode {A = A} (Ok x)
fine x = record { other = λ code e. absurd (no_code x code e) }

other_err : {A : Type 0} (code : ℤ) → Other code → OtherCode {A = A} (Err code)
other_err code p = record { other = λ c e. subst Other (code_is code c e) p }

unless : {A : Type 0} (b : Bool) (code : ℤ) (r : Result A ℤ) → Other code → OtherCode r → OtherCode (cond b (Err code) r)
unless true code r p q = other_err code p
unless false code r p q = q

then : {A B : Type 0} (r : Result A ℤ) (next : A → Result B ℤ) → OtherCode r → ((x : A) → OtherCode (next x)) → OtherCode (and_then r next)
then (Ok x) next p q = q x
then (Err code) next p q = other_err code (p.other code refl)

some_or : {A : Type 0} (o : Option A) (code : ℤ) → Other code → OtherCode (ok_or o code)
some_or None code p = other_err code p
some_or (Some x) code p = fine x

lock_other : (v : Volume) → Other (lock_code v)
lock_other v = elim v.hardware_locked as (λ (b : Bool). Other (cond b (negsuc 43) (negsuc 45))) [ true ↦ negative 43 refl | false ↦ negative 45 refl ]

child_other : (v : Volume) (dir : ℕ) (name : List ℕ) → OtherCode (child_to_change v dir name)
unfolding child_to_change
child_other v dir name = unless (is_locked v) _ _ (lock_other v) (unless _ _ _ (negative 36 refl) (unless _ _ _ (negative 119 refl) (some_or (child_named (entries_of v) dir name) _ (negative 42 refl))))

file_other : (v : Volume) (dir : ℕ) (name : List ℕ) → OtherCode (file_to_change v dir name)
unfolding file_to_change
file_other v dir name = then (child_to_change v dir name) _ (child_other v dir name) (λ e. unless (is_folder_kind e.1.kind) _ _ (negative 42 refl) (fine _))

lock_file_other : (e : Entry) → OtherCode (unless_locked_file e)
lock_file_other e = unless _ _ _ (negative 44 refl) (fine _)

create_other : (v : Volume) (dir : ℕ) (name : List ℕ) → OtherCode (to_create v dir name)
unfolding to_create
create_other v dir name = unless (is_locked v) _ _ (lock_other v) (unless _ _ _ (negative 36 refl) (unless _ _ _ (negative 119 refl) (unless _ _ _ (negative 47 refl) (unless _ _ _ (negative 32 refl) (fine _)))))

delete_other : (v : Volume) (dir : ℕ) (name : List ℕ) → OtherCode (to_delete v dir name)
unfolding to_delete
delete_other v dir name = then (child_to_change v dir name) _ (child_other v dir name) (λ e. unless _ _ _ (negative 46 refl) (lock_file_other e))

rename_other : (v : Volume) (dir : ℕ) (name new_name : List ℕ) → OtherCode (to_rename v dir name new_name)
unfolding to_rename
rename_other v dir name new_name = unless (is_locked v) _ _ (lock_other v) (unless _ _ _ (negative 36 refl) (then (and_then (child_to_change v dir name) unless_locked_file) _ (then (child_to_change v dir name) unless_locked_file (child_other v dir name) lock_file_other) (λ e. unless _ _ _ (negative 47 refl) (fine _))))

move_other : (v : Volume) (dir : ℕ) (name : List ℕ) (new_dir : ℕ) → OtherCode (to_move v dir name new_dir)
unfolding to_move
move_other v dir name new_dir = then (child_to_change v dir name) _ (child_other v dir name) (λ e. unless _ _ _ (negative 119 refl) (unless _ _ _ (negative 121 refl) (unless _ _ _ (negative 47 refl) (unless _ _ _ (negative 32 refl) (fine _)))))

set_f_info_other : (v : Volume) (dir : ℕ) (name : List ℕ) → OtherCode (to_set_f_info v dir name)
unfolding to_set_f_info
set_f_info_other v dir name = then (file_to_change v dir name) unless_locked_file (file_other v dir name) lock_file_other

set_cat_info_other : (v : Volume) (dir : ℕ) (name : List ℕ) → OtherCode (to_set_cat_info v dir name)
unfolding to_set_cat_info
set_cat_info_other v dir name = then (child_to_change v dir name) unless_locked_file (child_other v dir name) lock_file_other

without_other : (e : Entry) → OtherCode (unless_has_thread e)
without_other e = unless _ _ _ (negative 1301 refl) (unless _ _ _ (negative 1300 refl) (fine _))

with_other : (e : Entry) → OtherCode (if_has_thread e)
with_other e = unless _ _ _ (negative 1301 refl) (elim (has_thread e.1.kind) as (λ (b : Bool). OtherCode (cond b (Ok e) (Err (negsuc 1299)))) [ true ↦ fine e | false ↦ other_err _ (negative 1299 refl) ])

file_of_id_other : (es : List Entry) (id : ℕ) → OtherCode (file_of_id es id)
unfolding file_of_id
file_of_id_other es id = then (ok_or (entry_at es id) _) if_has_thread (some_or (entry_at es id) _ (negative 1299 refl)) with_other

create_file_id_other : (v : Volume) (dir : ℕ) (name : List ℕ) → OtherCode (to_create_file_id v dir name)
unfolding to_create_file_id
create_file_id_other v dir name = then (child_to_change v dir name) unless_has_thread (child_other v dir name) without_other

delete_file_id_other : (v : Volume) (id : ℕ) → OtherCode (to_delete_file_id v id)
unfolding to_delete_file_id
delete_file_id_other v id = unless (is_locked v) _ _ (lock_other v) (file_of_id_other (entries_of v) id)

to_write_other : (v : Volume) (dir : ℕ) (name : List ℕ) → OtherCode (file_to_write v dir name)
to_write_other v dir name = then (file_to_change v dir name) unless_locked_file (file_other v dir name) lock_file_other

set_eof_other : (v : Volume) (dir : ℕ) (name : List ℕ) (length : ℕ) → OtherCode (to_set_eof v dir name length)
unfolding to_set_eof
set_eof_other v dir name length = unless _ _ _ (negative 49 refl) (to_write_other v dir name)

write_fork_other : (v : Volume) (dir : ℕ) (name : List ℕ) (fork : Fork) (offset : ℕ) (bytes : List ℕ) → OtherCode (to_write_fork v dir name fork offset bytes)
unfolding to_write_fork
write_fork_other v dir name fork offset bytes = unless _ _ _ (negative 49 refl) (then (file_to_write v dir name) (unless_past_end fork offset) (to_write_other v dir name) (λ e. unless _ _ _ (negative 38 refl) (fine _)))

change_other : (v : Volume) (chosen : Result Entry ℤ) (make : Entry → Items → Items) (now : ℕ) → OtherCode chosen → Other (change v chosen make now).1.code
change_other v (Ok e) make now p = none
change_other v (Err code) make now p = p.other code refl

add_other : (v : Volume) (chosen : Result ℕ ℤ) (make : ℕ → Items → Items) (now : ℕ) → OtherCode chosen → Other (add v chosen make now).1.code
add_other v (Ok id) make now p = none
add_other v (Err code) make now p = p.other code refl

change_to_id_other : (v : Volume) (chosen : Result Entry ℤ) (make : Entry → Items → Items) (now : ℕ) → OtherCode chosen → Other (change_to_id v chosen make now).1.code
change_to_id_other v (Ok e) make now p = none
change_to_id_other v (Err code) make now p = p.other code refl

place_other : (chosen : Result Entry ℤ) → OtherCode chosen → Other (place_reply chosen).code
place_other (Ok e) p = none
place_other (Err code) p = p.other code refl

resolve_other : (es : List Entry) (id : ℕ) → Other (resolve_file_id es id).code
unfolding resolve_file_id
resolve_other es id = place_other (file_of_id es id) (file_of_id_other es id)

-- ---- the same of replies

record OtherReply (r : Reply) : Type 0 where
  other : Other r.code

either : (b : Bool) (r s : Reply) → OtherReply r → OtherReply s → OtherReply (cond b r s)
either true r s p q = p
either false r s p q = q

or_else : {A : Type 0} (f : A → Reply) (o : Option A) (r : Reply) → ((x : A) → OtherReply (f x)) → OtherReply r → OtherReply (option_map_or f o r)
or_else f None r p q = q
or_else f (Some x) r p q = p x

refuses : (n : ℕ) → eqb n 33 ≡ false → OtherReply (refusal (negsuc n))
refuses n e = record { other = negative n e }

succeeds : (value : Value) → OtherReply (success value)
succeeds value = record { other = none }

dir_info_other : (es : List Entry) (dir : ℕ) → OtherReply (get_dir_info es dir)
unfolding get_dir_info
dir_info_other es dir = or_else _ (entry_at es dir) _ (λ e. either (is_folder_kind e.1.kind) _ _ (succeeds _) (refuses 119 refl)) (refuses 119 refl)

cat_info_other : (es : List Entry) (dir : ℕ) (name : List ℕ) → OtherReply (get_cat_info es dir name)
unfolding get_cat_info
cat_info_other es dir name = either _ _ _ (refuses 36 refl) (either _ _ _ (refuses 119 refl) (or_else _ (child_named es dir name) _ (λ e. succeeds _) (refuses 42 refl)))

indexed_other : (es : List Entry) (dir index : ℕ) → OtherReply (get_indexed es dir index)
unfolding get_indexed
indexed_other es dir index = either _ _ _ (refuses 49 refl) (either _ _ _ (refuses 119 refl) (or_else _ _ _ (λ i. succeeds _) (refuses 42 refl)))

list_other : (es : List Entry) (dir : ℕ) → OtherReply (list es dir)
unfolding list
list_other es dir = either _ _ _ (refuses 119 refl) (succeeds _)

end_or_none : (b : Bool) → Other (cond b (negsuc 38) (pos 0))
end_or_none true = negative 38 refl
end_or_none false = none

part_other : (fork : Fork) (offset count : ℕ) (k : Kind) → OtherReply (fork_part fork offset count k)
part_other fork offset count (kind.Folder kept) = refuses 42 refl
part_other fork offset count (kind.File file) = record { other = end_or_none (ltb (length (fork_of fork file)) (offset + count)) }

read_fork_other : (es : List Entry) (dir : ℕ) (name : List ℕ) (fork : Fork) (offset count : ℕ) → OtherReply (read_fork es dir name fork offset count)
unfolding read_fork
read_fork_other es dir name fork offset count = either _ _ _ (refuses 49 refl) (either _ _ _ (refuses 36 refl) (either _ _ _ (refuses 119 refl) (or_else _ (child_named es dir name) _ (λ e. part_other fork offset count e.1.kind) (refuses 42 refl))))

pub step_is_never_full : (v : Volume) (c : Call) → Other (step v c).1.code
unfolding create delete rename cat_move set_f_info set_cat_info set_lock create_file_id delete_file_id set_eof write_fork
step_is_never_full v (call.GetDirInfo dir) = (dir_info_other (entries_of v) dir).other
step_is_never_full v (call.GetCatInfo dir name) = (cat_info_other (entries_of v) dir name).other
step_is_never_full v (call.GetIndexed dir index) = (indexed_other (entries_of v) dir index).other
step_is_never_full v (call.List dir) = (list_other (entries_of v) dir).other
step_is_never_full v (call.ReadFork dir name fork offset count) = (read_fork_other (entries_of v) dir name fork offset count).other
step_is_never_full v (call.Create dir name now) = add_other v (to_create v dir name) (makes new_file dir name now) now (create_other v dir name)
step_is_never_full v (call.DirCreate dir name now) = add_other v (to_create v dir name) (makes new_folder dir name now) now (create_other v dir name)
step_is_never_full v (call.Delete dir name now) = change_other v (to_delete v dir name) (deletes dir now) now (delete_other v dir name)
step_is_never_full v (call.Rename dir name new_name now) = change_other v (to_rename v dir name new_name) (renames new_name) now (rename_other v dir name new_name)
step_is_never_full v (call.CatMove dir name new_dir now) = change_other v (to_move v dir name new_dir) (moves dir new_dir now) now (move_other v dir name new_dir)
step_is_never_full v (call.SetFInfo dir name info now) = change_other v (to_set_f_info v dir name) (sets_finder info) now (set_f_info_other v dir name)
step_is_never_full v (call.SetCatInfo dir name created modified backup info now) = change_other v (to_set_cat_info v dir name) (sets_info created modified backup info) now (set_cat_info_other v dir name)
step_is_never_full v (call.SetFLock dir name now) = change_other v (file_to_change v dir name) (sets_lock true) now (file_other v dir name)
step_is_never_full v (call.RstFLock dir name now) = change_other v (file_to_change v dir name) (sets_lock false) now (file_other v dir name)
step_is_never_full v (call.CreateFileId dir name now) = change_to_id_other v (to_create_file_id v dir name) (set_thread true) now (create_file_id_other v dir name)
step_is_never_full v (call.DeleteFileId id now) = change_other v (to_delete_file_id v id) (set_thread false) now (delete_file_id_other v id)
step_is_never_full v (call.ResolveFileId id) = resolve_other (entries_of v) id
step_is_never_full v (call.SetEof dir name fork length now) = change_other v (to_set_eof v dir name length) (edits v.block_size fork (resized length) now) now (set_eof_other v dir name length)
step_is_never_full v (call.WriteFork dir name fork offset bytes now) = change_other v (to_write_fork v dir name fork offset bytes) (edits v.block_size fork (written offset bytes) now) now (write_fork_other v dir name fork offset bytes)

-- ---- want of nodes and blocks

pub full_where_wanting : (free depth : ℕ) (v : Volume) (c : Call) → ((step_within free depth v c).1.code ≡ DISK_FULL → IsTrue (meets_want_of_nodes free depth v c)) × (IsTrue (meets_want_of_nodes free depth v c) → (step_within free depth v c).1.code ≡ DISK_FULL)
full_where_wanting free depth v c = elim (meets_want_of_nodes free depth v c) as (λ (b : Bool). ((cond b (v, full free depth) (step v c)).1.code ≡ DISK_FULL → b ≡ true) × (b ≡ true → (cond b (v, full free depth) (step v c)).1.code ≡ DISK_FULL)) [
  | true ↦ (λ _. refl, λ _. refl)
  | false ↦ (λ e. absurd (step_is_never_full v c e), λ e. absurd (true_false false e refl))
]

pub enough_is_step : (free depth : ℕ) (v : Volume) (c : Call) → need c depth ≤ free → step_within free depth v c ≡ step v c
enough_is_step free depth v c le = ap (λ (b : Bool). cond b (v, full free depth) (step v c)) (never (is_accepted (step v c).1) (ltb free (need c depth)) (enough _ _ le))
  where
    never : (a b : Bool) → b ≡ false → (a && b) ≡ false
    never true b e = e
    never false b e = refl

    enough : (n m : ℕ) → n ≤ m → ltb m n ≡ false
    enough n m h = elim (ltb m n) as (λ (b : Bool). ltb m n ≡ b → b ≡ false) [ true ↦ λ e. let less : m < n = ltb-true m n e in absurd (omega arith) | false ↦ λ e. refl ] refl

pub full_where_wanted : (o : Option Want) (v : Volume) (c : Call) →
    ((step_wanting o v c).1.code ≡ DISK_FULL → IsTrue (is_some o) × IsTrue (is_accepted (step v c).1)) × (IsTrue (is_some o) × IsTrue (is_accepted (step v c).1) → (step_wanting o v c).1.code ≡ DISK_FULL)
full_where_wanted None v c = (λ e. absurd (step_is_never_full v c e), λ both. absurd (true_false false both.0 refl))
full_where_wanted (Some want) v c = elim (is_accepted (step v c).1) as (λ (b : Bool). ((cond b (v, wanting want) (step v c)).1.code ≡ DISK_FULL → IsTrue true × (b ≡ true)) × (IsTrue true × (b ≡ true) → (cond b (v, wanting want) (step v c)).1.code ≡ DISK_FULL)) [
  | true ↦ (λ _. (refl, refl), λ _. refl)
  | false ↦ (λ e. absurd (step_is_never_full v c e), λ both. absurd (true_false false both.1 refl))
]

-- ---- runs

pub after_both : (v : Volume) (es fs : List JournalEntry) → after v (es ++ fs) ≡ after (after v es) fs
after_both v [] fs = refl
after_both v (e ∷ es) fs = after_both (after_entry v e) es fs
