-- File IDs. A file has one, its own ID, where the catalog has a thread record of it: has_thread. Bit 1 of the flags of its
-- record is a kept bit that is to say the same: CreateFileId sets it and DeleteFileId clears it, and no call reads it. So in a
-- volume that another program wrote the two may be at odds, until one of these calls is accepted of the file.
use Rattle.std.specs.Prelude.{ℕ, ℤ, Bool, true, false, if◌then◌else◌, List, slice_set, slice_index_or, Result, Ok, Err}
use Rattle.std.specs.Option.{ok_or}
use Rattle.std.specs.FinMap as map
use Rattle.hfs_fields.specs.Records.{with_bit}
use Rattle.hfs_model.specs.declared.codes.TheConstants.{FILE_ID_NOT_FOUND, FILE_ID_EXISTS, NOT_A_FILE}
use Rattle.hfs_model.specs.declared.item.Kind.{Kind}
use Rattle.hfs_model.specs.declared.item.Kind.TheVariants as kind
use Rattle.hfs_model.specs.declared.reply.Reply.{Reply}
use Rattle.hfs_model.specs.declared.reply.Value.TheVariants as value
use Rattle.hfs_model.specs.Volume.{Volume, Items, Entry}
use Rattle.hfs_model.specs.Children.{is_folder_kind, entries_of, entry_at}
use Rattle.hfs_model.specs.Replies.{refusal, success, has_thread}
use Rattle.hfs_model.specs.Choices.{and_then, is_locked, lock_code, child_to_change}
use Rattle.hfs_model.specs.Changes.{Outcome, refused, changed_to, change}

-- ---- the file that is changed

-- kept bytes of a file, with bit 1 of its flags, at offset 2, as said
unfoldable pub with_thread_bit : Bool → List ℕ → List ℕ
with_thread_bit set kept = slice_set kept 2 (with_bit 1 set (slice_index_or kept 2 0))

-- a file with a thread or without one, as said
abbrev pub with_thread : Bool → Kind → Kind
with_thread there (kind.Folder kept) = kind.Folder kept
with_thread there (kind.File file) = kind.File (record file { kept = with_thread_bit there file.kept; has_thread = there })

abbrev pub set_thread : Bool → Entry → Items → Items
set_thread there e items = map.insert items e.0 (record e.1 { kind = with_thread there e.1.kind })

-- ---- the choices

-- -1302 of a folder, -1301 of a file with a thread
abbrev pub unless_has_thread : Entry → Result Entry ℤ
unless_has_thread e = if is_folder_kind e.1.kind then Err NOT_A_FILE else if has_thread e.1.kind then Err FILE_ID_EXISTS else Ok e

-- -1302 of a folder, -1300 of a file without a thread
abbrev pub if_has_thread : Entry → Result Entry ℤ
if_has_thread e = if is_folder_kind e.1.kind then Err NOT_A_FILE else if has_thread e.1.kind then Ok e else Err FILE_ID_NOT_FOUND

-- the file with a thread that has this ID: -1302 where it is a folder's, -1300 where there is none
unfoldable pub file_of_id : List Entry → ℕ → Result Entry ℤ
file_of_id es id = and_then (ok_or (entry_at es id) FILE_ID_NOT_FOUND) if_has_thread

-- the folder's file of that name, which has no thread: -44 or -46, -37, -120, -43, -1302, -1301
unfoldable pub to_create_file_id : Volume → ℕ → List ℕ → Result Entry ℤ
to_create_file_id v dir name = and_then (child_to_change v dir name) unless_has_thread

-- -44 or -46, -1302, -1300
unfoldable pub to_delete_file_id : Volume → ℕ → Result Entry ℤ
to_delete_file_id v id = if is_locked v then Err (lock_code v) else file_of_id (entries_of v) id

-- ---- the calls

-- a change of the chosen item, which answers its ID
abbrev pub change_to_id : Volume → Result Entry ℤ → (Entry → Items → Items) → ℕ → Outcome
change_to_id v (Ok e) make now = (changed_to v (make e v.items) now, success (value.Id e.0))
change_to_id v (Err code) make now = refused v code

-- the file gets a thread, and is answered by its ID
unfoldable pub create_file_id : Volume → ℕ → List ℕ → ℕ → Outcome
create_file_id v dir name now = change_to_id v (to_create_file_id v dir name) (set_thread true) now

-- the file loses its thread
unfoldable pub delete_file_id : Volume → ℕ → ℕ → Outcome
delete_file_id v id now = change v (to_delete_file_id v id) (set_thread false) now

-- where the chosen item is, or the code that refused it
abbrev pub place_reply : Result Entry ℤ → Reply
place_reply (Ok e) = success (value.Place e.1.parent e.1.name)
place_reply (Err code) = refusal code

-- the folder and the name of the file with that ID
unfoldable pub resolve_file_id : List Entry → ℕ → Reply
resolve_file_id es id = place_reply (file_of_id es id)
