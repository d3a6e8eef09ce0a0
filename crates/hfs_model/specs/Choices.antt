-- What each change first chooses in the volume: the item that it changes, the ID that it gives, or the code that refuses it.
-- In each choice the first code that holds is the one.
use Rattle.std.specs.Prelude.{ℕ, zero, suc, ℤ, Bool, false, not, ◌&&◌, ◌||◌, ◌==◌, nat_lt, is_some, if◌then◌else◌, List, length, find, Result, Ok, Err}
use Rattle.std.specs.Option.{option_map_or, ok_or}
use Rattle.hfs_fields.specs.Names.{is_item_name}
use Rattle.hfs_model.specs.declared.codes.TheConstants.{FOLDER_FULL, BAD_NAME, NOT_FOUND, HARDWARE_LOCKED, FILE_LOCKED, SOFTWARE_LOCKED, BUSY, DUPLICATE, NOT_A_FOLDER, BAD_MOVE}
use Rattle.hfs_model.specs.Volume.{Volume, Entry}
use Rattle.hfs_model.specs.Children.{is_folder, is_folder_kind, is_child_named, child_named, valence, entries_of, entry_at}
use Rattle.hfs_model.specs.Replies.{is_locked_file}

-- the next choice, unless a code was chosen
abbrev pub and_then : {A B : Type 0} → Result A ℤ → (A → Result B ℤ) → Result B ℤ
and_then (Ok e) next = next e
and_then (Err code) next = Err code

-- ---- tests of a volume and its items

abbrev pub is_locked : Volume → Bool
is_locked v = v.hardware_locked || v.software_locked

-- of a locked volume: -44 where it is locked by hardware, else -46
abbrev pub lock_code : Volume → ℤ
lock_code v = if v.hardware_locked then HARDWARE_LOCKED else SOFTWARE_LOCKED

-- whether it is a folder with children
unfoldable pub is_busy : List Entry → Entry → Bool
is_busy es e = is_folder_kind e.1.kind && nat_lt 0 (valence es e.0)

-- no room for one more child
unfoldable pub is_full : List Entry → ℕ → Bool
is_full es dir = not (nat_lt (valence es dir) 65535)

-- the folder holds an item of that name
unfoldable pub is_held : List Entry → ℕ → List ℕ → Bool
is_held es dir name = is_some (child_named es dir name)

-- an item of the folder with that name, other than the one of this ID
abbrev pub is_other_named : ℕ → List ℕ → ℕ → Entry → Bool
is_other_named dir name id e = is_child_named dir name e && not (e.0 == id)

unfoldable pub is_taken : List Entry → ℕ → List ℕ → ℕ → Bool
is_taken es dir name id = is_some (find (is_other_named dir name id) es)

-- whether up is at most n parents above id
unfoldable pub lies_in : List Entry → ℕ → ℕ → ℕ → Bool
lies_in es zero id up = id == up
lies_in es (suc n) id up = (id == up) || option_map_or (λ (e : Entry). lies_in es n e.1.parent up) (entry_at es id) false

-- whether a move to a folder would put the item into itself: in a lawful volume no chain of parents is longer than the
-- number of items
unfoldable pub is_bad_move : List Entry → Entry → ℕ → Bool
is_bad_move es e dir = is_folder_kind e.1.kind && lies_in es (length es) dir e.0

-- ---- the choices

-- the folder's item of that name, in a volume that may be changed: -44 or -46, -37, -120, -43
unfoldable pub child_to_change : Volume → ℕ → List ℕ → Result Entry ℤ
child_to_change v dir name =
    if is_locked v then Err (lock_code v)
    else if not (is_item_name name) then Err BAD_NAME
    else if not (is_folder (entries_of v) dir) then Err NOT_A_FOLDER
    else ok_or (child_named (entries_of v) dir name) NOT_FOUND

-- the same of a file: then -43 of a folder
unfoldable pub file_to_change : Volume → ℕ → List ℕ → Result Entry ℤ
file_to_change v dir name = and_then (child_to_change v dir name) (λ e. if is_folder_kind e.1.kind then Err NOT_FOUND else Ok e)

-- -45 of a locked file
abbrev pub unless_locked_file : Entry → Result Entry ℤ
unless_locked_file e = if is_locked_file e.1.kind then Err FILE_LOCKED else Ok e

-- the ID that a new item gets: -44 or -46, -37, -120, -48, -33
unfoldable pub to_create : Volume → ℕ → List ℕ → Result ℕ ℤ
to_create v dir name =
    if is_locked v then Err (lock_code v)
    else if not (is_item_name name) then Err BAD_NAME
    else if not (is_folder (entries_of v) dir) then Err NOT_A_FOLDER
    else if is_held (entries_of v) dir name then Err DUPLICATE
    else if is_full (entries_of v) dir || (v.next_id == 4294967295) then Err FOLDER_FULL
    else Ok v.next_id

-- -47 of a folder with children, then -45
unfoldable pub to_delete : Volume → ℕ → List ℕ → Result Entry ℤ
to_delete v dir name = and_then (child_to_change v dir name) (λ e. if is_busy (entries_of v) e then Err BUSY else unless_locked_file e)

-- -45, then -48 where another item of the folder has the new name
unfoldable pub to_rename : Volume → ℕ → List ℕ → List ℕ → Result Entry ℤ
to_rename v dir name new_name =
    if is_locked v then Err (lock_code v)
    else if not (is_item_name new_name) then Err BAD_NAME
    else and_then (and_then (child_to_change v dir name) unless_locked_file) (λ e.
    if is_taken (entries_of v) dir new_name e.0 then Err DUPLICATE else Ok e)

-- -120 and -122 of the new folder, then -48 where it holds that name, also where that is the item itself, then -33
unfoldable pub to_move : Volume → ℕ → List ℕ → ℕ → Result Entry ℤ
to_move v dir name new_dir = and_then (child_to_change v dir name) (λ e.
    if not (is_folder (entries_of v) new_dir) then Err NOT_A_FOLDER
    else if is_bad_move (entries_of v) e new_dir then Err BAD_MOVE
    else if is_held (entries_of v) new_dir name then Err DUPLICATE
    else if is_full (entries_of v) new_dir then Err FOLDER_FULL
    else Ok e)

-- -43 of a folder, then -45
unfoldable pub to_set_f_info : Volume → ℕ → List ℕ → Result Entry ℤ
to_set_f_info v dir name = and_then (file_to_change v dir name) unless_locked_file

-- -45
unfoldable pub to_set_cat_info : Volume → ℕ → List ℕ → Result Entry ℤ
to_set_cat_info v dir name = and_then (child_to_change v dir name) unless_locked_file
