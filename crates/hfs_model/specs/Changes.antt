-- What an accepted change makes of a volume.
use Rattle.std.specs.Prelude.{ℕ, ◌+◌, ℤ, Bool, false, List, [], ◌∷◌, ◌++◌, drop, replicate, Result, Ok, Err}
use Rattle.std.specs.Option.{option_map_or}
use Rattle.std.specs.FinMap as map
use Rattle.hfs_model.specs.declared.item.Item.{Item}
use Rattle.hfs_model.specs.declared.item.Kind.{Kind}
use Rattle.hfs_model.specs.declared.item.Kind.TheVariants as kind
use Rattle.hfs_model.specs.declared.reply.Value.TheVariants as value
use Rattle.hfs_model.specs.declared.reply.Reply.{Reply}
use Rattle.hfs_model.specs.Volume.{Volume, Items, Entry}
use Rattle.hfs_model.specs.Children.{entry_at}
use Rattle.hfs_model.specs.Replies.{refusal, success}
use Rattle.hfs_model.specs.Choices.{to_create, to_delete, to_rename, to_move, to_set_f_info, to_set_cat_info, file_to_change}

-- the volume after a call, and its reply
abbrev pub Outcome : Type 0
Outcome = Volume × Reply

-- a refused change leaves the volume
abbrev pub refused : Volume → ℤ → Outcome
refused v code = (v, refusal code)

-- ---- changes of the items

-- the folder's modified date is now
abbrev pub touched : Items → ℕ → ℕ → Items
touched items dir now = option_map_or (λ (e : Entry). map.insert items e.0 (record e.1 { modified = now })) (entry_at (map.entries items) dir) items

-- the item put under another parent, with the modified date of both folders
abbrev pub moved : Items → Entry → ℕ → ℕ → ℕ → Items
moved items e dir new_dir now = touched (touched (map.insert items e.0 (record e.1 { parent = new_dir })) dir now) new_dir now

abbrev pub with_lock : Bool → Kind → Kind
with_lock locked (kind.Folder kept) = kind.Folder kept
with_lock locked (kind.File file) = kind.File (record file { locked = locked })

-- ---- new items

-- a new folder's record is zeros except for what the model has of it
abbrev pub new_folder : Kind
new_folder = kind.Folder (replicate 70 0)

-- a new file is unlocked, with no thread and empty forks; the flags of its record, at offset 2, are $80
abbrev pub new_file : Kind
new_file = kind.File (record { kept = 0 ∷ 0 ∷ 128 ∷ replicate 99 0; locked = false; has_thread = false; «data» = []; resource = [] })

-- created and modified now, never backed up, Finder bytes 0
abbrev pub new_item : Kind → ℕ → List ℕ → ℕ → Item
new_item kind dir name now = record { parent = dir; name = name; created = now; modified = now; backup = 0; finder = replicate 32 0; kind = kind }

-- ---- the outcome of a choice

-- the volume with the items so changed, last changed at that moment
abbrev pub changed_to : Volume → Items → ℕ → Volume
changed_to v items now = record v { items = items; changed = now }

-- a change of the chosen item, which answers nothing
abbrev pub change : Volume → Result Entry ℤ → (Entry → Items → Items) → ℕ → Outcome
change v (Ok e) make now = (changed_to v (make e v.items) now, success value.Nothing)
change v (Err code) make now = refused v code

-- a new item under the chosen ID, which is answered; the next ID rises by one
abbrev pub add : Volume → Result ℕ ℤ → (ℕ → Items → Items) → ℕ → Outcome
add v (Ok id) make now = (record (changed_to v (make id v.items) now) { next_id = v.next_id + 1 }, success (value.Id id))
add v (Err code) make now = refused v code

-- ---- the calls

-- a new item in the folder, whose modified date is now
unfoldable pub create : Kind → Volume → ℕ → List ℕ → ℕ → Outcome
create kind v dir name now = add v (to_create v dir name) (λ id m. touched (map.insert m id (new_item kind dir name now)) dir now) now

-- the item goes, and the folder's modified date is now
unfoldable pub delete : Volume → ℕ → List ℕ → ℕ → Outcome
delete v dir name now = change v (to_delete v dir name) (λ e m. touched (map.remove m e.0) dir now) now

-- the name alone changes
unfoldable pub rename : Volume → ℕ → List ℕ → List ℕ → ℕ → Outcome
rename v dir name new_name now = change v (to_rename v dir name new_name) (λ e m. map.insert m e.0 (record e.1 { name = new_name })) now

-- the parent changes, and the modified date of both folders
unfoldable pub cat_move : Volume → ℕ → List ℕ → ℕ → ℕ → Outcome
cat_move v dir name new_dir now = change v (to_move v dir name new_dir) (λ e m. moved m e dir new_dir now) now

-- the first 16 Finder bytes change
unfoldable pub set_f_info : Volume → ℕ → List ℕ → List ℕ → ℕ → Outcome
set_f_info v dir name info now = change v (to_set_f_info v dir name) (λ e m. map.insert m e.0 (record e.1 { finder = info ++ drop 16 e.1.finder })) now

-- the three dates and all 32 Finder bytes change
unfoldable pub set_cat_info : Volume → ℕ → List ℕ → ℕ → ℕ → ℕ → List ℕ → ℕ → Outcome
set_cat_info v dir name created modified backup info now =
    change v (to_set_cat_info v dir name) (λ e m. map.insert m e.0 (record e.1 { created = created; modified = modified; backup = backup; finder = info })) now

-- the lock of a file changes
unfoldable pub set_lock : Bool → Volume → ℕ → List ℕ → ℕ → Outcome
set_lock locked v dir name now = change v (file_to_change v dir name) (λ e m. map.insert m e.0 (record e.1 { kind = with_lock locked e.1.kind })) now
