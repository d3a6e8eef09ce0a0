-- Rows of a bag's table of items, by their fields: what is said about an item.
use Rattle.std.specs.Prelude.{ℕ, Bool, true, false, ◌==◌, if◌then◌else◌, List, length, Option, Some, None, codes, bytes_eq}
use Rattle.std.specs.Option.{option_and_then, option_map, option_zip}
use Rattle.csv.specs.Records.{field_at}
use Rattle.hfs_model.specs.declared.reply.ItemKind.{ItemKind}
use Rattle.hfs_model.specs.declared.reply.ItemKind.TheVariants.{Folder, File}
use Rattle.hfs_encodings.specs.declared.incoming_apple_double.FileDates.{FileDates}
use Rattle.hfs_put_sources.specs.declared.rows.ItemRow.{ItemRow}
use Rattle.hfs_put_sources.specs.Moments.{date_in}

-- the kind that a word names
abbrev pub kind_of : List ℕ → Option ItemKind
kind_of field = if bytes_eq field (codes "folder") then Some Folder else if bytes_eq field (codes "file") then Some File else None

-- the lock: `yes` or `no` of a file, and nothing of a folder
abbrev pub lock_of : ItemKind → List ℕ → Option Bool
lock_of Folder field = if length field == 0 then Some false else None
lock_of File field = if bytes_eq field (codes "yes") then Some true else if bytes_eq field (codes "no") then Some false else None

-- ---- by the places of the columns

abbrev pub kind_at : List (List ℕ) → Option ItemKind
kind_at fields = option_and_then kind_of (field_at fields 1)

abbrev pub lock_at : ItemKind → List (List ℕ) → Option Bool
lock_at kind fields = option_and_then (lock_of kind) (field_at fields 7)

abbrev pub date_at : ℕ → List (List ℕ) → Option ℕ
date_at place fields = option_and_then date_in (field_at fields place)

-- created, modified and backup, where all three are moments
abbrev pub dates_at : List (List ℕ) → Option FileDates
dates_at fields =
    option_map (λ (found : (ℕ × ℕ) × ℕ). record { created = found.0.0; modified = found.0.1; backup = found.1 })
    (option_zip (option_zip (date_at 9 fields) (date_at 10 fields)) (date_at 11 fields))

abbrev pub row_of : ItemKind → List (List ℕ) → Option ItemRow
row_of kind fields =
    option_map (λ (found : Bool × FileDates). record { kind = kind; locked = found.0; dates = found.1 }) (option_zip (lock_at kind fields) (dates_at fields))

-- what 17 fields say about their item; nothing where one that is read isn't as such a field is
unfoldable pub item_row : List (List ℕ) → Option ItemRow
item_row fields = if length fields == 17 then option_and_then (λ kind. row_of kind fields) (kind_at fields) else None
