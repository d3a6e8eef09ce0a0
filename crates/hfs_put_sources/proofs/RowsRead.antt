-- What is told of an item comes back from its row.
use Rattle.std.proofs.Common.{◌≡◌, ◌∙◌, ap, refl, ℕ, ◌/◌, ◌%◌, ◌^◌, ◌<◌, Bool, true, false, List, [], ◌∷◌, ◌++◌, take, drop, Option, Some, codes}
use Rattle.std.specs.Prelude.{◌==◌, if◌then◌else◌}
use Rattle.std.specs.List.{list_all}
use Rattle.std.specs.Option.{option_map, option_zip}
use Rattle.csv.specs.Records.{field_at}
use Rattle.hfs_model.specs.declared.reply.Info.{Info}
use Rattle.hfs_model.specs.declared.reply.ItemKind.{ItemKind}
use Rattle.hfs_model.specs.declared.reply.ItemKind.TheVariants.{Folder, File}
use Rattle.hfs_texts.specs.Calendar.{day_since_1904}
use Rattle.hfs_texts.specs.NameLaws.{is_bytes}
use Rattle.hfs_texts.specs.Moments.{day_text, moment, time_text}
use Rattle.hfs_table.proofs.Dates.{date_text}
use Rattle.hfs_table.specs.Cells.{Cell, flag, cell_text}
use Rattle.hfs_table.specs.Columns.{columns, kind_word, moment_cell, of_file, of_folder}
use Rattle.hfs_table.specs.Lines.{bag_end, bag_path, csv_fields, field_text}
use Rattle.hfs_table.specs.declared.column.Column.{Column}
use Rattle.hfs_table.specs.declared.column.Column.TheVariants as column
use Rattle.hfs_encodings.specs.declared.incoming_apple_double.FileDates.{FileDates}
use Rattle.hfs_put_sources.specs.declared.rows.ItemRow.{ItemRow}
use Rattle.hfs_put_sources.specs.TagLaws.{IsRowReadBack, is_locked, row_fields, row_told}
use Rattle.hfs_put_sources.specs.Moments.{date_in}
use Rattle.hfs_put_sources.specs.Rows.{item_row, lock_of}
use Rattle.hfs_put_sources.proofs.Clean.{all-drop, all-take, are_clean, decimal-clean, hex-clean, host_path-clean, is_clean, mac_path-clean, moment-clean, plain-clean}
use Rattle.hfs_put_sources.proofs.MomentsRead.{moment-back}
use Rattle.hfs_put_sources.proofs.Parted.{line-run, next-line}

-- ---- no field holds a line's end

of_file-clean : (kind : ItemKind) (c : Cell) → are_clean (cell_text c) ≡ true → are_clean (cell_text (of_file kind c)) ≡ true
of_file-clean Folder c h = refl
of_file-clean File c h = h

of_folder-clean : (kind : ItemKind) (c : Cell) → are_clean (cell_text c) ≡ true → are_clean (cell_text (of_folder kind c)) ≡ true
of_folder-clean Folder c h = h
of_folder-clean File c h = refl

flag-clean : (b : Bool) → are_clean (cell_text (flag b)) ≡ true
unfolding is_clean
flag-clean true = refl
flag-clean false = refl

moment-none : (date : ℕ) → (date == 0) ≡ true → moment date ≡ []
unfolding moment
moment-none date e = ap (λ t. if t then [] else day_text (day_since_1904 (date / 86400)) ++ codes "T" ++ time_text (date % 86400)) e

-- the numbers of an item that its row has
pub record AreSmall (info : Info) : Type 0 where
  pub id : info.id < 2 ^ 64
  pub parent : info.parent < 2 ^ 64
  pub valence : info.valence < 2 ^ 64
  pub data_bytes : info.data_len < 2 ^ 64
  pub resource_bytes : info.res_len < 2 ^ 64

module _ (names : List (List ℕ)) (info : Info) (bytes : list_all is_bytes names ≡ true) (finder : is_bytes info.finder ≡ true) (small : AreSmall info) where
  kind-clean : (kind : ItemKind) → are_clean (kind_word kind) ≡ true
  unfolding is_clean
  kind-clean Folder = refl
  kind-clean File = refl

  date-clean : (date : ℕ) → are_clean (cell_text (moment_cell date)) ≡ true
  date-clean date = ap are_clean (date_text date) ∙ moment-clean date

  column-clean : (c : Column) → are_clean (field_text names info c) ≡ true
  column-clean column.Path = mac_path-clean names bytes
  column-clean column.Kind = kind-clean info.kind
  column-clean column.Id = decimal-clean info.id small.id
  column-clean column.Parent = decimal-clean info.parent small.parent
  column-clean column.Type = of_file-clean info.kind _ (plain-clean (take 4 info.finder) (all-take 4 info.finder finder))
  column-clean column.Creator = of_file-clean info.kind _ (plain-clean (take 4 (drop 4 info.finder)) (all-take 4 (drop 4 info.finder) (all-drop _ 4 info.finder finder)))
  column-clean column.Flags = hex-clean (take 2 (drop 8 info.finder)) (all-take 2 (drop 8 info.finder) (all-drop _ 8 info.finder finder))
  column-clean column.Locked = of_file-clean info.kind _ (flag-clean info.locked)
  column-clean column.FileId = of_file-clean info.kind _ (flag-clean info.has_id)
  column-clean column.Created = date-clean info.created
  column-clean column.Modified = date-clean info.modified
  column-clean column.Backup = date-clean info.backup
  column-clean column.Items = of_folder-clean info.kind _ (decimal-clean info.valence small.valence)
  column-clean column.DataBytes = of_file-clean info.kind _ (decimal-clean info.data_len small.data_bytes)
  column-clean column.ResourceBytes = of_file-clean info.kind _ (decimal-clean info.res_len small.resource_bytes)
  column-clean column.Finder = hex-clean info.finder finder

-- ---- what is told

lock-back : (kind : ItemKind) (locked : Bool) → lock_of kind (cell_text (of_file kind (flag locked))) ≡ Some (is_locked kind locked)
lock-back Folder locked = refl
lock-back File true = refl
lock-back File false = refl

date-read : (date : ℕ) → date < 2 ^ 32 → date_in (cell_text (moment_cell date)) ≡ Some date
date-read date small = ap date_in (date_text date) ∙ moment-back date small

dates-with : ItemKind → Option Bool → Option ℕ → Option ℕ → Option ℕ → Option ItemRow
dates-with kind locked created modified backup =
    option_map (λ (found : Bool × FileDates). record { kind = kind; locked = found.0; dates = found.1 })
    (option_zip locked (option_map (λ (found : (ℕ × ℕ) × ℕ). record { created = found.0.0; modified = found.0.1; backup = found.1 }) (option_zip (option_zip created modified) backup)))

-- by the fields that are read, among the others
with-kind : (kind : ItemKind) (a c d e f g i m n o p q lock created modified backup : List ℕ)
    → item_row (a ∷ kind_word kind ∷ c ∷ d ∷ e ∷ f ∷ g ∷ lock ∷ i ∷ created ∷ modified ∷ backup ∷ m ∷ n ∷ o ∷ p ∷ q ∷ [])
    ≡ dates-with kind (lock_of kind lock) (date_in created) (date_in modified) (date_in backup)
unfolding item_row field_at dates-with
with-kind Folder a c d e f g i m n o p q lock created modified backup = refl
with-kind File a c d e f g i m n o p q lock created modified backup = refl

told : (names : List (List ℕ)) (info : Info) → info.created < 2 ^ 32 → info.modified < 2 ^ 32 → info.backup < 2 ^ 32
    → item_row (row_fields names info) ≡ Some (row_told info)
unfolding dates-with columns
told names info a b c =
    with-kind info.kind _ _ _ _ _ _ _ _ _ _ _ _ _ _ _ _
    ∙ (λ i. dates-with info.kind (lock-back info.kind info.locked i) (date-read info.created a i) (date-read info.modified b i) (date-read info.backup c i))

-- the columns behind the first
abbrev behind-path : List Column
behind-path =
    column.Kind ∷ column.Id ∷ column.Parent ∷ column.Type ∷ column.Creator ∷ column.Flags ∷ column.Locked ∷ column.FileId
    ∷ column.Created ∷ column.Modified ∷ column.Backup ∷ column.Items ∷ column.DataBytes ∷ column.ResourceBytes ∷ column.Finder ∷ []

pub row-read-back : (names : List (List ℕ)) (info : Info) → list_all is_bytes names ≡ true → is_bytes info.finder ≡ true → AreSmall info
    → info.created < 2 ^ 32 → info.modified < 2 ^ 32 → info.backup < 2 ^ 32 → IsRowReadBack names info
unfolding csv_fields bag_end columns
row-read-back names info bytes finder small a b c = record {
  parted = λ rest. line-run (field_text names info) (column-clean names info bytes finder small) column.Path behind-path (bag_path names) rest
      (host_path-clean (drop 1 names) (all-drop is_bytes 1 names bytes));
  goes_on = next-line;
  told = told names info a b c;
}
