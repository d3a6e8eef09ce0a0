-- Records of the catalog as things that have a place: items, and folders that only a thread names.
use Rattle.std.specs.Prelude.{ℕ, Bool, true, false, ◌&&◌, ◌==◌, not, if◌then◌else◌, List, length, Option, Some, None}
use Rattle.std.specs.List.{flat_map}
use Rattle.std.specs.Option.{option_to_list}
use Rattle.hfs_fields.specs.Records.{is_dir, is_dir_thread, has_short_name, item_id, thread_record_of}
use Rattle.hfs_remains.specs.declared.catalog.FoundRecord.{FoundRecord}
use Rattle.hfs_remains_places.specs.declared.things.Thing.{Thing}

-- ---- items

-- the number of a folder's record
abbrev pub folder_number : List ℕ → Option ℕ
folder_number body = if is_dir body then Some (item_id body) else None

abbrev pub thing_of : FoundRecord → Thing
thing_of item = record {
  parent = item.entry.0.parent;
  name = item.entry.0.name;
  folder = folder_number item.entry.1;
  old = item.old;
  named = false;
}

-- ---- folders that a thread names

-- the record is a folder's thread, with an empty name in its key and a name of 1 to 31 bytes in its body
abbrev pub names_folder : FoundRecord → Bool
names_folder r =
    (length r.entry.0.name == 0) && is_dir_thread r.entry.1 && has_short_name r.entry.1 && not (length (thread_record_of r.entry.1).name == 0)

-- its key has the folder's number, its body the number of the folder above and the name
abbrev pub named_by : FoundRecord → Thing
named_by r = record {
  parent = (thread_record_of r.entry.1).parent;
  name = (thread_record_of r.entry.1).name;
  folder = Some r.entry.0.parent;
  old = false;
  named = true;
}

abbrev pub naming : FoundRecord → Option Thing
naming r = if names_folder r then Some (named_by r) else None

-- those of records, in order
abbrev pub namings_of : List FoundRecord → List Thing
namings_of records = flat_map (λ r. option_to_list (naming r)) records
