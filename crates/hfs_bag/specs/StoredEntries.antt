-- What a shelf over memory was given.
use Rattle.std.specs.Prelude.{ℕ, List, Option, Some, None, Vec, map, string_bytes}
use Rattle.std.specs.Global.{Global}
use Rattle.hfs_bag.specs.Entries.{ShelfEntry, folder, file}
use Rattle.hfs_bag.specs.declared.memory.Stored.{Stored}

abbrev pub entry_with : List ℕ → Option ℕ → Option (Vec ℕ Global) → ShelfEntry
entry_with path time None = folder path
entry_with path time (Some bytes) = file path time bytes.items

abbrev pub stored_entry : Stored → ShelfEntry
stored_entry stored = entry_with (string_bytes stored.path) stored.modified stored.bytes

abbrev pub stored_entries : List Stored → List ShelfEntry
stored_entries stored = map stored_entry stored
