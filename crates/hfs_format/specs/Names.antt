-- The name of a new volume.
use Rattle.std.specs.Prelude.{◌≡◌, ℕ, IsTrue, if◌then◌else◌, List, Option, Some, None, chars}
use Rattle.hfs_fields.specs.Names.{is_item_name}
use Rattle.hfs_format.specs.Plan.{is_volume_name}
use Rattle.hfs_encodings.specs.Names.{given_name}
use Rattle.hfs_encodings.specs.Spelled.{host_letters, plain_letters}
use Rattle.hfs_encodings.specs.declared.names.GivenName.{GivenName}
use Rattle.hfs_encodings.specs.declared.names.GivenName.TheVariants.{Item, Other}
use Rattle.hfs_format.specs.declared.make_fault.MakeFault.{MakeFault}
use Rattle.hfs_format.specs.declared.make_fault.MakeFault.TheVariants.{BadName}
use Rattle.hfs_format.specs.declared.name.NameSource.{NameSource}
use Rattle.hfs_format.specs.declared.name.NameSource.TheVariants.{Typed, PlainText, FolderName, Nameless}
use Rattle.hfs_format.specs.declared.volume_name.VolumeName.{VolumeName}

-- the letters, where they are an item name
abbrev pub item_letters : GivenName → Option (List ℕ)
item_letters (Item name) = Some name
item_letters (Other name) = None

-- the item name that is read from this
abbrev pub name_in : NameSource → Option (List ℕ)
name_in (Typed text) = if is_item_name text.now then Some text.now else None
name_in (PlainText text) = item_letters (given_name (plain_letters (chars text.now)))
name_in (FolderName text) = item_letters (given_name (host_letters (chars text.now)))
name_in Nameless = None

abbrev pub IsNameOf : NameSource → VolumeName → Type 0
IsNameOf source name = name_in source ≡ Some name.name

-- it has no name, or one that no volume has
abbrev pub IsBadName : NameSource → MakeFault → Type 0
IsBadName source fault = (fault ≡ BadName) × ((name : List ℕ) → name_in source ≡ Some name → ¬ (IsTrue (is_volume_name name)))
