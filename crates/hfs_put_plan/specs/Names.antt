-- The name that an item gets.
use Rattle.std.specs.Prelude.{ℕ, Bool, if◌then◌else◌, List, Option, Some, None}
use Rattle.hfs_encodings.specs.declared.names.GivenName.{GivenName}
use Rattle.hfs_encodings.specs.declared.names.GivenName.TheVariants.{Item, Other}

-- the one that was given, where it is an item name; where names may be changed, the one in its place
abbrev pub put_name : GivenName → Bool → Option (List ℕ)
put_name (Item name) rename = Some name
put_name (Other name) rename = if rename then Some name else None
