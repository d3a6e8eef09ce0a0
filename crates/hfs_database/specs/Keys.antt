-- The keys of rows: what was last of the images and volumes that rows belong to.
use Rattle.std.specs.Prelude.{ℕ, List, [], ◌∷◌, slice_index_or}
use Rattle.hfs_database.specs.declared.value.RowValue.{RowValue}
use Rattle.hfs_database.specs.declared.value.RowValue.TheVariants.{Empty}
use Rattle.hfs_database.specs.declared.value.Table.{Table}
use Rattle.hfs_database.specs.declared.value.Table.TheVariants as table
use Rattle.hfs_database.specs.Taken.{TakenRow}
use Rattle.hfs_database.specs.declared.column.Origin.{Origin}
use Rattle.hfs_database.specs.declared.column.Origin.TheVariants.{ImagePath, ImageDigest, VolumeNumber, Row}
use Rattle.hfs_database.specs.declared.keys.Keys.{Keys}

-- before the first row there are none
abbrev pub no_keys : Keys
no_keys = record { path = Empty; digest = Empty; number = Empty }

-- what is in this place of a row, and nothing where it has no such place
abbrev pub value_at : List RowValue → ℕ → RowValue
value_at values place = slice_index_or values place Empty

-- after a row: those of an image are its path and its digest, that of a volume is its number
abbrev pub keys_after : Keys → Table → List RowValue → Keys
keys_after keys table.Image values = record { path = value_at values 0; digest = value_at values 2; number = Empty }
keys_after keys table.Volume values = record { path = keys.path; digest = keys.digest; number = value_at values 0 }
keys_after keys table.Item values = keys

-- after these rows
abbrev pub keys_behind : Keys → List TakenRow → Keys
keys_behind keys [] = keys
keys_behind keys (row ∷ rest) = keys_behind (keys_after keys row.table row.values) rest

-- what is in a column of a row with these keys
abbrev pub cell : Keys → List RowValue → Origin → RowValue
cell keys values ImagePath = keys.path
cell keys values ImageDigest = keys.digest
cell keys values VolumeNumber = keys.number
cell keys values (Row place) = value_at values place
