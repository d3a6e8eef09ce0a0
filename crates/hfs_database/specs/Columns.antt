-- The columns of a collection's tables as text: their names, and where their values are from.
use Rattle.std.specs.Prelude.{ℕ, List, [], ◌∷◌, codes}
use Rattle.hfs_database.specs.declared.value.Table.{Table}
use Rattle.hfs_database.specs.declared.value.Table.TheVariants as table
use Rattle.hfs_database.specs.declared.column.Column.{Column}
use Rattle.hfs_database.specs.declared.column.Label.{Label}
use Rattle.hfs_database.specs.declared.column.Label.TheVariants as label
use Rattle.hfs_database.specs.declared.column.Origin.{Origin}
use Rattle.hfs_database.specs.declared.column.Origin.TheVariants.{ImagePath, ImageDigest, VolumeNumber, Row}

-- a column: its name, and where its value is from
pub record Named : Type 0 where
  pub name : List ℕ
  pub origin : Origin

abbrev pub column : List ℕ → Origin → Named
column name origin = record { name = name; origin = origin }

abbrev pub told_column : Column → Named
told_column told = column told.name.now told.origin

unfoldable pub image_columns : List Named
image_columns =
    column (codes "path") (Row 0) ∷ column (codes "bytes") (Row 1) ∷ column (codes "sha256") (Row 2) ∷ column (codes "program") (Row 3) ∷
    []

-- the keys of the image, and the volume's own
unfoldable pub volume_columns : List Named
volume_columns =
    column (codes "image_path") ImagePath ∷ column (codes "image_sha256") ImageDigest ∷ column (codes "number") (Row 0) ∷ column (codes "how") (Row 1) ∷
    column (codes "first_byte") (Row 2) ∷ column (codes "bytes") (Row 3) ∷ column (codes "name") (Row 4) ∷ column (codes "created") (Row 5) ∷
    column (codes "modified") (Row 6) ∷ column (codes "backup") (Row 7) ∷ column (codes "blocks") (Row 8) ∷ column (codes "block_bytes") (Row 9) ∷
    column (codes "free_blocks") (Row 10) ∷ column (codes "verdict") (Row 11) ∷ []

-- the keys of the image and of the volume, and the item's own
unfoldable pub item_columns : List Named
item_columns =
    column (codes "image_path") ImagePath ∷ column (codes "image_sha256") ImageDigest ∷ column (codes "volume_number") VolumeNumber ∷
    column (codes "number") (Row 0) ∷ column (codes "path") (Row 1) ∷ column (codes "bag_path") (Row 2) ∷ column (codes "kind") (Row 3) ∷
    column (codes "cnid") (Row 4) ∷ column (codes "parent") (Row 5) ∷ column (codes "type") (Row 6) ∷ column (codes "creator") (Row 7) ∷
    column (codes "flags") (Row 8) ∷ column (codes "locked") (Row 9) ∷ column (codes "file_id") (Row 10) ∷ column (codes "created") (Row 11) ∷
    column (codes "modified") (Row 12) ∷ column (codes "backup") (Row 13) ∷ column (codes "items") (Row 14) ∷ column (codes "data_bytes") (Row 15) ∷
    column (codes "resource_bytes") (Row 16) ∷ column (codes "finder") (Row 17) ∷ column (codes "data_sha256") (Row 18) ∷ column (codes "resource_sha256") (Row 19) ∷
    column (codes "data_verdict") (Row 20) ∷ column (codes "resource_verdict") (Row 21) ∷ []

-- the keys of the image, and whether all its rows were given
unfoldable pub end_columns : List Named
end_columns =
    column (codes "image_path") ImagePath ∷ column (codes "image_sha256") ImageDigest ∷ column (codes "whole") (Row 0) ∷ []

abbrev pub columns_of : Table → List Named
columns_of table.Image = image_columns
columns_of table.Volume = volume_columns
columns_of table.Item = item_columns

-- what a line says that it is
abbrev pub label_name : Label → List ℕ
label_name (label.Row table.Image) = codes "image"
label_name (label.Row table.Volume) = codes "volume"
label_name (label.Row table.Item) = codes "item"
label_name label.End = codes "end"
