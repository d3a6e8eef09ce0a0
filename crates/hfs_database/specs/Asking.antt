-- What a database is asked of images.
use Rattle.std.specs.Prelude.{◌≡◌, ℕ, pos, List, [], ◌∷◌, codes, String, string_bytes, Option, Some, None, Ok, Err}
use Rattle.sqlite.specs.declared.error.Error.TheVariants.{QueryReturnedNoRows}
use Rattle.sqlite.specs.declared.types.Value.{Value}
use Rattle.sqlite.specs.declared.types.Value.TheVariants.{Int, Null, Text}
use Rattle.sqlite.specs.State.{State, HasCleanDisk, QueriesRow}
use Rattle.sqlite_value.specs.Order.{column}
use Rattle.hfs_database.specs.declared.comparing.KnownImage.{KnownImage}

unfoldable pub known_image_text : List ℕ
known_image_text = codes "SELECT bytes, sha256 FROM image WHERE path = ?1"

unfoldable pub next_path_text : List ℕ
next_path_text = codes "SELECT path FROM image WHERE ?1 IS NULL OR path > ?1 ORDER BY path LIMIT 1"

-- this text was asked with these parameters, where the disk is clean still, and this is the answer's first row, where it has one
abbrev pub IsAnswered : State → State → List ℕ → List Value → Option (List Value) → Type 0
IsAnswered old new text params (Some row) = HasCleanDisk new → QueriesRow text params old new (Ok row)
IsAnswered old new text params None = HasCleanDisk new → QueriesRow text params old new (Err QueryReturnedNoRows)

-- a text, where there is one
abbrev pub text_or_null : {Z : Type 0} → Option (String Z) → Value
text_or_null (Some text) = Text (string_bytes text)
text_or_null None = Null

-- what a row says about an image
pub record TellsImage (row : List Value) (known : KnownImage) : Type 0 where
  pub bytes : column row 0 ≡ Int (pos known.bytes)
  pub digest : column row 1 ≡ text_or_null known.digest

-- what the database says about the image of this path, where it has a row of it
abbrev pub IsKnown : State → State → List ℕ → Option KnownImage → Type 0
IsKnown old new path (Some known) = HasCleanDisk new → (row : List Value) × QueriesRow known_image_text (Text path ∷ []) old new (Ok row) × TellsImage row known
IsKnown old new path None = HasCleanDisk new → QueriesRow known_image_text (Text path ∷ []) old new (Err QueryReturnedNoRows)

-- the path after the last one, where there is one
abbrev pub IsNext : {Z Y : Type 0} → State → State → Option (String Z) → Option (String Y) → Type 0
IsNext old new last (Some path) = HasCleanDisk new → (row : List Value) × QueriesRow next_path_text (text_or_null last ∷ []) old new (Ok row) × (column row 0 ≡ Text (string_bytes path))
IsNext old new last None = HasCleanDisk new → QueriesRow next_path_text (text_or_null last ∷ []) old new (Err QueryReturnedNoRows)
