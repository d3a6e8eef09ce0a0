-- The rows of an image.
use Rattle.std.specs.Prelude.{ℕ, List, [], ◌∷◌, ◌++◌, length}
use Rattle.hfs_source.specs.Raw.{layout_of}
use Rattle.hfs_database.specs.declared.value.RowValue.{RowValue}
use Rattle.hfs_database.specs.declared.value.RowValue.TheVariants.{Number, Text}
use Rattle.hfs_database.specs.declared.value.Table.TheVariants.{Image}
use Rattle.hfs_database.specs.Taken.{TakenRow, row_of}
use Rattle.hfs_word_collect.specs.declared.image.ImageFacts.{ImageFacts}
use Rattle.hfs_word_collect.specs.Values.{digest_value, where_taken}
use Rattle.hfs_word_collect.specs.Volumes.{content_rows}

-- path, bytes, digest, program
unfoldable pub image_values : ImageFacts → List ℕ → List RowValue
image_values facts file =
    Text facts.path.now ∷ [] ++ Number (length file) ∷ [] ++ where_taken facts.takes_digests (digest_value file) ∷ [] ++ Text facts.program.now ∷ []

-- the image's own row, and those of all volumes that lie in it, or in the user data of its raw sectors, or of the one that is lost there
unfoldable pub image_rows : ImageFacts → List ℕ → List TakenRow
image_rows facts file = row_of Image (image_values facts file) ∷ content_rows facts.takes_digests (layout_of file) file
