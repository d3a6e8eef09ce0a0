-- The rows of an image that is collected.
use Rattle.std.specs.Prelude.{◌≡◌, ℕ, List}
use Rattle.hfs_database.specs.Taken.{IsBeginning, TakenRow}
use Rattle.hfs_word_collect.specs.declared.image.ImageFacts.{ImageFacts}
use Rattle.hfs_word_collect.specs.Images.{image_rows}

-- these are the rows of an image, where it has the bytes which were read
abbrev pub AreRowsOf : (List ℕ → Type 0) → List ℕ → ImageFacts → List TakenRow → Type 0
AreRowsOf Holds image facts rows = Holds image → rows ≡ image_rows facts image

-- these are the first rows of an image, where it has the bytes which were read
abbrev pub AreFirstRowsOf : (List ℕ → Type 0) → List ℕ → ImageFacts → List TakenRow → Type 0
AreFirstRowsOf Holds image facts rows = Holds image → IsBeginning rows (image_rows facts image)
