-- An image's rows as text.
use Rattle.std.specs.Prelude.{ℕ, Bool, true, false, List, Option}
use Rattle.std.specs.Io.KnownBytes.{Appends}
use Rattle.hfs_database.specs.Taken.{TakenRow, IsBeginning}
use Rattle.hfs_texts.specs.Writing.{AppendsFront}
use Rattle.hfs_database.specs.declared.form.Form.{Form}
use Rattle.hfs_database.specs.RowTexts.{image_text}

-- the lines of these rows were written, and after them that the image is whole
abbrev pub WritesWhole : Option (List ℕ) → Option (List ℕ) → Form → List TakenRow → Type 0
WritesWhole old new form rows = Appends old new (image_text form rows true)

-- the lines of some of these rows, from the first on, and after them that the image isn't whole
abbrev pub WritesSome : Option (List ℕ) → Option (List ℕ) → Form → List TakenRow → Type 0
WritesSome old new form rows = ∥ ((some : List TakenRow) × IsBeginning some rows × Appends old new (image_text form some false)) ∥₁

-- a beginning of one or the other
abbrev pub WritesPart : Option (List ℕ) → Option (List ℕ) → Form → List TakenRow → Type 0
WritesPart old new form rows = ∥ ((some : List TakenRow) × IsBeginning some rows × (is_whole : Bool) × AppendsFront old new (image_text form some is_whole)) ∥₁
