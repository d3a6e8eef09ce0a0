-- One row after the other.
use Rattle.std.specs.Prelude.{◌≡◌, ℕ, ◌<◌, List, [], ◌++◌, length, Option, Some, None}
use Rattle.std.specs.Borrow.{Bor}
use Rattle.hfs_items.specs.ToldRows.{ToldRow}
use Rattle.hfs_page.specs.Items.{rows_text}

-- the first of the rows were added to the text, and so many folders are open after it; or no row is left
abbrev pub MovesRow : Option (Bor (List ℕ)) → ℕ → List ℕ → List ℕ → List ToldRow → List ToldRow → Option ℕ → Type 0
MovesRow base opened old new rows left None = (rows ≡ []) × (new ≡ old)
MovesRow base opened old new rows left (Some behind) = (old ++ rows_text base opened rows ≡ new ++ rows_text base behind left) × (length left < length rows)
