-- Bytes of a volume as texts of a page.
use Rattle.std.specs.Prelude.{ℕ, ◌==◌, if◌then◌else◌, List, [], ◌++◌, take, drop, codes}
use Rattle.std.specs.Fmt.{decimal}
use Rattle.hfs_texts.specs.Moments.{moment}
use Rattle.hfs_texts.specs.PlainTexts.{plain_text}
use Rattle.hfs_page.specs.Escapes.{escaped}

-- plain text, escaped
abbrev pub shown : List ℕ → List ℕ
shown bytes = escaped (plain_text bytes)

-- YYYY-MM-DD hh:mm:ss; nothing where there is no date
unfoldable pub date_text : ℕ → List ℕ
date_text date = if date == 0 then [] else escaped (take 10 (moment date)) ++ codes " " ++ escaped (drop 11 (moment date))

-- texts, dates and numbers after what says what they are
unfoldable pub told_text : List ℕ → List ℕ → List ℕ
told_text label bytes = label ++ shown bytes

unfoldable pub told_date : List ℕ → ℕ → List ℕ
told_date label date = label ++ date_text date

unfoldable pub told_number : List ℕ → ℕ → List ℕ
told_number label number = label ++ decimal number
