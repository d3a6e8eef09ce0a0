-- The lines of volumes, and of contents that lie on several.
use Rattle.std.specs.Prelude.{ℕ, ◌+◌, ◌%◌, ◌==◌, if◌then◌else◌, List, [], ◌∷◌, ◌++◌, codes, Option}
use Rattle.std.specs.Borrow.{Bor}
use Rattle.std.specs.List.{flat_map}
use Rattle.sqlite.specs.declared.types.Value.{Value}
use Rattle.sqlite.specs.declared.types.Value.TheVariants.{Int, Null, Real, Text, Blob}
use Rattle.sqlite_value.specs.Order.{Row, column}
use Rattle.hfs_page.specs.Escapes.{escaped}
use Rattle.hfs_page.specs.Links.{link_end, link_start}

-- a text, and nothing of any other value
abbrev pub text_of : Value → List ℕ
text_of (Text text) = text
text_of Null = []
text_of (Int n) = []
text_of (Real x) = []
text_of (Blob bytes) = []

-- the text in a column of a row, in markup
abbrev pub cell_text : Row → ℕ → List ℕ
cell_text row at = escaped (text_of (column row at))

-- a column besides the first one
unfoldable pub span_text : Row → ℕ → List ℕ
span_text row at = codes "<span>" ++ cell_text row at ++ codes "</span>"

-- the image, as a link to its page below this URL where it is known
unfoldable pub volume_head : Option (Bor (List ℕ)) → Row → List ℕ
volume_head base row = codes "<li><b>" ++ link_start base (text_of (column row 0)) ++ cell_text row 1 ++ link_end base ++ codes "</b>"

-- the volume's name, its files, the damaged ones, and its free space
unfoldable pub counts_text : Row → List ℕ
counts_text row = span_text row 2 ++ span_text row 3 ++ span_text row 4 ++ span_text row 5

-- its dates and its verdict
unfoldable pub dates_text : Row → List ℕ
dates_text row = span_text row 6 ++ span_text row 7 ++ span_text row 8

unfoldable pub volume_text : Option (Bor (List ℕ)) → Row → List ℕ
volume_text base row = volume_head base row ++ counts_text row ++ dates_text row ++ codes "</li>\n"

-- before the line at this place: lists of 100 lines, of which a browser lays out those that are seen
unfoldable pub break_text : ℕ → List ℕ
break_text place = if place % 100 == 0 then (if place == 0 then [] else codes "</ul>\n<ul>\n") else []

-- lines, of which the first is at this place
abbrev pub volumes_text : Option (Bor (List ℕ)) → ℕ → List Row → List ℕ
volumes_text base place [] = []
volumes_text base place (row ∷ rows) = (break_text place ++ volume_text base row) ++ volumes_text base (place + 1) rows

-- a path, volumes, bytes, the digest
unfoldable pub content_text : Row → List ℕ
content_text row = codes "<li><b>" ++ cell_text row 0 ++ codes "</b>" ++ span_text row 1 ++ span_text row 2 ++ span_text row 3 ++ codes "</li>\n"

abbrev pub contents_text : List Row → List ℕ
contents_text rows = flat_map content_text rows
