-- The text of a page.
use Rattle.std.specs.Prelude.{ℕ, List, [], ◌∷◌, ◌++◌, take, codes}
use Rattle.hfs_fields.specs.declared.mdb.Mdb.{Mdb}
use Rattle.hfs_catalog.specs.Records.{Catalog}
use Rattle.hfs_page.specs.declared.cells.Cell.{Cell}
use Rattle.hfs_page.specs.declared.page_texts.PageTexts.{PageTexts}
use Rattle.hfs_page.specs.declared.parts.Holding.{Holding}
use Rattle.hfs_page.specs.Escapes.{escaped}
use Rattle.hfs_page.specs.Extents.{extents_text}
use Rattle.hfs_page.specs.Facts.{head_text, facts_text, image_rows}
use Rattle.hfs_page.specs.Picture.{picture_text}
use Rattle.hfs_page.specs.Texts.{shown}

-- the characters of a name in its field of a length byte and characters
abbrev pub volume_name : List ℕ → List ℕ
volume_name [] = []
volume_name (len ∷ characters) = take len characters

-- before the items of an image of so many blocks
unfoldable pub front_text : PageTexts → ℕ → Mdb → List ℕ
front_text texts total mdb =
    head_text texts.style.now (shown (volume_name mdb.volume_name)) ++ facts_text texts.image total mdb ++ texts.columns.now ++ codes "<ul id=\"items\">\n"

-- which program printed the page
unfoldable pub version_text : List ℕ → List ℕ
version_text version = codes "<footer>Printed by hfs_tool " ++ escaped version ++ codes "</footer>\n"

unfoldable pub end_text : PageTexts → List ℕ
end_text texts = version_text texts.version.now ++ texts.script.now ++ codes "</main>\n</body>\n</html>\n"

-- after the items: the picture, the extents of the files, the legend, and the end
unfoldable pub back_text : PageTexts → Catalog → List Holding → List Cell → List ℕ
back_text texts catalog holdings cells =
    codes "</ul>\n</section>\n" ++ picture_text catalog cells ++ extents_text holdings ++ texts.legend.now ++ end_text texts

-- of an image that is refused
unfoldable pub refused_page : PageTexts → List ℕ → List ℕ → List ℕ
refused_page texts refusal meaning =
    head_text texts.style.now (codes "Refused") ++ codes "<dl>\n<div><dt>Check</dt><dd>refused</dd></div>\n" ++ image_rows texts.image ++ codes "</dl>\n<p>" ++ escaped refusal ++ codes "</p>\n<p>" ++ escaped meaning ++ codes "</p>\n"
    ++ version_text texts.version.now ++ codes "</main>\n</body>\n</html>\n"
